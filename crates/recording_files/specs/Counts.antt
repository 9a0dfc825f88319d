-- How the frames of a file are counted (this project's profile).
use Rattle.std.specs.Prelude.{◌≡◌, ℕ, ◌+◌, ◌-◌, ◌*◌, ◌^◌, max, min, List, Option, Some, None}
use Rattle.pcap_io.specs.declared.layout.Layout.{Layout}
use Rattle.pcap_io.specs.declared.packet_header.PacketHeader.{PacketHeader}
use Rattle.recording_files.specs.Run.{IsRun}
use Rattle.recording_files.specs.declared.joined.JoinedSource.{JoinedSource}
use Rattle.recording_files.specs.declared.stage.FilesStage.{FilesStage}
use Rattle.recording_files.specs.declared.stage.FilesStage.TheVariants as stages
use Rattle.recording_files.specs.declared.supply.ReadFile.{ReadFile}

-- all that is told of it where it comes back
abbrev pub read_file_of : {P F : Type 0} → JoinedSource P F → Option F → Option (ReadFile F)
read_file_of j None = None
read_file_of j (Some file) = Some (record { source = file; frames = j.frames; greatest = j.greatest })

-- so many frames more were counted, of which this is the greatest timestamp
pub record CountsFrames {P F : Type 0} (old new : JoinedSource P F) (frames greatest : ℕ) : Type 0 where
  pub count : new.frames ≡ min (old.frames + frames) (2 ^ 64 - 1)
  pub time : new.greatest ≡ max old.greatest greatest

-- the counts of a run of packets were
pub record CountsRun {P F : Type 0} (layout : Layout) (old new : JoinedSource P F) (bytes : List ℕ) : Type 0 where
  pub frames : ℕ
  pub greatest : ℕ
  pub packets : IsRun layout bytes frames greatest
  pub counted : CountsFrames old new frames greatest

-- a frame of this header was counted if all its bytes are there
abbrev pub CountsBody : {P F : Type 0} → JoinedSource P F → JoinedSource P F → PacketHeader → FilesStage → Type 0
CountsBody old new header (stages.Given (Some layout) from) = CountsFrames old new 1 (header.seconds * 1000000000 + header.fraction)
CountsBody old new header stage = CountsFrames old new 0 0
