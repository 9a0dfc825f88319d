-- A finder: what it has read of its recording, and what its calls say (the file is pcap savefile 2.4; the bounds are this project's profile).
use Rattle.std.specs.Prelude.{◌≡◌, ◌≢◌, ◌⊎◌, ℕ, ◌+◌, ◌-◌, ◌^◌, ◌≤◌, max, Bool, false, List, [], ◌∷◌, ◌++◌, length, Option, Some, IfSome, slice_get}
use Rattle.std.specs.BTreeMap.{BTreeMap}
use Rattle.afdx_frame.specs.Frame.{Frame}
use Rattle.afdx_frame.specs.declared.key.Network.{Network}
use Rattle.pcap_io.specs.Device.{CountsFailure}
use Rattle.pcap_io.specs.Position.{EndLeaves, LacksBytes, LacksMemory, Reading, TakesAPacket, ending_here}
use Rattle.pcap_io.specs.Reader.{reading_of, unread_of, source_of}
use Rattle.pcap_io.specs.declared.position.Position.{Position}
use Rattle.pcap_io.specs.declared.recording.Ending.{Ending}
use Rattle.pcap_io.specs.declared.recording.Stage.TheVariants.{Ended}
use Rattle.pcap_io.specs.declared.item.ReadFault.{ReadFault}
use Rattle.pcap_io.specs.declared.item.ReadFault.TheVariants as reads
use Rattle.pcap_io.specs.Told.{StaysTold}
use Rattle.pcap_io.specs.declared.told.Told.{Told}
use Rattle.run_fault.specs.Device.{SourceMembers}
use Rattle.run_fault.specs.Recording.{HasReadTap}
use Rattle.cut_run.specs.Places.{IsBelow, place_of}
use Rattle.cut_run.specs.Passed.{AreKept}
use Rattle.cut_run.specs.declared.place.SearchPlace.{SearchPlace}
use Rattle.cut_run.specs.declared.finder.FrameFinder.{FrameFinder}
use Rattle.cut_run.specs.declared.finder.FindFault.{FindFault}
use Rattle.cut_run.specs.declared.finder.FindFault.TheVariants as faults

-- a timestamp may come as late as it likes
abbrev pub any_late : ℕ
any_late = 2 ^ 64 - 1

-- The recording that a finder was opened on, as network `network`: the bytes that its source showed, where it exposes them, how often it
-- had failed, and what it tells.
pub record Opening : Type 0 where
  pub network : Network
  pub remaining : Option (List ℕ)
  pub failures : ℕ
  pub told : Told

abbrev pub opening_of : {S : Type 0} → SourceMembers S → Network → S → Opening
opening_of s network source =
    record { network = network; remaining = s.remaining source; failures = s.failures source; told = s.told source }

-- the state of a finder
pub record Finding : Type 0 where
  pub reading : Reading
  -- all that was read ahead
  pub unread : List ℕ
  -- the frames that were passed and are kept
  pub passed : BTreeMap SearchPlace Frame
  -- the index of the next frame that is read
  pub next : ℕ
  pub failed : Bool

abbrev pub finding_of : {S : Type 0} → SourceMembers S → FrameFinder S → Finding
finding_of s finder = record {
  reading = reading_of s.remaining s.failures s.told finder.reader;
  unread = unread_of finder.reader;
  passed = finder.passed;
  next = finder.next;
  failed = finder.failed;
}

-- the source that it reads from
abbrev pub finder_source : {S : Type 0} → FrameFinder S → S
finder_source finder = source_of finder.reader

-- The bytes are a file header and then the packets of these frames, numbered from 0 on. A reader stands at `position` after them, and `left`
-- follows.
abbrev pub HasReadFrames : Opening → List Frame → Position → Option (List ℕ) → Type 0
HasReadFrames o frames position left = HasReadTap o.network any_late o.told o.remaining frames position left

-- the recording ends here, with what its source tells, and its reader has found the ending
pub record HasEnded (position : Position) (told : Told) (left : Option (List ℕ)) (ending : Ending) (now : Reading) : Type 0 where
  pub stands : now.position ≡ record position { stage = Ended ending }
  pub here : IfSome left (λ bytes. ending_here position told bytes ≡ Some ending)
  pub leaves : EndLeaves left now.remaining ending
  pub gone : TakesAPacket left now.remaining

-- a reader, whose source tells this, goes on here, or has found the ending here
abbrev pub StandsAt : Position → Told → Option (List ℕ) → Reading → Type 0
StandsAt position told left now =
    ((now.position ≡ position) × (now.remaining ≡ left) × (now.told ≡ told)) ⊎ ((ending : Ending) × HasEnded position told left ending now)

-- The finder has read these frames of the recording, and no more. The last that was asked for is `floor`, and what may still be asked for of
-- the frames is kept.
pub record HasRead (o : Opening) (frames : List Frame) (floor : Option SearchPlace) (now : Finding) : Type 0 where
  pub position : Position
  pub left : Option (List ℕ)
  pub told : Told
  pub tells : StaysTold o.remaining o.told told
  pub read : HasReadFrames o frames position left
  pub stands : StandsAt position told left now.reading
  pub no_failure : now.reading.failures ≡ o.failures
  pub kept : AreKept frames floor now.passed
  pub counted : now.next ≡ length frames
  pub going : now.failed ≡ false

-- ---- all that a call says

-- The frame of this place was found. No more was read than up to it.
pub record Finds (o : Opening) (frames : List Frame) (place : SearchPlace) (f : Frame) (now : Finding) : Type 0 where
  pub more : List Frame
  pub read : HasRead o (frames ++ more) (Some place) now
  pub is_of : place_of f ≡ place
  pub is_at : slice_get (frames ++ more) place.number ≡ Some f
  pub no_more : length (frames ++ more) ≡ max (length frames) (place.number + 1)

-- the frame of this index has another timestamp, or the recording ends before it
abbrev pub LacksFrame : List Frame → SearchPlace → Finding → Type 0
LacksFrame frames place now =
    ((f : Frame) × (slice_get frames place.number ≡ Some f) × (f.stamp ≢ place.stamp.0))
    ⊎ ((length frames ≤ place.number) × ((ending : Ending) × (now.reading.position.stage ≡ Ended ending)))

-- No frame is of this place. No more was read than up to its index.
pub record FindsNone (o : Opening) (frames : List Frame) (place : SearchPlace) (now : Finding) : Type 0 where
  pub more : List Frame
  pub read : HasRead o (frames ++ more) (Some place) now
  pub lacks : LacksFrame (frames ++ more) place now
  pub no_more : length (frames ++ more) ≤ max (length frames) (place.number + 1)

-- The source failed after these frames, before it gave the next packet whole. The frame that was asked for wasn't read.
pub record FailsToRead (o : Opening) (frames : List Frame) (place : SearchPlace) (now : Finding) : Type 0 where
  pub more : List Frame
  pub position : Position
  pub left : Option (List ℕ)
  pub read : HasReadFrames o (frames ++ more) position left
  pub before : length (frames ++ more) ≤ place.number
  pub lacks : LacksBytes position left now.reading.remaining now.unread
  pub gone : TakesAPacket left now.reading.remaining
  pub failure : CountsFailure o.failures now.reading.failures

-- There was no memory for the packet after these frames, or to keep the last of them, which may still be asked for.
pub record FailsToAllocate (o : Opening) (frames : List Frame) (place : SearchPlace) (now : Finding) : Type 0 where
  pub more : List Frame
  pub position : Position
  pub left : Option (List ℕ)
  pub read : HasReadFrames o (frames ++ more) position left
  pub lacks : ((length (frames ++ more) ≤ place.number) × LacksMemory position left now.reading.remaining)
      ⊎ ((f : Frame) × (before : List Frame) × (more ≡ before ++ f ∷ []) × (length (frames ++ before) ≤ place.number) × IsBelow place (place_of f) × (now.reading.remaining ≡ left))
  pub gone : TakesAPacket left now.reading.remaining
  pub no_failure : now.reading.failures ≡ o.failures

-- why a frame wasn't found, and what stands then
abbrev pub IsFindFault : Opening → List Frame → SearchPlace → Finding → FindFault → Type 0
IsFindFault o frames place now faults.Absent = FindsNone o frames place now
IsFindFault o frames place now faults.Device = FailsToRead o frames place now
IsFindFault o frames place now faults.Memory = FailsToAllocate o frames place now
IsFindFault o frames place now faults.Failed = ⊥

-- The finder has read on so far, and no frame that it read is of the place.
pub record IsOnWay (o : Opening) (frames : List Frame) (place : SearchPlace) (now : Finding) : Type 0 where
  pub more : List Frame
  pub read : HasRead o (frames ++ more) (Some place) now
  pub few : length (frames ++ more) ≤ place.number + 1
  pub other : (f : Frame) → slice_get (frames ++ more) place.number ≡ Some f → f.stamp ≢ place.stamp.0

-- the fault of a finder whose reader failed so
abbrev pub fault_of : ReadFault → FindFault
fault_of reads.Device = faults.Device
fault_of reads.Memory = faults.Memory
fault_of reads.Failed = faults.Failed
