-- The capture of a recording is itself a recording.
use Rattle.std.specs.Prelude.{◌≡◌, ℕ, ◌≤◌, List, length, drop, Ok}
use Rattle.afdx_frame.specs.Frame.{Frame}
use Rattle.afdx_frame.specs.declared.key.Network.{Network}
use Rattle.bpf_isa.specs.declared.packed.Packed.{Packed}
use Rattle.pcap_io.specs.Capture.{capture_frames, capture_layout}
use Rattle.pcap_io.specs.Layout.{header_of}
use Rattle.pcap_io.specs.Position.{Holds, start_at}
use Rattle.pcap_io.specs.declared.layout.TheConstants.{FILE_HEADER_LEN}
use Rattle.pcap_io.specs.declared.recording.Ending.{Ending}
use Rattle.pcap_io.specs.declared.recording.Ending.TheVariants.{Clean}
use Rattle.pcap_io.specs.declared.told.Told.{Told}
use Rattle.pcap_io.specs.declared.told.Told.TheVariants.{Nothing}
use Rattle.run_fault.specs.Recording.{IsRecording}
use Rattle.capture_run.specs.OneCapture.{accepted, capture_text, kept_len}

-- The capture of a recording's frames, read as a recording, holds exactly the accepted ones, in order, each cut to what was kept, and ends
-- clean.
abbrev pub CaptureGivesAccepted : Type 0
CaptureGivesAccepted = (p : List Packed) (tap network : Network) (told : Told) (bytes : List ℕ) (frames : List Frame) (ending : Ending) (most late : ℕ)
    → IsRecording tap 0 told bytes frames ending → length (accepted p frames) ≤ most
    → (header_of Nothing (capture_text p frames) ≡ Ok capture_layout)
    × Holds (start_at network capture_layout most late) Nothing (drop FILE_HEADER_LEN (capture_text p frames))
    (capture_frames network 0 (kept_len p) (accepted p frames)) (Clean (length (accepted p frames)))
