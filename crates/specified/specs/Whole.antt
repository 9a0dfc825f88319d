-- Whole commands: what they leave, by the texts that they are given and what their devices show (this project's profile).
use Rattle.std.specs.Prelude.{◌≡◌, ℕ, List, Option, None, Result, Ok, Err}
use Rattle.afdx_frame.specs.Frame.{Frame}
use Rattle.bpf_isa.specs.declared.packed.Packed.{Packed}
use Rattle.packet_format.specs.Packets.{Pcap}
use Rattle.pcap_io.specs.declared.recording.Ending.{Ending}
use Rattle.run_fault.specs.Device.{Devices, SinkView, SourceView}
use Rattle.run_fault.specs.declared.fault.WatchFault.{WatchFault}
use Rattle.command_line.specs.declared.fault.Fault.{Fault}
use Rattle.command_line.specs.declared.fault.Fault.TheVariants as fault
use Rattle.run_inputs.specs.Inputs.{IsFilter, IsFilterFault}
use Rattle.capture_run.specs.OneCapture.{IsAbortedBy, IsCapturedBy}
use Rattle.filter_run.specs.Sessions.{IsSessionRun}
use Rattle.filter_run.specs.WholeTap.{IsTap, IsTapRefusal}

-- ---- a capture in a pcap file, of a recording without a window

abbrev pub IsCaptured : List Packed → Ending → Devices → Devices → Type 0
IsCaptured p ending before after = IsCapturedBy Pcap 0 p ending before after

abbrev pub IsAborted : List Packed → WatchFault → Devices → Devices → Type 0
IsAborted p fault before after = IsAbortedBy Pcap 0 p fault before after

-- ---- the command `capture`

-- a fault, and what it leaves: of a filter nothing, of a capture what stands when it is aborted
abbrev pub Leaves : List ℕ → Fault → Devices → Devices → Type 0
Leaves text (fault.Watch w) before after = (p : List Packed) × IsFilter text p × IsAborted p w before after
Leaves text f before after = IsFilterFault text None f × (after ≡ before)

-- the outcome of a capture, and what it leaves
abbrev pub IsCaptureRun : List ℕ → Result Ending Fault → Devices → Devices → Type 0
IsCaptureRun text (Ok ending) before after = (p : List Packed) × IsFilter text p × IsCaptured p ending before after
IsCaptureRun text (Err f) before after = Leaves text f before after

-- The status of what a capture came to; after a fault it may have a line.
abbrev pub IsRan : Result Ending Fault → ℕ → Option (List ℕ) → Type 0
IsRan (Ok ending) status line = (status ≡ 0) × (line ≡ None)
IsRan (Err f) status line = status ≡ 1

-- ---- the command `asm`

-- The status of what a command came to that prints a text; after a fault it may have a line.
abbrev pub IsTextRan : Result (Unit {0}) Fault → ℕ → Option (List ℕ) → Type 0
IsTextRan (Ok done) status line = (status ≡ 0) × (line ≡ None)
IsTextRan (Err f) status line = status ≡ 1

-- ---- the command `debug`

-- the devices of a session, before it or after it
pub record DebugDevices : Type 0 where
  pub tap : SourceView
  pub commands : SourceView
  pub sink : SinkView

abbrev pub debug_devices : SourceView → SourceView → SinkView → DebugDevices
debug_devices tap commands sink = record { tap = tap; commands = commands; sink = sink }

-- the tap was read, and this became of the session
abbrev pub RunsSession : List Packed → Result (Unit {0}) Fault → DebugDevices → DebugDevices → Type 0
RunsSession p outcome before after =
    (frames : List Frame) × (ending : Ending) × IsTap 0 before.tap after.tap frames ending
    × IsSessionRun p frames outcome before.commands after.commands before.sink after.sink

-- the tap wasn't read, and nothing else was touched
abbrev pub StopsAtTap : WatchFault → DebugDevices → DebugDevices → Type 0
StopsAtTap w before after =
    IsTapRefusal 0 w before.tap after.tap × (after.commands ≡ before.commands) × (after.sink ≡ before.sink)

-- the outcome of the command, by the text of its filter, and what it leaves
abbrev pub IsDebugRun : List ℕ → Result (Unit {0}) Fault → DebugDevices → DebugDevices → Type 0
IsDebugRun filter (Err (fault.Numeric f n)) before after = IsFilterFault filter None (fault.Numeric f n) × (after ≡ before)
IsDebugRun filter (Err (fault.Load f n)) before after = IsFilterFault filter None (fault.Load f n) × (after ≡ before)
IsDebugRun filter (Err (fault.Watch w)) before after = (p : List Packed) × IsFilter filter p × StopsAtTap w before after
IsDebugRun filter outcome before after = (p : List Packed) × IsFilter filter p × RunsSession p outcome before after
