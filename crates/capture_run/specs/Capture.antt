-- The command `capture`: what it leaves, by what its devices show (this project's profile).
use Rattle.std.specs.Prelude.{ℕ, List, Result, Ok, Err}
use Rattle.bpf_isa.specs.declared.packed.Packed.{Packed}
use Rattle.pcap_io.specs.declared.recording.Ending.{Ending}
use Rattle.capture_run.specs.OneCapture.{IsAbortedBy, IsCapturedBy}
use Rattle.packet_format.specs.Packets.{Format}
use Rattle.run_fault.specs.Device.{Devices}
use Rattle.command_line.specs.declared.fault.Fault.{Fault}
use Rattle.command_line.specs.declared.fault.Fault.TheVariants as fault

-- the outcome of a capture in a format by a filter, and what it leaves; a timestamp may lie `late` nanoseconds below the greatest before it
abbrev pub IsCaptureBy : Format → ℕ → List Packed → Result Ending Fault → Devices → Devices → Type 0
IsCaptureBy format late p (Ok ending) before after = IsCapturedBy format late p ending before after
IsCaptureBy format late p (Err (fault.Watch w)) before after = IsAbortedBy format late p w before after
IsCaptureBy format late p (Err f) before after = ⊥
