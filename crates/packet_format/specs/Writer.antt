-- A writer of packets as contracts see it, and what a call leaves of its sink.
use Rattle.std.specs.Prelude.{◌≡◌, ℕ, Bool, true, List, Option, Result, Ok, Err, ⊤}
use Rattle.std.specs.Io.KnownBytes.{Appends}
use Rattle.packet_format.specs.Packets.{Format, Pcap, Pcapng, format_of, head_by}
use Rattle.packet_format.specs.declared.writer.PacketFault.{PacketFault}
use Rattle.packet_format.specs.declared.writer.PacketFault.TheVariants as faults
use Rattle.packet_format.specs.declared.writer.PacketWriter.{PacketWriter}
use Rattle.pcap_io.specs.Device.{AppendsPrefix, CountsFailure}
use Rattle.pcap_io.specs.Writer.{has_failed as output_failed, sink_of as sink_of_output}
use Rattle.pcap_io.specs.declared.writer.CaptureWriter.{CaptureWriter}

-- the sink that it writes to
abbrev pub sink_of : {W : Type 0} → PacketWriter W → W
sink_of writer = sink_of_output writer.output

-- its device has failed
abbrev pub has_failed : {W : Type 0} → PacketWriter W → Bool
has_failed writer = output_failed writer.output

-- the format of its packets
abbrev pub format_in : {W : Type 0} → PacketWriter W → Format
format_in writer = format_of writer.format

-- the sink that it writes to, whether it stands or gave that back
abbrev pub sink_after : {W : Type 0} → Result (PacketWriter W) W → W
sink_after (Ok writer) = sink_of writer
sink_after (Err sink) = sink

-- A pcapng file: its head and its packets take memory, and those of a pcap file need none.
abbrev pub IsPcapng : Format → Type 0
IsPcapng Pcap = ⊥
IsPcapng (Pcapng interfaces names) = ⊤

-- the head of a pcapng file stands in memory
abbrev pub HoldsHead : Format → List ℕ → Type 0
HoldsHead Pcap bytes = ⊤
HoldsHead (Pcapng interfaces names) bytes = bytes ≡ head_by (Pcapng interfaces names)

-- A call that writes these bytes leaves its sink so: they were written, or a prefix of them where the sink failed. Where there was no
-- memory, which only pcapng packets need, nothing was written.
abbrev pub Puts : Format → Result (Unit {0}) PacketFault → Option (List ℕ) → Option (List ℕ) → ℕ → ℕ → List ℕ → Type 0
Puts format (Ok done) old new before after bytes = Appends old new bytes × (after ≡ before)
Puts format (Err faults.Device) old new before after bytes = AppendsPrefix old new bytes × CountsFailure before after
Puts format (Err faults.Memory) old new before after bytes = IsPcapng format × (new ≡ old) × (after ≡ before)

-- the output after a fault: after one of the device no more packets are taken, and where there is no memory it stands as it was
abbrev pub LeavesOutput : {W : Type 0} → PacketFault → CaptureWriter W → CaptureWriter W → Type 0
LeavesOutput faults.Device old new = output_failed new ≡ true
LeavesOutput faults.Memory old new = new ≡ old
