-- The packets that a pcapng file holds of the chosen interface, and how they end.
use Rattle.std.specs.Prelude.{ℕ, ◌+◌, ◌/◌, ◌%◌, List, [], ◌∷◌, ◌++◌, slice_range, Result, Ok, Err, if◌then◌else◌}
use Rattle.pcap_io.specs.Recording.{Packet}
use Rattle.pcap_io.specs.declared.layout.ByteOrder.{ByteOrder}
use Rattle.pcap_io.specs.declared.recording.BadReason.{BadReason}
use Rattle.pcap_io.specs.declared.recording.BadReason.TheVariants.{NoSuchInterface}
use Rattle.pcap_io.specs.declared.recording.Ending.{Ending}
use Rattle.pcap_io.specs.declared.recording.Ending.TheVariants.{Bad, Clean, Cut}
use Rattle.pcapng.specs.Block.{fields_of, start_reason}
use Rattle.pcapng.specs.File.{Blocks, Read, block, cut, ended, read_of, unreadable}
use Rattle.pcapng.specs.Section.{Known, role_of, stamp_of}
use Rattle.pcapng.specs.declared.block.BlockKind.{BlockKind}
use Rattle.pcapng.specs.declared.block.BlockKind.TheVariants as kinds
use Rattle.pcapng.specs.declared.block.PacketFields.{PacketFields}
use Rattle.pcapng.specs.declared.section.Role.{Role}
use Rattle.pcapng.specs.declared.section.Role.TheVariants as roles

-- ---- the packet of a block

-- a packet of this time in nanoseconds since 1970
abbrev pub packet_at : PacketFields → List ℕ → ℕ → Packet
packet_at fields bytes time = record {
  seconds = time / 1000000000;
  fraction = time % 1000000000;
  original_len = fields.original_len;
  bytes = slice_range bytes 28 (28 + fields.captured_len);
}

abbrev pub stamped_packet : PacketFields → List ℕ → Result ℕ BadReason → List Packet
stamped_packet fields bytes (Err reason) = []
stamped_packet fields bytes (Ok time) = packet_at fields bytes time ∷ []

-- the packet, where it is one that is taken
abbrev pub packet_with : Known → PacketFields → List ℕ → Result Role BadReason → List Packet
packet_with k fields bytes (Err reason) = []
packet_with k fields bytes (Ok roles.Taken) = stamped_packet fields bytes (stamp_of k fields.interface fields.timestamp)
packet_with k fields bytes (Ok roles.Counted) = []
packet_with k fields bytes (Ok roles.Skipped) = []

-- the packets of a whole block of this kind
abbrev pub packets_as : BlockKind → Known → ByteOrder → List ℕ → List Packet
packets_as kinds.Packet k order bytes =
    packet_with k (fields_of order kinds.Packet bytes) bytes (role_of k (fields_of order kinds.Packet bytes).interface)
packets_as kinds.ObsoletePacket k order bytes =
    packet_with k (fields_of order kinds.ObsoletePacket bytes) bytes (role_of k (fields_of order kinds.ObsoletePacket bytes).interface)
packets_as kind k order bytes = []

-- ---- the packets of blocks

abbrev pub packets_after : Result Read BadReason → List Packet → (Known → List Packet) → List Packet
packets_after (Err reason) own rest = []
packets_after (Ok read) own rest = own ++ rest read.known

-- the packets of blocks, up to one that ends the reading
abbrev pub packets_for : Known → Blocks → List Packet
packets_for k ended = []
packets_for k cut = []
packets_for k (unreadable fault) = []
packets_for k (block start bytes rest) =
    packets_after (read_of k start bytes) (packets_as start.kind k start.order bytes) (λ known. packets_for known rest)

abbrev pub ending_after : ℕ → Result Read BadReason → (Known → Ending) → Ending
ending_after n (Err reason) rest = Bad n reason
ending_after n (Ok read) rest = rest read.known

-- the ending, after n packets in all
abbrev pub ending_for : ℕ → Known → Blocks → Ending
ending_for n k ended = if k.described then Clean n else Bad n NoSuchInterface
ending_for n k cut = Cut n
ending_for n k (unreadable fault) = Bad n (start_reason fault)
ending_for n k (block start bytes rest) = ending_after n (read_of k start bytes) (λ known. ending_for n known rest)
