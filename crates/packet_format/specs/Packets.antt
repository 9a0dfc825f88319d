-- The head of a capture, and the bytes of a packet, in each format: the savefile of pcap 2.4 (its file and record headers, with timestamps in
-- nanoseconds), and pcapng 1.0 (draft-ietf-opsawg-pcapng: Section Header, Interface Description and Enhanced Packet Blocks, a comment as opt_comment).
use Rattle.std.specs.Prelude.{ℕ, List, Option}
use Rattle.std.specs.Option.{option_map}
use Rattle.afdx_frame.specs.Frame.{Frame}
use Rattle.ledger_text.specs.declared.frame.FrameLine.{FrameLine}
use Rattle.packet_format.specs.Comment.{comment_text}
use Rattle.packet_format.specs.declared.format.PacketFormat.{PacketFormat}
use Rattle.packet_format.specs.declared.format.PacketFormat.TheVariants as formats
use Rattle.pcap_io.specs.Capture.{capture_header, packet_text}
use Rattle.pcapng.specs.Blocks.{head_bytes, packet_block}
use Rattle.pcapng.specs.declared.interfaces.Interfaces.{Interfaces}
use Rattle.vl_config.specs.Document.{VlTable}

-- a pcap file, or a pcapng file with these interfaces, whose comments have the names of a table's links
pub data Format : Type 0 where
  Pcap : Format
  Pcapng : Interfaces → Option VlTable → Format

abbrev pub format_of : PacketFormat → Format
format_of formats.Pcap = Pcap
format_of (formats.Pcapng interfaces names) = Pcapng interfaces (option_map (λ config. config.now) names)

-- the head of a capture
abbrev pub head_by : Format → List ℕ
head_by Pcap = capture_header
head_by (Pcapng interfaces names) = head_bytes interfaces

-- The packet of a frame of which `keep` bytes are kept. A pcapng packet has the verdict of the frame's line as its comment, where a line is given.
abbrev pub packet_by : Format → Frame → ℕ → Option FrameLine → List ℕ
packet_by Pcap f keep line = packet_text f keep
packet_by (Pcapng interfaces names) f keep line = packet_block interfaces f keep (option_map (comment_text names) line)
