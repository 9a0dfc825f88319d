-- Laws of captures, which hold of the definitions alone.
use Rattle.std.specs.Prelude.{ℕ, ◌+◌, List, ◌++◌, length, take, drop, IfSome}
use Rattle.pcapng.specs.Blocks.{Written, capture_bytes, interface_of, written_block}
use Rattle.pcapng.specs.Stepping.{AreBlocks, AreWritable, BeginsWithPacket, HasComment, IsWritable, count_of, options_at}
use Rattle.pcapng.specs.declared.interfaces.Interfaces.{Interfaces}

-- A capture of n packets is a section header, the descriptions of its interfaces, and n blocks.
abbrev pub CaptureIsSteppedOver : Type 0
CaptureIsSteppedOver = (interfaces : Interfaces) (packets : List Written) → AreWritable packets
    → AreBlocks (1 + (count_of interfaces + length packets)) (capture_bytes interfaces packets)

-- The fields of a packet read back from its block, whatever follows it.
abbrev pub PacketReadsBack : Type 0
PacketReadsBack = (interfaces : Interfaces) (p : Written) (more : List ℕ) → IsWritable p
    → BeginsWithPacket (written_block interfaces p ++ more) (interface_of interfaces p.frame.network) p.frame (take p.keep p.frame.bytes)

-- And so does its comment, if it has one.
abbrev pub CommentReadsBack : Type 0
CommentReadsBack = (interfaces : Interfaces) (p : Written) (more : List ℕ) → IsWritable p
    → IfSome p.comment (HasComment (drop (options_at p.keep) (written_block interfaces p ++ more)))
