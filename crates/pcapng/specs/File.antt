-- A whole pcapng file (draft-ietf-opsawg-pcapng, section "General File Structure"): a section header, and then blocks one after another;
-- and the pcap that it stands for.
use Rattle.std.specs.Prelude.{ℕ, zero, suc, ◌+◌, List, [], ◌++◌, length, take, drop, slice_range, Result, Ok, Err, nat_lt, ◌==◌, if◌then◌else◌}
use Rattle.afdx_frame.specs.declared.bounds.TheConstants.{MAX_SNAPLEN}
use Rattle.pcap_io.specs.declared.layout.ByteOrder.{ByteOrder}
use Rattle.pcap_io.specs.declared.layout.ByteOrder.TheVariants.{Little}
use Rattle.pcap_io.specs.declared.layout.HeaderFault.{HeaderFault}
use Rattle.pcap_io.specs.declared.layout.HeaderFault.TheVariants.{Magic}
use Rattle.pcap_io.specs.declared.recording.BadReason.{BadReason}
use Rattle.pcap_io.specs.declared.recording.BadReason.TheVariants as reasons
use Rattle.pcap_io.specs.declared.told.Told.TheVariants as tolds
use Rattle.pcapng.specs.Block.{fields_of, interface_fault, later_reason, lengths_agree, packet_fault, section_fault, start_header_fault, start_of, start_reason, unless}
use Rattle.pcapng.specs.Given.{Given, followed, only}
use Rattle.pcapng.specs.Interface.{Described, interface_of}
use Rattle.pcapng.specs.Section.{Known, in_section, next_number, role_of, stamp_of, with_interface, with_taken}
use Rattle.pcap_io.specs.Capture.{capture_header}
use Rattle.pcapng.specs.Text.{packet_header_bytes}
use Rattle.pcapng.specs.declared.block.BlockKind.{BlockKind}
use Rattle.pcapng.specs.declared.block.BlockKind.TheVariants as kinds
use Rattle.pcapng.specs.declared.block.BlockStart.{BlockStart}
use Rattle.pcapng.specs.declared.block.FirstSection.{FirstSection}
use Rattle.pcapng.specs.declared.block.FirstSection.TheVariants as firsts
use Rattle.pcapng.specs.declared.block.PacketFields.{PacketFields}
use Rattle.pcapng.specs.declared.block.StartFault.{StartFault}
use Rattle.pcapng.specs.declared.section.Role.{Role}
use Rattle.pcapng.specs.declared.section.Role.TheVariants as roles

-- ---- the blocks of a file

-- The blocks that some bytes hold, one after another.
pub data Blocks : Type 0 where
  -- the bytes end where a block does
  ended : Blocks
  -- they end within a block
  cut : Blocks
  -- the bytes there start no block that is read
  unreadable : StartFault → Blocks
  -- a block of this start, all its bytes, and the blocks after it
  block : BlockStart → List ℕ → Blocks → Blocks

-- the blocks of bytes that start so, where `rest` gives those after a whole block
abbrev pub blocks_from : Result BlockStart StartFault → List ℕ → (ByteOrder → List ℕ → Blocks) → Blocks
blocks_from (Err fault) bytes rest = unreadable fault
blocks_from (Ok start) bytes rest =
    if nat_lt (length bytes) start.len then cut else block start (take start.len bytes) (rest start.order (drop start.len bytes))

-- the first n blocks
unfoldable pub blocks_within : ℕ → ByteOrder → List ℕ → Blocks
blocks_within zero order bytes = ended
blocks_within (suc n) order bytes =
    if length bytes == 0 then ended
    else if nat_lt (length bytes) 12 then cut
    else blocks_from (start_of order bytes) bytes (blocks_within n)

-- All of them, which are no more than there are bytes. They begin in this byte order, and a section header changes it.
unfoldable pub blocks_of : ByteOrder → List ℕ → Blocks
blocks_of order bytes = blocks_within (length bytes) order bytes

-- ---- all that a block says

-- The yield of a block, and what is known after it.
pub record Read : Type 0 where
  pub given : List ℕ
  pub known : Known

-- the word of a block that gives these bytes, or its fault
abbrev pub read_with : List ℕ → Known → Result (Unit {0}) BadReason → Result Read BadReason
read_with given k (Err reason) = Err reason
read_with given k (Ok done) = Ok (record { given = given; known = k })

-- the word of one that gives none
abbrev pub passed : Known → Result (Unit {0}) BadReason → Result Read BadReason
passed k fault = read_with [] k fault

-- a fault of a later section header, as the reason that ends the reading
abbrev pub as_later : Result (Unit {0}) HeaderFault → Result (Unit {0}) BadReason
as_later (Err fault) = Err (later_reason fault)
as_later (Ok done) = Ok done

-- a section header: another section begins
abbrev pub section_read : Known → ByteOrder → List ℕ → Result Read BadReason
section_read k order bytes = passed (in_section order k) (as_later (unless (section_fault order bytes)))

-- an interface description, once its number is known and what it says
abbrev pub described_read : Known → Result Described BadReason → Result (Unit {0}) BadReason → Result Read BadReason
described_read k (Err reason) end = Err reason
described_read k (Ok i) end = passed (with_interface i k) end

-- the same, once its number is known
abbrev pub numbered_read : Known → ByteOrder → List ℕ → Result ℕ BadReason → Result Read BadReason
numbered_read k order bytes (Err reason) = Err reason
numbered_read k order bytes (Ok number) = described_read k (interface_of order number bytes) (unless (interface_fault order bytes))

-- an interface description: its section has one interface more
abbrev pub interface_read : Known → ByteOrder → List ℕ → Result Read BadReason
interface_read k order bytes = numbered_read k order bytes (next_number (length k.interfaces))

-- all that is given for a packet of this time: its header, and its captured bytes
abbrev pub packet_bytes : PacketFields → List ℕ → ℕ → List ℕ
packet_bytes fields bytes time =
    packet_header_bytes time fields.captured_len fields.original_len ++ slice_range bytes 28 (28 + fields.captured_len)

-- a packet that is taken, once its time is known. More captured bytes than a frame may have aren't read.
abbrev pub stamped_read : Known → ByteOrder → PacketFields → List ℕ → Result ℕ BadReason → Result Read BadReason
stamped_read k order fields bytes (Err reason) = Err reason
stamped_read k order fields bytes (Ok time) =
    if nat_lt MAX_SNAPLEN fields.captured_len then Err reasons.Length
    else read_with (packet_bytes fields bytes time) (with_taken fields.interface k) (unless (packet_fault order fields.captured_len bytes))

-- a packet, once it is known what is done with it: of those that aren't taken nothing is given
abbrev pub packet_as : Known → ByteOrder → PacketFields → List ℕ → Result Role BadReason → Result Read BadReason
packet_as k order fields bytes (Err reason) = Err reason
packet_as k order fields bytes (Ok roles.Taken) = stamped_read k order fields bytes (stamp_of k fields.interface fields.timestamp)
packet_as k order fields bytes (Ok roles.Counted) = passed k (unless (packet_fault order fields.captured_len bytes))
packet_as k order fields bytes (Ok roles.Skipped) = passed k (unless (packet_fault order fields.captured_len bytes))

-- a packet of these fields
abbrev pub packet_read : Known → ByteOrder → PacketFields → List ℕ → Result Read BadReason
packet_read k order fields bytes = packet_as k order fields bytes (role_of k fields.interface)

-- any other block: it is passed over by its length, which stands in it twice
abbrev pub other_read : Known → ByteOrder → List ℕ → Result Read BadReason
other_read k order bytes = if lengths_agree order bytes then passed k (Ok tt) else Err reasons.BlockLengthsDiffer

-- a block of this kind
abbrev pub read_as : BlockKind → Known → ByteOrder → List ℕ → Result Read BadReason
read_as kinds.Section k order bytes = section_read k order bytes
read_as kinds.Interface k order bytes = interface_read k order bytes
read_as kinds.Packet k order bytes = packet_read k order (fields_of order kinds.Packet bytes) bytes
read_as kinds.ObsoletePacket k order bytes = packet_read k order (fields_of order kinds.ObsoletePacket bytes) bytes
read_as kinds.SimplePacket k order bytes = Err reasons.SimplePacket
read_as kinds.Other k order bytes = other_read k order bytes

-- The yield of a whole block of this start, or the reason that ends the reading.
unfoldable pub read_of : Known → BlockStart → List ℕ → Result Read BadReason
read_of k start bytes = read_as start.kind k start.order bytes

-- ---- all that a file stands for

-- after the last block: where an interface was chosen, one was described
abbrev pub end_given : Known → Given
end_given k = if k.described then only tolds.Nothing else only (tolds.Bad reasons.NoSuchInterface)

-- all that is given for a block and those after it
abbrev pub given_after : Result Read BadReason → (Known → Given) → Given
given_after (Err reason) rest = only (tolds.Bad reason)
given_after (Ok read) rest = followed read.given (rest read.known)

-- The packets that blocks give, and how they end.
abbrev pub given_for : Known → Blocks → Given
given_for k ended = end_given k
given_for k cut = only tolds.Cut
given_for k (unreadable fault) = only (tolds.Bad (start_reason fault))
given_for k (block start bytes rest) = given_after (read_of k start bytes) (λ known. given_for known rest)

-- the same, for the bytes that follow
abbrev pub given_at : Known → List ℕ → Given
given_at k bytes = given_for k (blocks_of k.order bytes)

-- a section header of this byte order and length, once it is known whether something is wrong with it
abbrev pub section_begun : ByteOrder → ℕ → Result (Unit {0}) HeaderFault → FirstSection
section_begun order len (Err fault) = firsts.Wrong fault
section_begun order len (Ok done) = firsts.Begins order len

-- a section header of this start, where the bytes hold it whole
abbrev pub section_within : BlockStart → List ℕ → FirstSection
section_within start bytes =
    if nat_lt (length bytes) start.len then firsts.Needs start.len
    else section_begun start.order start.len (unless (section_fault start.order (take start.len bytes)))

-- the first block is a section header
abbrev pub first_as : BlockKind → BlockStart → List ℕ → FirstSection
first_as kinds.Section start bytes = section_within start bytes
first_as kind start bytes = firsts.Wrong Magic

abbrev pub first_with : Result BlockStart StartFault → List ℕ → FirstSection
first_with (Err fault) bytes = firsts.Wrong (start_header_fault fault)
first_with (Ok start) bytes = first_as start.kind start bytes

-- The section header that at least 12 bytes begin with. Its type reads the same in both byte orders.
unfoldable pub first_of : List ℕ → FirstSection
first_of bytes = first_with (start_of Little bytes) bytes

-- The yield of a file: nothing where the bytes end within the section header, or where that is wrong, and then what is wrong with it.
abbrev pub opened : FirstSection → Known → List ℕ → Given
opened (firsts.Needs needed) k bytes = only tolds.Nothing
opened (firsts.Wrong fault) k bytes = only (tolds.NoHeader fault)
opened (firsts.Begins order len) k bytes = followed capture_header (given_at (in_section order k) (drop len bytes))

-- The pcap that the bytes of a pcapng file stand for.
abbrev pub pcap_of : Known → List ℕ → Given
pcap_of k bytes = if nat_lt (length bytes) 12 then only tolds.Nothing else opened (first_of bytes) k bytes
