-- Blocks (draft-ietf-opsawg-pcapng, section "Block Types"): a type, a total length, a body, and the total length again. Numbers are in the
-- byte order of the section.
use Rattle.std.specs.Prelude.{ℕ, ◌+◌, ◌-◌, ◌*◌, ◌%◌, ◌^◌, ◌<◌, ◌≤◌, Bool, true, ◌&&◌, List, length, drop, slice_range, Option, Some, None, Result, Ok, Err, nat_lt, nat_le, ◌==◌, if◌then◌else◌, ⊤}
use Rattle.byteorder.specs.Endian.{big_number}
use Rattle.pcap_io.specs.Layout.{number_in}
use Rattle.pcap_io.specs.declared.layout.ByteOrder.{ByteOrder}
use Rattle.pcap_io.specs.declared.layout.ByteOrder.TheVariants.{Little, Big}
use Rattle.pcap_io.specs.declared.layout.HeaderFault.{HeaderFault}
use Rattle.pcap_io.specs.declared.layout.HeaderFault.TheVariants as headers
use Rattle.pcap_io.specs.declared.recording.BadReason.{BadReason}
use Rattle.pcap_io.specs.declared.recording.BadReason.TheVariants as reasons
use Rattle.pcapng.specs.Interface.{interface_options}
use Rattle.pcapng.specs.Options.{Options, fit, options_of, padded_len}
use Rattle.pcapng.specs.declared.block.BlockKind.{BlockKind}
use Rattle.pcapng.specs.declared.block.BlockKind.TheVariants as kinds
use Rattle.pcapng.specs.declared.block.BlockStart.{BlockStart}
use Rattle.pcapng.specs.declared.block.FirstSection.{FirstSection}
use Rattle.pcapng.specs.declared.block.FirstSection.TheVariants as firsts
use Rattle.pcapng.specs.declared.block.PacketFields.{PacketFields}
use Rattle.pcapng.specs.declared.block.StartFault.{StartFault}
use Rattle.pcapng.specs.declared.block.StartFault.TheVariants as starts
use Rattle.pcapng.specs.declared.block.TheConstants.{MAX_BLOCK_LEN}

-- ---- the start of a block

-- the kind of a block, by its type
abbrev pub kind_of : ℕ → BlockKind
kind_of code =
    if code == 0x0a0d0d0a then kinds.Section
    else if code == 1 then kinds.Interface
    else if code == 2 then kinds.ObsoletePacket
    else if code == 3 then kinds.SimplePacket
    else if code == 6 then kinds.Packet
    else kinds.Other

-- the length of the shortest block of a type: no options and no captured bytes
abbrev pub shortest_of : BlockKind → ℕ
shortest_of kinds.Section = 28
shortest_of kinds.Interface = 20
shortest_of kinds.Packet = 32
shortest_of kinds.ObsoletePacket = 32
shortest_of kinds.SimplePacket = 16
shortest_of kinds.Other = 12

-- a block that is passed over may have any length, another one no more than this project reads
abbrev pub is_short : BlockKind → ℕ → Bool
is_short kinds.Other len = true
is_short kind len = nat_le len MAX_BLOCK_LEN

-- a length that a block of a type may have
abbrev pub is_length_of : BlockKind → ℕ → Bool
is_length_of kind len = len % 4 == 0 && nat_le (shortest_of kind) len && is_short kind len

-- the byte order that the byte-order magic names, read with its most significant byte first
abbrev pub order_of_magic : ℕ → Option ByteOrder
order_of_magic magic = if magic == 0x1a2b3c4d then Some Big else if magic == 0x4d3c2b1a then Some Little else None

-- the byte order of a block: a section header names its own, and any other has that of its section
abbrev pub order_of : BlockKind → ByteOrder → List ℕ → Option ByteOrder
order_of kinds.Section order bytes = order_of_magic (big_number 4 (drop 8 bytes))
order_of kind order bytes = Some order

abbrev pub start_with : BlockKind → ByteOrder → ℕ → Result BlockStart StartFault
start_with kind order len = if is_length_of kind len then Ok (record { order = order; kind = kind; len = len }) else Err starts.Length

abbrev pub start_in : BlockKind → List ℕ → Option ByteOrder → Result BlockStart StartFault
start_in kind bytes None = Err starts.Magic
start_in kind bytes (Some order) = start_with kind order (number_in order 4 (drop 4 bytes))

abbrev pub start_as : BlockKind → ByteOrder → List ℕ → Result BlockStart StartFault
start_as kind order bytes = start_in kind bytes (order_of kind order bytes)

-- The block that bytes of a section of this order begin with, or what is wrong with its start. There are at least 12 bytes.
unfoldable pub start_of : ByteOrder → List ℕ → Result BlockStart StartFault
start_of order bytes = start_as (kind_of (number_in order 4 bytes)) order bytes

-- the reason of a wrong start within a recording
abbrev pub start_reason : StartFault → BadReason
start_reason starts.Magic = reasons.Section
start_reason starts.Length = reasons.BlockLength

-- the fault of one in the first section header
abbrev pub start_header_fault : StartFault → HeaderFault
start_header_fault starts.Magic = headers.ByteOrderMagic
start_header_fault starts.Length = headers.SectionLength

-- ---- whole blocks

-- nothing is wrong, or this is
abbrev pub unless : {E : Type 0} → Option E → Result (Unit {0}) E
unless None = Ok tt
unless (Some fault) = Err fault

-- the length at the end of a block is that of all its bytes
abbrev pub lengths_agree : ByteOrder → List ℕ → Bool
lengths_agree order block = number_in order 4 (drop (length block - 4) block) == length block

-- the options of a whole section header, after its section's length
abbrev pub section_options : ByteOrder → List ℕ → Options
section_options order block = options_of order (slice_range block 24 (length block - 4))

-- the fault of a whole section header: the major version is 1
abbrev pub section_fault : ByteOrder → List ℕ → Option HeaderFault
section_fault order block =
    if number_in order 2 (drop 12 block) == 1
    then (if fit (section_options order block) then (if lengths_agree order block then None else Some headers.SectionLengthsDiffer) else Some headers.SectionOption)
    else Some headers.SectionVersion

-- the reason of a fault of a later section header
abbrev pub later_reason : HeaderFault → BadReason
later_reason headers.SectionLengthsDiffer = reasons.BlockLengthsDiffer
later_reason headers.SectionOption = reasons.BlockBounds
later_reason fault = reasons.Section

-- the fault of options up to a block's end, or of the length there
abbrev pub end_fault : ByteOrder → List ℕ → Options → Option BadReason
end_fault order block options =
    if fit options then (if lengths_agree order block then None else Some reasons.BlockLengthsDiffer) else Some reasons.BlockBounds

-- the fault of the end of a whole interface description
abbrev pub interface_fault : ByteOrder → List ℕ → Option BadReason
interface_fault order block = end_fault order block (interface_options order block)

-- ---- packets (sections "Enhanced Packet Block" and "Packet Block (obsolete)")

-- the number of a packet's interface, which is a short one in an obsolete packet
abbrev pub interface_number : ByteOrder → BlockKind → List ℕ → ℕ
interface_number order kinds.ObsoletePacket block = number_in order 2 (drop 8 block)
interface_number order kind block = number_in order 4 (drop 8 block)

-- the fields of a packet: the upper half of its timestamp stands before the lower one
abbrev pub fields_of : ByteOrder → BlockKind → List ℕ → PacketFields
fields_of order kind block = record {
  interface = interface_number order kind block;
  timestamp = number_in order 4 (drop 12 block) * 2 ^ 32 + number_in order 4 (drop 16 block);
  captured_len = number_in order 4 (drop 20 block);
  original_len = number_in order 4 (drop 24 block);
}

-- the options of a whole packet, after its captured bytes and their padding
abbrev pub packet_options : ByteOrder → ℕ → List ℕ → Options
packet_options order captured block = options_of order (slice_range block (28 + padded_len captured) (length block - 4))

-- the fault of a whole packet from its captured bytes on
abbrev pub packet_fault : ByteOrder → ℕ → List ℕ → Option BadReason
packet_fault order captured block =
    if nat_lt (length block) (32 + padded_len captured) then Some reasons.BlockBounds else end_fault order block (packet_options order captured block)

-- a section header lies within so many bytes, or needs more, which can be had
abbrev pub IsWithin : ℕ → FirstSection → Type 0
IsWithin len (firsts.Needs needed) = (len < needed) × (needed ≤ MAX_BLOCK_LEN)
IsWithin len (firsts.Wrong fault) = ⊤
IsWithin len (firsts.Begins order needed) = needed ≤ len
