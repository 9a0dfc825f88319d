-- Laws of pcapng files, which hold of the definitions alone.
use Rattle.std.specs.Prelude.{◌≡◌, ℕ, ◌+◌, ◌<◌, ◌≤◌, max, false, List, [], ◌∷◌, ◌++◌, length, take, drop, Ok, Err}
use Rattle.byteorder.specs.Endian.{big_number}
use Rattle.pcap_io.specs.Bytes.{IsBytes}
use Rattle.pcap_io.specs.Recording.{Packet, Parses, fields_of, is_file_header, stamp_of}
use Rattle.pcap_io.specs.declared.recording.Ending.{Ending}
use Rattle.pcap_io.specs.declared.layout.ByteOrder.{ByteOrder}
use Rattle.pcap_io.specs.declared.layout.HeaderFault.{HeaderFault}
use Rattle.pcap_io.specs.declared.layout.HeaderFault.TheVariants.{Short}
use Rattle.pcap_io.specs.declared.layout.TheConstants.{FILE_HEADER_LEN}
use Rattle.pcapng.specs.Block.{start_of}
use Rattle.pcapng.specs.File.{Blocks, Read, blocks_of, first_of, given_at, read_of}
use Rattle.pcapng.specs.Given.{Given, followed, header_given}
use Rattle.pcapng.specs.Handed.{given_of}
use Rattle.pcapng.specs.Packets.{ending_for, packets_for}
use Rattle.pcapng.specs.Section.{Known, in_section, unknown}
use Rattle.pcap_io.specs.Capture.{capture_layout}
use Rattle.pcapng.specs.declared.block.BlockStart.{BlockStart}
use Rattle.pcapng.specs.declared.block.FirstSection.TheVariants.{Begins, Needs, Wrong}
use Rattle.pcapng.specs.declared.choice.Choice.{Choice}
use Rattle.pcap_io.specs.declared.layout.ByteOrder.TheVariants.{Little}

-- the bytes begin with a section header's type, and hold a block's start
abbrev pub IsPcapng : List ℕ → Type 0
IsPcapng bytes = (12 ≤ length bytes) × (big_number 4 (take 4 bytes) ≡ 0x0a0d0d0a)

-- A whole block at the front is read first, and then what follows it.
abbrev pub BlockIsReadFirst : Type 0
BlockIsReadFirst = (k : Known) (bytes more : List ℕ) (start : BlockStart) (read : Read) → 12 ≤ length bytes → start_of k.order bytes ≡ Ok start
    → start.len ≡ length bytes → read_of k start bytes ≡ Ok read → given_at k (bytes ++ more) ≡ followed read.given (given_at read.known more)

-- A reader of what is given for a file is told what is wrong with its first section header.
abbrev pub HeaderFaultIsTold : Type 0
HeaderFaultIsTold = (choice : Choice) (bytes : List ℕ) (fault : HeaderFault) → IsPcapng bytes → first_of bytes ≡ Wrong fault
    → header_given (given_of choice bytes) ≡ Err fault

-- It is told that a file ends before its first section header does.
abbrev pub ShortFileIsTold : Type 0
ShortFileIsTold = (choice : Choice) (bytes : List ℕ) (needed : ℕ) → IsPcapng bytes → first_of bytes ≡ Needs needed → header_given (given_of choice bytes) ≡ Err Short

-- the knowledge where the first section begins
abbrev pub first_known : Choice → ByteOrder → Known
first_known choice order = in_section order (unknown choice Little)

-- Each packet comes no more than `late` nanoseconds before the latest of those before it, whose timestamp is `high`.
abbrev pub AreInTime : ℕ → ℕ → List Packet → Type 0
AreInTime late high [] = Unit {0}
AreInTime late high (p ∷ ps) = (high ≤ stamp_of capture_layout p + late) × AreInTime late (max high (stamp_of capture_layout p)) ps

-- none of them reads as a pcap file's header
abbrev pub AreNoHeaders : List Packet → Type 0
AreNoHeaders [] = Unit {0}
AreNoHeaders (p ∷ ps) = (is_file_header (fields_of p) ≡ false) × AreNoHeaders ps

-- So many packets are fewer than a reader takes; none is a file header, and none comes later than it allows.
abbrev pub AreReadable : ℕ → ℕ → List Packet → Type 0
AreReadable most late packets = AreInTime late 0 packets × AreNoHeaders packets × (length packets < most)

-- after the file header what is given is these packets, and ends so
abbrev pub HoldsPackets : ℕ → ℕ → Given → List Packet → Ending → Type 0
HoldsPackets most late given packets ending = Parses capture_layout most late given.told 0 0 (drop FILE_HEADER_LEN given.bytes) packets [] ending

-- A reader of what is given for a file reads the file's packets, and then its ending.
abbrev pub FileIsRead : Type 0
FileIsRead = (choice : Choice) (bytes : List ℕ) (order : ByteOrder) (len most late : ℕ) (blocks : Blocks) (packets : List Packet) → IsBytes bytes
    → IsPcapng bytes → first_of bytes ≡ Begins order len → blocks ≡ blocks_of order (drop len bytes) → packets ≡ packets_for (first_known choice order) blocks
    → AreReadable most late packets
    → (header_given (given_of choice bytes) ≡ Ok capture_layout)
    × HoldsPackets most late (given_of choice bytes) packets (ending_for (length packets) (first_known choice order) blocks)
