-- The bytes of a capture (draft-ietf-opsawg-pcapng, version 1.0), little-endian.
use Rattle.std.specs.Prelude.{ℕ, ◌+◌, ◌-◌, ◌/◌, ◌%◌, ◌^◌, List, [], ◌∷◌, ◌++◌, length, take, flat_map, Option, Some, None}
use Rattle.byteorder.specs.Endian.{little_bytes}
use Rattle.afdx_frame.specs.Frame.{Frame}
use Rattle.afdx_frame.specs.declared.key.Network.{Network}
use Rattle.afdx_frame.specs.declared.key.Network.TheVariants.{A, B}
use Rattle.pcapng.specs.declared.interfaces.Interfaces.{Interfaces}
use Rattle.pcapng.specs.declared.interfaces.Interfaces.TheVariants.{One, Networks}

-- ---- parts

-- how many bytes so many lack to a multiple of 4
abbrev pub padding_len : ℕ → ℕ
padding_len len = (4 - len % 4) % 4

-- the bytes, and zeros up to a multiple of 4 of them
abbrev pub padded : List ℕ → List ℕ
padded bytes = bytes ++ take (padding_len (length bytes)) (0 ∷ 0 ∷ 0 ∷ [])

-- A block: its type, its total length, its body, and the total length again. A body has a multiple of 4 bytes.
abbrev pub block_bytes : ℕ → List ℕ → List ℕ
block_bytes kind body =
    little_bytes 4 kind ++ (little_bytes 4 (12 + length body) ++ (body ++ little_bytes 4 (12 + length body)))

-- an option: its code, the length of its value, and the value padded
abbrev pub option_bytes : ℕ → List ℕ → List ℕ
option_bytes code value = little_bytes 2 code ++ (little_bytes 2 (length value) ++ padded value)

-- the option opt_endofopt, after which there are no others
abbrev pub end_of_options : List ℕ
end_of_options = option_bytes 0 []

-- ---- the head of a capture

-- the section header: the byte-order magic, version 1.0, and the section's length, which is unknown, -1
unfoldable pub section_header : List ℕ
section_header =
    block_bytes 0x0a0d0d0a (little_bytes 4 0x1a2b3c4d ++ (little_bytes 2 1 ++ (little_bytes 2 0 ++ little_bytes 8 (2 ^ 64 - 1))))

-- the option if_name, where an interface has a name
abbrev pub name_option : Option (List ℕ) → List ℕ
name_option None = []
name_option (Some name) = option_bytes 2 name

-- An interface description: link type 1, Ethernet, two reserved bytes, snapshot length 262144, the name, and the option if_tsresol, 10^-9.
abbrev pub interface_description : Option (List ℕ) → List ℕ
interface_description name =
    block_bytes 1 (little_bytes 2 1 ++ (little_bytes 2 0 ++ (little_bytes 4 262144 ++ (name_option name ++ (option_bytes 9 (9 ∷ []) ++ end_of_options)))))

-- one without a name, or those of networks A and B
unfoldable pub descriptions_of : Interfaces → List ℕ
descriptions_of One = interface_description None
descriptions_of Networks = interface_description (Some (65 ∷ [])) ++ interface_description (Some (66 ∷ []))

abbrev pub head_bytes : Interfaces → List ℕ
head_bytes interfaces = section_header ++ descriptions_of interfaces

-- ---- packets

-- the number of the interface of a network's packets
abbrev pub interface_of : Interfaces → Network → ℕ
interface_of One network = 0
interface_of Networks A = 0
interface_of Networks B = 1

-- the options of a packet: opt_comment, where it has a comment
abbrev pub packet_options : Option (List ℕ) → List ℕ
packet_options None = []
packet_options (Some text) = option_bytes 1 text ++ end_of_options

-- the upper and the lower half of a timestamp, which is in nanoseconds since 1970
abbrev pub stamp_bytes : ℕ → List ℕ
stamp_bytes stamp = little_bytes 4 (stamp / 2 ^ 32) ++ little_bytes 4 (stamp % 2 ^ 32)

-- The body of an enhanced packet block, of which `keep` bytes are kept: interface, timestamp, captured length, original length, the bytes
-- padded, and the options.
abbrev pub packet_body : Interfaces → Frame → ℕ → Option (List ℕ) → List ℕ
packet_body interfaces f keep comment =
    little_bytes 4 (interface_of interfaces f.network)
    ++ (stamp_bytes f.stamp
    ++ (little_bytes 4 keep
    ++ (little_bytes 4 f.whole
    ++ (padded (take keep f.bytes) ++ packet_options comment))))

-- an enhanced packet block
unfoldable pub packet_block : Interfaces → Frame → ℕ → Option (List ℕ) → List ℕ
packet_block interfaces f keep comment = block_bytes 6 (packet_body interfaces f keep comment)

-- ---- a capture

-- a packet that is written: its frame, how many bytes of it are kept, and its comment
pub record Written : Type 0 where
  pub frame : Frame
  pub keep : ℕ
  pub comment : Option (List ℕ)

abbrev pub written_block : Interfaces → Written → List ℕ
written_block interfaces p = packet_block interfaces p.frame p.keep p.comment

-- the capture of these packets
abbrev pub capture_bytes : Interfaces → List Written → List ℕ
capture_bytes interfaces packets = head_bytes interfaces ++ flat_map (written_block interfaces) packets
