-- After its header each recording parses in one way into good packets and a rest that ends it; a reader's calls give that parse;
-- and the capture of frames is a recording that gives the frames back.
use Rattle.std.specs.Prelude.{◌≡◌, ℕ, ◌≤◌, List, ◌++◌, length, drop, Option, Some, Ok, IfSome}
use Rattle.afdx_frame.specs.Frame.{Frame}
use Rattle.afdx_frame.specs.declared.key.Network.{Network}
use Rattle.pcap_io.specs.Bytes.{IsBytes}
use Rattle.pcap_io.specs.Capture.{AreCapturable, capture_frames, capture_layout, capture_of}
use Rattle.pcap_io.specs.Layout.{bytes_in, header_of}
use Rattle.pcap_io.specs.Position.{Holds, IsNext, Reads, start_at}
use Rattle.pcap_io.specs.Recording.{Packet, Parses, header_fields, reason_at}
use Rattle.pcap_io.specs.declared.item.Item.TheVariants as items
use Rattle.pcap_io.specs.declared.layout.Layout.{Layout}
use Rattle.pcap_io.specs.declared.layout.Precision.{Precision}
use Rattle.pcap_io.specs.declared.layout.Precision.TheVariants.{Nanoseconds, Microseconds}
use Rattle.pcap_io.specs.declared.layout.TheConstants.{FILE_HEADER_LEN}
use Rattle.pcap_io.specs.declared.position.Position.{Position}
use Rattle.pcap_io.specs.declared.recording.BadReason.TheVariants.{FileHeader}
use Rattle.pcap_io.specs.declared.recording.Ending.{Ending}
use Rattle.pcap_io.specs.declared.recording.Ending.TheVariants.{Clean}
use Rattle.pcap_io.specs.declared.told.Told.{Told}
use Rattle.pcap_io.specs.declared.told.Told.TheVariants.{Nothing}

abbrev pub EveryRecordingParses : Type 0
EveryRecordingParses = (layout : Layout) (most late : ℕ) (told : Told) (bytes : List ℕ) → IsBytes bytes
    → (packets : List Packet) × (rest : List ℕ) × (ending : Ending) × Parses layout most late told 0 0 bytes packets rest ending

abbrev pub OneParse : Type 0
OneParse = (layout : Layout) (most late : ℕ) (told : Told) (bytes : List ℕ) (packets others : List Packet) (rest left : List ℕ) (ending last : Ending)
    → Parses layout most late told 0 0 bytes packets rest ending → Parses layout most late told 0 0 bytes others left last
    → (packets ≡ others) × (rest ≡ left) × (ending ≡ last)

-- From a position on, bytes hold one list of frames and one ending.
abbrev pub HoldsOne : Type 0
HoldsOne = (p : Position) (told : Told) (bytes : List ℕ) (frames others : List Frame) (ending last : Ending)
    → Holds p told bytes frames ending → Holds p told bytes others last → (frames ≡ others) × (ending ≡ last)

-- Calls that give frames and then an ending give those that the bytes hold.
abbrev pub ReadsToEnd : Type 0
ReadsToEnd = (p q : Position) (told : Told) (bytes : List ℕ) (left after : Option (List ℕ)) (frames : List Frame) (ending : Ending) → p.count ≤ p.most
    → Reads p (Some bytes) frames q left → IsNext q told left after (items.End ending) → Holds p told bytes frames ending

-- Calls that give frames alone give a prefix of those that the bytes hold, and leave the bytes that hold the others.
abbrev pub ReadsPrefix : Type 0
ReadsPrefix = (p q : Position) (told : Told) (bytes : List ℕ) (left : Option (List ℕ)) (frames all : List Frame) (ending : Ending)
    → Reads p (Some bytes) frames q left → Holds p told bytes all ending
    → (others : List Frame) × (all ≡ frames ++ others) × IfSome left (λ rest. Holds q told rest others ending)

-- the magic number of a pcap file
abbrev pub magic_of : Precision → ℕ
magic_of Nanoseconds = 0xa1b23c4d
magic_of Microseconds = 0xa1b2c3d4

-- the start of a pcap file: its magic number, version 2.4, and the fields thiszone and sigfigs, which are 0
abbrev pub file_start : Layout → List ℕ
file_start file = bytes_in file.order 4 (magic_of file.precision) ++ (bytes_in file.order 2 2 ++ (bytes_in file.order 2 4 ++ bytes_in file.order 8 0))

-- A reader of a pcap file is told where another one begins, of any byte order and precision.
abbrev pub FileHeaderIsTold : Type 0
FileHeaderIsTold = (file : Layout) (layout : Layout) (late high : ℕ) → reason_at layout late high (header_fields layout (file_start file)) ≡ Some FileHeader

-- The capture of frames in time order is a recording of these frames, cut to what is kept, that ends clean.
abbrev pub CaptureIsRead : Type 0
CaptureIsRead = (network : Network) (most late : ℕ) (keep : Frame → ℕ) (frames : List Frame) → AreCapturable keep 0 frames → length frames ≤ most
    → (header_of Nothing (capture_of keep frames) ≡ Ok capture_layout)
    × Holds (start_at network capture_layout most late) Nothing (drop FILE_HEADER_LEN (capture_of keep frames)) (capture_frames network 0 keep frames) (Clean (length frames))
