-- A capture that is written is read.
use Rattle.std.specs.Prelude.{◌≡◌, ℕ, ◌+◌, ◌<◌, ◌≤◌, max, Bool, false, List, [], ◌∷◌, ◌++◌, length, take, drop, filter, flat_map, Ok, ◌==◌}
use Rattle.afdx_frame.specs.Frame.{Frame, frame_with}
use Rattle.afdx_frame.specs.declared.key.Network.{Network}
use Rattle.pcap_io.specs.Capture.{capture_header, capture_layout, kept_fields}
use Rattle.pcap_io.specs.Position.{Holds, start_at}
use Rattle.pcap_io.specs.Recording.{is_file_header}
use Rattle.pcap_io.specs.declared.layout.TheConstants.{FILE_HEADER_LEN}
use Rattle.pcap_io.specs.declared.recording.Ending.TheVariants.{Clean}
use Rattle.pcapng.specs.Given.{Given, header_given, plain}
use Rattle.pcapng.specs.Handed.{given_of}
use Rattle.pcapng.specs.Text.{packet_header_bytes}
use Rattle.pcapng.specs.declared.choice.Choice.TheVariants.{Any, Number}
use Rattle.pcapng.specs.Blocks.{Written, capture_bytes, interface_of}
use Rattle.pcapng.specs.Stepping.{AreWritable}
use Rattle.pcapng.specs.declared.interfaces.Interfaces.TheVariants.{Networks, One}

-- ---- the pcap that is given

-- a packet in it: its header, and the bytes that are kept
abbrev pub given_packet : Written → List ℕ
given_packet p = packet_header_bytes p.frame.stamp p.keep p.frame.whole ++ take p.keep p.frame.bytes

-- the packet is of the interface of this number
abbrev pub is_of : ℕ → Written → Bool
is_of number p = interface_of Networks p.frame.network == number

-- A capture of one interface, where no interface is chosen.
abbrev pub CaptureIsGiven : Type 0
CaptureIsGiven = (packets : List Written) → AreWritable packets
    → given_of Any (capture_bytes One packets) ≡ plain (capture_header ++ flat_map given_packet packets)

-- A capture of both networks, of which interface 0 or 1 is chosen.
abbrev pub NetworkIsGiven : Type 0
NetworkIsGiven = (number : ℕ) (packets : List Written) → number < 2 → AreWritable packets
    → given_of (Number number) (capture_bytes Networks packets) ≡ plain (capture_header ++ flat_map given_packet (filter (is_of number) packets))

-- ---- the frames that are read of it

-- the frames of packets, with the bytes that are kept, numbered from n
abbrev pub kept_frames : Network → ℕ → List Written → List Frame
kept_frames network n [] = []
kept_frames network n (p ∷ ps) = frame_with network n p.frame.stamp p.frame.whole (take p.keep p.frame.bytes) ∷ kept_frames network (n + 1) ps

-- Each frame comes no more than `late` nanoseconds before the latest of those before it, whose timestamp is `high`.
abbrev pub AreInTime : ℕ → ℕ → List Written → Type 0
AreInTime late high [] = Unit {0}
AreInTime late high (p ∷ ps) = (high ≤ p.frame.stamp + late) × AreInTime late (max high p.frame.stamp) ps

-- none of the packets reads as a pcap file's header
abbrev pub AreNoHeaders : List Written → Type 0
AreNoHeaders [] = Unit {0}
AreNoHeaders (p ∷ ps) = (is_file_header (kept_fields p.frame p.keep) ≡ false) × AreNoHeaders ps

-- A reader of these bytes, as a tap of this network, reads the frames of these packets, and then a clean end.
abbrev pub HoldsFrames : Network → ℕ → ℕ → Given → List Written → Type 0
HoldsFrames network most late given packets =
    (header_given given ≡ Ok capture_layout)
    × Holds (start_at network capture_layout most late) given.told (drop FILE_HEADER_LEN given.bytes) (kept_frames network 0 packets) (Clean (length packets))

-- So of a capture its frames are read, where no more than the reader takes come in time.
abbrev pub CaptureIsRead : Type 0
CaptureIsRead = (network : Network) (most late : ℕ) (packets : List Written) → AreWritable packets → AreNoHeaders packets → AreInTime late 0 packets → length packets ≤ most
    → HoldsFrames network most late (given_of Any (capture_bytes One packets)) packets

-- And of a capture of both networks those of the chosen one.
abbrev pub NetworkIsRead : Type 0
NetworkIsRead = (network : Network) (number most late : ℕ) (packets chosen : List Written) → number < 2 → AreWritable packets
    → chosen ≡ filter (is_of number) packets → AreNoHeaders chosen → AreInTime late 0 chosen → length chosen ≤ most
    → HoldsFrames network most late (given_of (Number number) (capture_bytes Networks packets)) chosen
