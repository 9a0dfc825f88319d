-- The content of a recording (pcap savefile format 2.4): good packets, one after another, and then a rest that ends it.
use Rattle.std.specs.Prelude.{◌≡◌, ℕ, ◌+◌, ◌-◌, ◌*◌, ◌^◌, ◌<◌, ◌≤◌, max, Bool, false, ◌&&◌, ◌||◌, List, [], ◌∷◌, ◌++◌, length, take, drop, flat_map, Option, Some, None, nat_lt, nat_le, ◌==◌, if◌then◌else◌}
use Rattle.afdx_frame.specs.Frame.{Frame, frame_with}
use Rattle.afdx_frame.specs.declared.bounds.TheConstants.{MAX_SNAPLEN}
use Rattle.afdx_frame.specs.declared.key.Network.{Network}
use Rattle.pcap_io.specs.Layout.{number_in, bytes_in, nanoseconds_of, fractions_of}
use Rattle.pcap_io.specs.declared.layout.Layout.{Layout}
use Rattle.pcap_io.specs.declared.packet_header.PacketHeader.{PacketHeader}
use Rattle.pcap_io.specs.declared.packet_header.TheConstants.{PACKET_HEADER_LEN}
use Rattle.pcap_io.specs.declared.recording.BadReason.{BadReason}
use Rattle.pcap_io.specs.declared.recording.BadReason.TheVariants.{FileHeader, Fraction, Length, StampBack, TooMany}
use Rattle.pcap_io.specs.declared.recording.Ending.{Ending}
use Rattle.pcap_io.specs.declared.recording.Ending.TheVariants.{Cut, Bad}
use Rattle.pcap_io.specs.declared.told.Told.{Told}
use Rattle.pcap_io.specs.Told.{told_ending}

-- one frame's packet
pub record Packet : Type 0 where
  pub seconds : ℕ
  -- of a second, in the layout's unit
  pub fraction : ℕ
  -- the length on the wire
  pub original_len : ℕ
  pub bytes : List ℕ

-- a packet's header: timestamp, captured length and original length
abbrev pub header_bytes : Layout → ℕ → ℕ → ℕ → ℕ → List ℕ
header_bytes layout seconds fraction captured original =
    bytes_in layout.order 4 seconds
    ++ (bytes_in layout.order 4 fraction ++ (bytes_in layout.order 4 captured ++ bytes_in layout.order 4 original))

-- a packet as it stands in a recording
abbrev pub packet_bytes : Layout → Packet → List ℕ
packet_bytes layout r = header_bytes layout r.seconds r.fraction (length r.bytes) r.original_len ++ r.bytes

-- a timestamp in nanoseconds
abbrev pub stamp_at : Layout → ℕ → ℕ → ℕ
stamp_at layout seconds fraction = seconds * 1000000000 + fraction * nanoseconds_of layout.precision

-- the packet's timestamp
abbrev pub stamp_of : Layout → Packet → ℕ
stamp_of layout r = stamp_at layout r.seconds r.fraction

-- The packet's frame, the n-th of its recording. Its length on the wire is at least that of its bytes (this project's rule).
abbrev pub frame_of : Network → Layout → ℕ → Packet → Frame
frame_of network layout n r = frame_with network n (stamp_of layout r) (max r.original_len (length r.bytes)) r.bytes

-- the frames of packets, numbered from n
abbrev pub frames_of : Network → Layout → ℕ → List Packet → List Frame
frames_of network layout n [] = []
frames_of network layout n (r ∷ rs) = frame_of network layout n r ∷ frames_of network layout (n + 1) rs

-- The seconds and the fraction that the first eight bytes of a pcap file make, where they are read as a packet's: a magic number of
-- microseconds or of nanoseconds, and then version 2.4, in the order of the bytes that they are read in or in the other one.
abbrev pub is_file_start : ℕ → ℕ → Bool
is_file_start seconds fraction =
    ((seconds == 0xa1b2c3d4 || seconds == 0xa1b23c4d) && (fraction == 0x00020004 || fraction == 0x00040002))
    || ((seconds == 0xd4c3b2a1 || seconds == 0x4d3cb2a1) && (fraction == 0x02000400 || fraction == 0x04000200))

-- A pcap file's header stands where a packet's should, with its fields thiszone and sigfigs at 0 (this project's rule).
abbrev pub is_file_header : PacketHeader → Bool
is_file_header head = head.captured_len == 0 && (head.original_len == 0 && is_file_start head.seconds head.fraction)

-- the fields of a packet's header
abbrev pub fields_of : Packet → PacketHeader
fields_of r = record { seconds = r.seconds; fraction = r.fraction; captured_len = length r.bytes; original_len = r.original_len }

-- A packet that may follow others whose greatest timestamp is `high`, 0 where there are none. A timestamp may come late, by no more than
-- `late` nanoseconds.
pub record IsGood (layout : Layout) (late high : ℕ) (r : Packet) : Type 0 where
  pub few_bytes : length r.bytes ≤ MAX_SNAPLEN
  pub seconds_fit : r.seconds < 2 ^ 32
  pub original_len_fits : r.original_len < 2 ^ 32
  pub within_second : r.fraction < fractions_of layout.precision
  pub no_file_header : is_file_header (fields_of r) ≡ false
  pub in_time : high ≤ stamp_of layout r + late

-- the greatest timestamp, with those of more packets
abbrev pub high_after : Layout → ℕ → List Packet → ℕ
high_after layout high [] = high
high_after layout high (r ∷ rs) = high_after layout (max high (stamp_of layout r)) rs

-- each packet may follow those before it
abbrev pub AreGood : Layout → ℕ → ℕ → List Packet → Type 0
AreGood layout late high [] = Unit {0}
AreGood layout late high (r ∷ rs) = IsGood layout late high r × AreGood layout late (max high (stamp_of layout r)) rs

-- the fields of a header
abbrev pub header_fields : Layout → List ℕ → PacketHeader
header_fields layout bytes = record {
  seconds = number_in layout.order 4 bytes;
  fraction = number_in layout.order 4 (drop 4 bytes);
  captured_len = number_in layout.order 4 (drop 8 bytes);
  original_len = number_in layout.order 4 (drop 12 bytes);
}

-- the fault of a header: the first reason that fits
abbrev pub reason_at : Layout → ℕ → ℕ → PacketHeader → Option BadReason
reason_at layout late high head =
    if is_file_header head then Some FileHeader
    else if nat_lt MAX_SNAPLEN head.captured_len then Some Length
    else if nat_le (fractions_of layout.precision) head.fraction then Some Fraction
    else if nat_lt (stamp_at layout head.seconds head.fraction + late) high
    then Some (StampBack (high - stamp_at layout head.seconds head.fraction))
    else None

-- the ending at a header that `left` bytes follow
abbrev pub ending_after : ℕ → PacketHeader → ℕ → Option BadReason → Option Ending
ending_after n head left (Some reason) = Some (Bad n reason)
ending_after n head left None = if nat_lt left head.captured_len then Some (Cut n) else None

-- The ending after n packets whose greatest timestamp is `high`, where `rest` is left, the source tells this at its end, and `most`
-- packets are read: the first that fits. None: another good packet stands there.
abbrev pub ending_at : Layout → ℕ → ℕ → Told → ℕ → ℕ → List ℕ → Option Ending
ending_at layout most late told n high rest =
    if length rest == 0 then Some (told_ending told most n)
    else if n == most then Some (Bad n TooMany)
    else if nat_lt (length rest) PACKET_HEADER_LEN then Some (Cut n)
    else ending_after n (header_fields layout (take PACKET_HEADER_LEN rest)) (length rest - PACKET_HEADER_LEN)
    (reason_at layout late high (header_fields layout (take PACKET_HEADER_LEN rest)))

-- After n packets whose greatest timestamp is `high` the bytes are these good packets and a rest that ends the recording so.
pub record Parses (layout : Layout) (most late : ℕ) (told : Told) (n high : ℕ) (bytes : List ℕ) (packets : List Packet) (rest : List ℕ) (ending : Ending) : Type 0 where
  pub complete : bytes ≡ flat_map (packet_bytes layout) packets ++ rest
  pub good : AreGood layout late high packets
  pub bounded : n + length packets ≤ most
  pub ends : ending_at layout most late told (n + length packets) (high_after layout high packets) rest ≡ Some ending
