-- The bytes of a capture: a recording in nanoseconds, little-endian (pcap savefile format 2.4).
use Rattle.std.specs.Prelude.{ℕ, ◌+◌, ◌/◌, ◌%◌, ◌^◌, ◌<◌, ◌≤◌, max, ◌≡◌, false, List, [], ◌∷◌, ◌++◌, length, take, flat_map, ⊤}
use Rattle.afdx_frame.specs.Frame.{Frame, IsFrame, frame_with}
use Rattle.afdx_frame.specs.declared.key.Network.{Network}
use Rattle.pcap_io.specs.Recording.{header_bytes, is_file_header}
use Rattle.pcap_io.specs.declared.layout.ByteOrder.TheVariants.{Little}
use Rattle.pcap_io.specs.declared.layout.Precision.TheVariants.{Nanoseconds}
use Rattle.pcap_io.specs.declared.layout.Layout.{Layout}
use Rattle.pcap_io.specs.declared.packet_header.PacketHeader.{PacketHeader}

abbrev pub capture_layout : Layout
capture_layout = record { order = Little; precision = Nanoseconds }

-- magic number, version 2.4, thiszone, sigfigs, snapshot length 262144, link type 1
unfoldable pub capture_header : List ℕ
capture_header =
    0x4d ∷ 0x3c ∷ 0xb2 ∷ 0xa1 ∷ 2 ∷ 0 ∷ 4 ∷ 0 ∷ 0 ∷ 0 ∷ 0 ∷ 0 ∷ 0 ∷ 0 ∷ 0 ∷ 0 ∷ 0 ∷ 0 ∷ 4 ∷ 0 ∷ 1 ∷ 0 ∷ 0 ∷ 0 ∷ []

-- its header: seconds, nanoseconds, captured length, original length
abbrev pub packet_header : Frame → ℕ → List ℕ
packet_header f keep =
    header_bytes capture_layout (f.stamp / 1000000000) (f.stamp % 1000000000) keep f.whole

-- the fields of this header
abbrev pub kept_fields : Frame → ℕ → PacketHeader
kept_fields f keep = record { seconds = f.stamp / 1000000000; fraction = f.stamp % 1000000000; captured_len = keep; original_len = f.whole }

-- the packet of a frame of which `keep` bytes are kept
unfoldable pub packet_text : Frame → ℕ → List ℕ
packet_text f keep = packet_header f keep ++ take keep f.bytes

-- the capture of frames, of each of which so many bytes are kept
abbrev pub capture_of : (Frame → ℕ) → List Frame → List ℕ
capture_of keep frames = capture_header ++ flat_map (λ f. packet_text f (keep f)) frames

-- the frames that are read from it, numbered from n
abbrev pub capture_frames : Network → ℕ → (Frame → ℕ) → List Frame → List Frame
capture_frames network n keep [] = []
capture_frames network n keep (f ∷ fs) =
    frame_with network n f.stamp f.whole (take (keep f) f.bytes) ∷ capture_frames network (n + 1) keep fs

-- A frame of which so many bytes can be kept after frames whose greatest timestamp is `high`.
pub record IsCapturable (keep : Frame → ℕ) (high : ℕ) (f : Frame) : Type 0 where
  pub fits : IsFrame f
  pub whole_fits : f.whole < 2 ^ 32
  pub within : keep f ≤ length f.bytes
  pub in_time : high ≤ f.stamp
  pub no_file_header : is_file_header (kept_fields f (keep f)) ≡ false

-- each of these can follow those before it
abbrev pub AreCapturable : (Frame → ℕ) → ℕ → List Frame → Type 0
AreCapturable keep high [] = ⊤
AreCapturable keep high (f ∷ fs) = IsCapturable keep high f × AreCapturable keep (max high f.stamp) fs
