-- The capture of frames in time order holds these frames.
use Rattle.std.proofs.Common.{◌≡◌, ℕ, ◌+◌, ◌*◌, ◌/◌, ◌%◌, ◌<◌, ◌≤◌, ◌^◌, max, false, List, [], ◌∷◌, ◌++◌, length, take, drop, Some, Ok, refl, sym, ap, ◌∙◌, subst, arith, add-zero, length-take-le}
use Rattle.std.proofs.lemmas.List.{drop_at}
use Rattle.std.specs.List.{flat_map}
use Rattle.afdx_frame.specs.Frame.{Frame, IsFrame, frame_with}
use Rattle.afdx_frame.specs.declared.key.Network.{Network}
use Rattle.pcap_io.specs.Capture.{AreCapturable, IsCapturable, capture_frames, capture_header, capture_layout, capture_of, kept_fields, packet_text}
use Rattle.pcap_io.specs.Layout.{header_of}
use Rattle.pcap_io.specs.Position.{Holds, TakesFrame, start_at}
use Rattle.pcap_io.specs.Recording.{Packet, IsGood, header_bytes, is_file_header, packet_bytes, frame_of}
use Rattle.pcap_io.specs.declared.layout.TheConstants.{FILE_HEADER_LEN}
use Rattle.pcap_io.specs.declared.position.Position.{Position}
use Rattle.pcap_io.specs.declared.recording.Ending.TheVariants.{Clean}
use Rattle.pcap_io.specs.declared.recording.Stage.TheVariants.{Going}
use Rattle.pcap_io.specs.declared.told.Told.{Told}
use Rattle.pcap_io.specs.declared.told.Told.TheVariants.{Nothing}
use Rattle.pcap_io.proofs.FileHeader.{header-append}
use Rattle.pcap_io.proofs.Parse.{holds_end, holds_more}

-- the packet of a frame of which `keep` bytes are kept
abbrev cut_packet : Frame → ℕ → Packet
cut_packet f keep = record {
  seconds = f.stamp / 1000000000;
  fraction = f.stamp % 1000000000;
  original_len = f.whole;
  bytes = take keep f.bytes;
}

text_is : (f : Frame) (keep : ℕ) → keep ≤ length f.bytes → packet_text f keep ≡ packet_bytes capture_layout (cut_packet f keep)
unfolding packet_text
text_is f keep within =
    ap (λ (n : ℕ). header_bytes capture_layout (f.stamp / 1000000000) (f.stamp % 1000000000) n f.whole ++ take keep f.bytes) (sym (length-take-le keep f.bytes within))

is_good : (f : Frame) (keep late high : ℕ) → IsFrame f → keep ≤ length f.bytes → high ≤ f.stamp → f.whole < 2 ^ 32 → is_file_header (kept_fields f keep) ≡ false → IsGood capture_layout late high (cut_packet f keep)
is_good f keep late high fits within in_time whole packet = record {
  few_bytes = omega (arith, length-take-le keep f.bytes within, fits.few_bytes);
  seconds_fit = omega (arith, fits.stamp_fits);
  original_len_fits = whole;
  within_second = omega arith;
  no_file_header = ap (λ (n : ℕ). is_file_header (kept_fields f n)) (length-take-le keep f.bytes within) ∙ packet;
  in_time = omega arith;
}

frame_is : (network : Network) (n : ℕ) (f : Frame) (keep : ℕ) → IsFrame f → keep ≤ length f.bytes
    → frame_with network n f.stamp f.whole (take keep f.bytes) ≡ frame_of network capture_layout n (cut_packet f keep)
frame_is network n f keep fits within =
    let size = length-take-le keep f.bytes within in
    let stamp : f.stamp ≡ f.stamp / 1000000000 * 1000000000 + f.stamp % 1000000000 * 1 = omega arith in
    let whole : f.whole ≡ max f.whole (length (take keep f.bytes)) = omega (arith, size, fits.within_whole) in
    ap (λ (s : ℕ). frame_with network n s f.whole (take keep f.bytes)) stamp
    ∙ ap (λ (w : ℕ). frame_with network n (f.stamp / 1000000000 * 1000000000 + f.stamp % 1000000000 * 1) w (take keep f.bytes)) whole

-- after n frames whose greatest timestamp is `high`
abbrev position_at : Network → ℕ → ℕ → ℕ → ℕ → Position
position_at network most late n high = record {
  network = network;
  layout = capture_layout;
  most = most;
  late = late;
  count = n;
  high = high;
  stage = Going;
}

takes_first : (network : Network) (most late n high : ℕ) (keep : Frame → ℕ) (f : Frame) (more : List ℕ) → IsCapturable keep high f → n < most
    → TakesFrame (position_at network most late n high) (Some (packet_text f (keep f) ++ more)) (Some more) (frame_with network n f.stamp f.whole (take (keep f) f.bytes))
takes_first network most late n high keep f more can few = record {
  taken = cut_packet f (keep f);
  good = is_good f (keep f) late high can.fits can.within can.in_time can.whole_fits can.no_file_header;
  bounded = few;
  same = frame_is network n f (keep f) can.fits can.within;
  gone = ap (λ (l : List ℕ). l ++ more) (text_is f (keep f) can.within);
}

packets_hold : (network : Network) (most late n high : ℕ) (keep : Frame → ℕ) (frames : List Frame) → AreCapturable keep high frames → n + length frames ≤ most
    → Holds (position_at network most late n high) Nothing (flat_map (λ f. packet_text f (keep f)) frames) (capture_frames network n keep frames) (Clean (n + length frames))
packets_hold network most late n high keep [] can few =
    rw add-zero (holds_end (position_at network most late n high) Nothing [] (Clean n) (omega arith) refl)
packets_hold network most late n high keep (f ∷ fs) can few =
    let all : n + 1 + length fs ≡ n + length (f ∷ fs) = omega arith in
    let more : List ℕ = flat_map (λ g. packet_text g (keep g)) fs in
    let next = packets_hold network most late (n + 1) (max high f.stamp) keep fs can.1 (omega arith) in
    subst (λ (m : ℕ). Holds (position_at network most late n high) Nothing (packet_text f (keep f) ++ more) (capture_frames network n keep (f ∷ fs)) (Clean m)) all
    (holds_more (position_at network most late n high) Nothing (packet_text f (keep f) ++ more) more _ _ _ (takes_first network most late n high keep f more can.0 (omega arith)) next)

pub header_size : length capture_header ≡ FILE_HEADER_LEN
unfolding capture_header
header_size = refl

pub header_is_read : (told : Told) → header_of told capture_header ≡ Ok capture_layout
unfolding capture_header
header_is_read told = refl

pub whole_capture : (network : Network) (most late : ℕ) (keep : Frame → ℕ) (frames : List Frame) → AreCapturable keep 0 frames → length frames ≤ most
    → (header_of Nothing (capture_of keep frames) ≡ Ok capture_layout)
    × Holds (start_at network capture_layout most late) Nothing (drop FILE_HEADER_LEN (capture_of keep frames)) (capture_frames network 0 keep frames) (Clean (length frames))
whole_capture network most late keep frames can few =
    let packets : List ℕ = flat_map (λ f. packet_text f (keep f)) frames in
    let zero : 0 + length frames ≡ length frames = omega arith in
    let behind : packets ≡ drop FILE_HEADER_LEN (capture_header ++ packets) = sym (drop_at capture_header packets FILE_HEADER_LEN header_size) in
    let held = rw zero at (packets_hold network most late 0 0 keep frames can (omega arith)) in (
      header-append Nothing capture_header packets header_size ∙ header_is_read Nothing,
      subst (λ (b : List ℕ). Holds (start_at network capture_layout most late) Nothing b (capture_frames network 0 keep frames) (Clean (length frames))) behind held,
    )
