-- The frames that are read of a written capture.
use Rattle.std.proofs.Common.{◌≡◌, ℕ, suc, ◌+◌, ◌/◌, ◌%◌, ◌<◌, ◌≤◌, max, List, [], ◌∷◌, ◌++◌, length, take, drop, filter, flat_map, Some, inl, inr, refl, sym, ap, ◌∙◌, subst, arith}
use Rattle.std.proofs.lemmas.Bool.{cases_Bool}
use Rattle.std.proofs.lemmas.List.{append-nil, drop_at}
use Rattle.afdx_frame.specs.Frame.{Frame, frame_with}
use Rattle.afdx_frame.specs.declared.key.Network.{Network}
use Rattle.pcap_io.proofs.Captures.{header_is_read, header_size}
use Rattle.pcap_io.proofs.FileHeader.{header-append}
use Rattle.pcap_io.specs.Position.{Holds, start_at}
use Rattle.pcap_io.specs.Recording.{AreGood, Packet, frame_of, frames_of, packet_bytes, stamp_of}
use Rattle.pcap_io.specs.declared.recording.Ending.TheVariants.{Clean}
use Rattle.pcap_io.specs.declared.told.Told.TheVariants.{Nothing}
use Rattle.pcap_io.specs.Recording.{fields_of, is_file_header}
use Rattle.pcapng.specs.Given.{Given, header_given, plain}
use Rattle.pcapng.specs.Handed.{given_of}
use Rattle.pcap_io.specs.Capture.{capture_header, capture_layout}
use Rattle.pcapng.specs.Text.{packet_header_bytes}
use Rattle.pcapng.specs.declared.choice.Choice.TheVariants.{Any, Number}
use Rattle.pcapng.proofs.Captures.{capture_given, network_given}
use Rattle.pcapng.specs.Captures.{AreInTime, AreNoHeaders, HoldsFrames, given_packet, is_of, kept_frames}
use Rattle.pcapng.proofs.Stepping.{kept_len}
use Rattle.pcapng.specs.Blocks.{Written, capture_bytes}
use Rattle.pcapng.specs.Stepping.{AreWritable}
use Rattle.pcapng.specs.declared.interfaces.Interfaces.TheVariants.{Networks, One}

-- a packet of the pcap that is given
abbrev packet_of : Written → Packet
packet_of p = record {
  seconds = p.frame.stamp / 1000000000;
  fraction = p.frame.stamp % 1000000000;
  original_len = p.frame.whole;
  bytes = take p.keep p.frame.bytes;
}

packets_of : List Written → List Packet
packets_of [] = []
packets_of (p ∷ ps) = packet_of p ∷ packets_of ps

stamp_is : (p : Written) → stamp_of capture_layout (packet_of p) ≡ p.frame.stamp
stamp_is p = omega arith

length-packets_of : (ps : List Written) → length (packets_of ps) ≡ length ps
unfolding packets_of
length-packets_of [] = refl
length-packets_of (p ∷ ps) = ap suc (length-packets_of ps)

texts_are : (ps : List Written) → AreWritable ps → flat_map given_packet ps ≡ flat_map (packet_bytes capture_layout) (packets_of ps)
unfolding packets_of
texts_are [] can = refl
texts_are (p ∷ ps) can =
    let kept = take p.keep p.frame.bytes in
    let rest = flat_map given_packet ps in
    ap (λ (n : ℕ). (packet_header_bytes p.frame.stamp n p.frame.whole ++ kept) ++ rest) (sym (kept_len p can.0))
    ∙ ap (λ (l : List ℕ). packet_bytes capture_layout (packet_of p) ++ l) (texts_are ps can.1)

good : (late high : ℕ) (ps : List Written) → AreWritable ps → AreNoHeaders ps → AreInTime late high ps → AreGood capture_layout late high (packets_of ps)
unfolding packets_of
good late high [] can none timely = tt
good late high (p ∷ ps) can none timely =
    let size = kept_len p can.0 in
    let stamp = stamp_is p in (
      record {
        few_bytes = omega (arith, size, can.0.within, can.0.fits.few_bytes);
        seconds_fit = omega (arith, can.0.fits.stamp_fits);
        original_len_fits = can.0.whole_fits;
        within_second = omega arith;
        no_file_header = ap (λ (n : ℕ). is_file_header (record (fields_of (packet_of p)) { captured_len = n })) (kept_len p can.0) ∙ none.0;
        in_time = omega (arith, stamp, timely.0);
      },
      subst (λ (h : ℕ). AreGood capture_layout late (max high h) (packets_of ps)) (sym stamp) (good late (max high p.frame.stamp) ps can.1 none.1 timely.1),
    )

frames_are : (network : Network) (n : ℕ) (ps : List Written) → AreWritable ps → kept_frames network n ps ≡ frames_of network capture_layout n (packets_of ps)
unfolding packets_of
frames_are network n [] can = refl
frames_are network n (p ∷ ps) can =
    let kept = take p.keep p.frame.bytes in
    let whole : p.frame.whole ≡ max p.frame.whole (length kept) = omega (arith, kept_len p can.0, can.0.within, can.0.fits.within_whole) in
    ap (λ (s : ℕ). frame_with network n s p.frame.whole kept ∷ kept_frames network (n + 1) ps) (sym (stamp_is p))
    ∙ (ap (λ (w : ℕ). frame_with network n (stamp_of capture_layout (packet_of p)) w kept ∷ kept_frames network (n + 1) ps) whole
    ∙ ap (λ (fs : List Frame). frame_of network capture_layout n (packet_of p) ∷ fs) (frames_are network (n + 1) ps can.1))

-- the pcap of packets is read
holds : (network : Network) (most late : ℕ) (g : Given) (ps : List Written) → g ≡ plain (capture_header ++ flat_map given_packet ps) → AreWritable ps → AreNoHeaders ps
    → AreInTime late 0 ps → length ps ≤ most → HoldsFrames network most late g ps
holds network most late g ps given can none timely few =
    let texts = flat_map given_packet ps in
    let size = length-packets_of ps in
    let behind : drop 24 (capture_header ++ texts) ≡ flat_map (packet_bytes capture_layout) (packets_of ps) ++ [] =
    (drop_at capture_header texts 24 header_size ∙ (texts_are ps can ∙ sym (append-nil (flat_map (packet_bytes capture_layout) (packets_of ps))))) in
    let count : 0 + length (packets_of ps) ≡ length ps = omega (arith, size) in (
      ap header_given given ∙ header-append Nothing capture_header texts header_size ∙ header_is_read Nothing,
      subst (λ (x : Given). Holds (start_at network capture_layout most late) x.told (drop 24 x.bytes) (kept_frames network 0 ps) (Clean (length ps))) (sym given) (record {
        packets = packets_of ps;
        rest = [];
        parse = record {
          complete = behind;
          good = good late 0 ps can none timely;
          bounded = omega (arith, size, few);
          ends = ap (λ (n : ℕ). Some (Clean n)) count;
        };
        same = frames_are network 0 ps can;
      }),
    )

some_writable : (number : ℕ) (ps : List Written) → AreWritable ps → AreWritable (filter (is_of number) ps)
some_writable number [] can = tt
some_writable number (p ∷ ps) can = elim (cases_Bool (is_of number p)) [
  | inl own ↦ rw own ((can.0, some_writable number ps can.1))
  | inr other ↦ rw other (some_writable number ps can.1)
]

pub capture_read : (network : Network) (most late : ℕ) (packets : List Written) → AreWritable packets → AreNoHeaders packets → AreInTime late 0 packets → length packets ≤ most
    → HoldsFrames network most late (given_of Any (capture_bytes One packets)) packets
capture_read network most late packets can none timely few =
    holds network most late (given_of Any (capture_bytes One packets)) packets (capture_given packets can) can none timely few

pub network_read : (network : Network) (number most late : ℕ) (packets chosen : List Written) → number < 2 → AreWritable packets
    → chosen ≡ filter (is_of number) packets → AreNoHeaders chosen → AreInTime late 0 chosen → length chosen ≤ most
    → HoldsFrames network most late (given_of (Number number) (capture_bytes Networks packets)) chosen
network_read network number most late packets chosen two can own none timely few =
    holds network most late (given_of (Number number) (capture_bytes Networks packets)) chosen
    (network_given number packets two can ∙ ap (λ (ps : List Written). plain (capture_header ++ flat_map given_packet ps)) (sym own))
    (subst AreWritable (sym own) (some_writable number packets can)) none timely few
