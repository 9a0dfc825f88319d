-- The accepted frames of a recording can be captured, and their capture is what a run writes.
use Rattle.std.proofs.Common.{◌≡◌, ℕ, ◌+◌, ◌*◌, ◌^◌, ◌<◌, ◌≤◌, max, Bool, true, false, ◌&&◌, nat_eq, ◌/◌, ◌%◌, ◌⊎◌, List, [], ◌∷◌, ◌++◌, length, arith, ap, refl, sym, subst, inl, inr, ◌==◌}
use Rattle.std.specs.List.{flat_map}
use Rattle.std.proofs.Math.Bool.{and-false}
use Rattle.std.proofs.lemmas.Bool.{and_cases, and_left, and_right, eqb-false, ne_eqb}
use Rattle.afdx_frame.specs.Frame.{Frame, IsFrame}
use Rattle.afdx_frame.specs.declared.key.Network.{Network}
use Rattle.bpf_isa.specs.declared.packed.Packed.{Packed}
use Rattle.pcap_io.specs.Capture.{AreCapturable, capture_header, capture_of, packet_text}
use Rattle.pcap_io.specs.Layout.{fractions_of, nanoseconds_of}
use Rattle.pcap_io.specs.Recording.{AreGood, IsGood, Packet, frame_of, frames_of, is_file_start, stamp_of}
use Rattle.pcap_io.specs.declared.layout.Layout.{Layout}
use Rattle.pcap_io.specs.declared.layout.Precision.{Precision}
use Rattle.pcap_io.specs.declared.layout.Precision.TheVariants.{Nanoseconds, Microseconds}
use Rattle.pcap_io.proofs.Captures.{whole_capture}
use Rattle.filter_workers.specs.Filters.{answer_for}
use Rattle.packet_format.specs.Packets.{Pcap}
use Rattle.capture_run.specs.OneCapture.{accepted, capture_text, kept_len, packets_of}
use Rattle.capture_run.specs.CaptureLaws.{CaptureGivesAccepted}

which : (b : Bool) → (b ≡ true) ⊎ (b ≡ false)
which true = inl refl
which false = inr refl

-- ---- the bytes

abbrev kept_packets : List Packed → List Frame → List ℕ
kept_packets p frames = flat_map (λ f. packet_text f (kept_len p f)) frames

packets_of-accepted : (p : List Packed) (frames : List Frame) → packets_of Pcap p frames ≡ kept_packets p (accepted p frames)
packets_of-accepted p [] = refl
packets_of-accepted p (f ∷ fs) = elim (which (answer_for p f == 0)) [
  | inl none ↦ rw none (packets_of-accepted p fs)
  | inr some ↦ rw some (ap (λ (x : List ℕ). packet_text f (kept_len p f) ++ x) (packets_of-accepted p fs))
]

capture_text-accepted : (p : List Packed) (frames : List Frame) → capture_text p frames ≡ capture_of (kept_len p) (accepted p frames)
capture_text-accepted p frames = ap (λ (x : List ℕ). capture_header ++ x) (packets_of-accepted p frames)

-- ---- the frames

within_seconds : (q : Precision) (seconds fraction : ℕ) → seconds < 2 ^ 32 → fraction < fractions_of q → seconds * 1000000000 + fraction * nanoseconds_of q < 1000000000 * 2 ^ 32
within_seconds Nanoseconds seconds fraction s f = omega (arith, s, f)
within_seconds Microseconds seconds fraction s f = omega (arith, s, f)

is_frame : (network : Network) (l : Layout) (late high n : ℕ) (r : Packet) → n < 2 ^ 32 → IsGood l late high r → IsFrame (frame_of network l n r)
is_frame network l late high n r fits good = record {
  number_fits = fits;
  stamp_fits = within_seconds l.precision r.seconds r.fraction good.seconds_fit good.within_second;
  few_bytes = good.few_bytes;
  within_whole = omega arith;
}

-- the time of a packet that doesn't begin a pcap file, in nanoseconds, doesn't either: a fraction in microseconds makes a multiple of 1000
start_time : (q : Precision) (seconds fraction : ℕ) → fraction < fractions_of q → is_file_start seconds fraction ≡ false
    → is_file_start ((seconds * 1000000000 + fraction * nanoseconds_of q) / 1000000000) ((seconds * 1000000000 + fraction * nanoseconds_of q) % 1000000000) ≡ false
start_time Nanoseconds seconds fraction within none =
    let whole : (seconds * 1000000000 + fraction * 1) / 1000000000 ≡ seconds = omega (arith, within) in
    let part : (seconds * 1000000000 + fraction * 1) % 1000000000 ≡ fraction = omega (arith, within) in
    rw (whole, part) none
start_time Microseconds seconds fraction within none =
    let part : (seconds * 1000000000 + fraction * 1000) % 1000000000 ≡ fraction * 1000 = omega (arith, within) in
    let a : nat_eq (fraction * 1000) 0x00020004 ≡ false = ne_eqb (fraction * 1000) 0x00020004 (λ e. omega (arith, e)) in
    let b : nat_eq (fraction * 1000) 0x00040002 ≡ false = ne_eqb (fraction * 1000) 0x00040002 (λ e. omega (arith, e)) in
    let c : nat_eq (fraction * 1000) 0x02000400 ≡ false = ne_eqb (fraction * 1000) 0x02000400 (λ e. omega (arith, e)) in
    let d : nat_eq (fraction * 1000) 0x04000200 ≡ false = ne_eqb (fraction * 1000) 0x04000200 (λ e. omega (arith, e)) in
    rw (part, a, b, c, d, and-false, and-false) refl

-- so the packet of a frame in a capture is no file header where that of its recording isn't
no_file_header : (q : Precision) (seconds fraction captured original keep : ℕ) → fraction < fractions_of q
    → (captured == 0 && (original == 0 && is_file_start seconds fraction)) ≡ false
    → (keep == 0 && (max original captured == 0 && is_file_start ((seconds * 1000000000 + fraction * nanoseconds_of q) / 1000000000) ((seconds * 1000000000 + fraction * nanoseconds_of q) % 1000000000))) ≡ false
no_file_header q seconds fraction captured original keep within none = elim (and_cases (captured == 0) _ none) [
  | inl some ↦
      let whole : nat_eq (max original captured) 0 ≡ false = ne_eqb (max original captured) 0 (λ e. absurd (omega (arith, e, eqb-false captured 0 some))) in
      and_right (keep == 0) _ (and_left (max original captured == 0) _ whole)
  | inr rest ↦ elim (and_cases (original == 0) _ rest) [
    | inl some ↦
        let whole : nat_eq (max original captured) 0 ≡ false = ne_eqb (max original captured) 0 (λ e. absurd (omega (arith, e, eqb-false original 0 some))) in
        and_right (keep == 0) _ (and_left (max original captured == 0) _ whole)
    | inr start ↦ and_right (keep == 0) _ (and_right (max original captured == 0) _ (start_time q seconds fraction within start))
  ]
]

capturable : (p : List Packed) (network : Network) (l : Layout) (n low high : ℕ) (rs : List Packet) → AreGood l 0 high rs → n + length rs ≤ 2 ^ 32 → low ≤ high
    → AreCapturable (kept_len p) low (accepted p (frames_of network l n rs))
capturable p network l n low high [] good few below = tt
capturable p network l n low high (r ∷ rs) good few below =
    let f = frame_of network l n r in
    elim (which (answer_for p f == 0)) [
      | inl rejected ↦ rw rejected (capturable p network l (n + 1) low (max high (stamp_of l r)) rs good.1 (omega (arith, few)) (omega (arith, below)))
      | inr some ↦
          rw some (
            record { fits = is_frame network l 0 high n r (omega (arith, few)) good.0; whole_fits = omega (arith, good.0.original_len_fits, good.0.few_bytes); within = omega arith; in_time = omega (arith, good.0.in_time, below); no_file_header = no_file_header l.precision r.seconds r.fraction (length r.bytes) r.original_len (kept_len p f) good.0.within_second good.0.no_file_header },
            capturable p network l (n + 1) (max low (stamp_of l r)) (max high (stamp_of l r)) rs good.1 (omega (arith, few)) (omega (arith, below)),
          )
    ]

pub capture_gives_accepted : CaptureGivesAccepted
capture_gives_accepted p tap network told bytes frames ending most late r few =
    let fits : AreCapturable (kept_len p) 0 (accepted p frames) =
    subst (λ (fs : List Frame). AreCapturable (kept_len p) 0 (accepted p fs)) (sym r.holds.same)
    (capturable p tap r.layout 0 0 0 r.holds.packets r.holds.parse.good (omega (arith, r.holds.parse.bounded)) (omega arith)) in
    rw capture_text-accepted (whole_capture network most late (kept_len p) (accepted p frames) fits few)
