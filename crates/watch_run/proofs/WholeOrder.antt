-- The frames that a run has cut come first in the order of both recordings whole.
use Rattle.std.proofs.Common.{◌≡◌, ℕ, ◌+◌, max, true, List, [], ◌∷◌, ◌++◌, drop, Option, Some, None, is_some, Result, Ok, refl, sym, subst, ap, ◌∙◌}
use Rattle.std.proofs.lemmas.List.{append-nil}
use Rattle.std.specs.Prelude.{IfSome, unwrap_or}
use Rattle.afdx_frame.specs.Frame.{Frame}
use Rattle.afdx_frame.specs.declared.key.Network.{Network}
use Rattle.afdx_frame.specs.declared.key.Network.TheVariants.{A, B}
use Rattle.ordered_merge.specs.Merge.{AreOfTap, Follows, MergerState, Tap, new_tap, tap_after}
use Rattle.ordered_merge.specs.Order.{IsOrder}
use Rattle.ordered_merge.specs.Recording.{IsRecording as IsTapRecording}
use Rattle.ordered_merge.proofs.Following.{one_order}
use Rattle.ordered_merge.proofs.WholeRuns.{cut_comes_first}
use Rattle.pcap_io.specs.Layout.{header_of}
use Rattle.pcap_io.specs.Position.{Holds, Opens, Reading, Reads, after_frame, start_at}
use Rattle.pcap_io.specs.Recording.{AreGood, Packet, frames_of, stamp_of}
use Rattle.pcap_io.specs.declared.layout.HeaderFault.{HeaderFault}
use Rattle.pcap_io.specs.declared.layout.Layout.{Layout}
use Rattle.pcap_io.specs.declared.layout.TheConstants.{FILE_HEADER_LEN}
use Rattle.pcap_io.specs.declared.position.Position.{Position}
use Rattle.pcap_io.specs.declared.recording.Ending.{Ending}
use Rattle.pcap_io.proofs.Parse.{one_holds, reads_prefix}
use Rattle.pcap_io.specs.declared.told.Told.{Told}
use Rattle.run_fault.specs.Recording.{IsRecording}
use Rattle.tap_merge.specs.Taps.{Agree, Agrees, HasMerged, HasRead}
use Rattle.run_fault.specs.Device.{SourceMembers, SourceView}
use Rattle.run_fault.specs.Recording.{most_frames}
use Rattle.tap_merge.specs.declared.taps.Taps.{Taps}
use Rattle.tap_merge.proofs.TwoTaps.{read_whole, high_after, in_time, is_ended}

-- ---- a recording's frames are those of a tap

of_tap : (network : Network) (layout : Layout) (late n high : ℕ) (tap : Tap) (records : List Packet) → tap.next ≡ n → high ≡ unwrap_or tap.high 0 →
    AreGood layout late high records → (last : Tap) × AreOfTap network late tap (frames_of network layout n records) last
of_tap network layout late n high tap [] next known good = (tap, (refl, refl))
of_tap network layout late n high tap (r ∷ rs) next known good =
    let others = of_tap network layout late (n + 1) (max high (stamp_of layout r)) (tap_after (stamp_of layout r) tap) rs (ap (λ k. k + 1) next)
    (high_after high (stamp_of layout r) tap.high known) good.1 in
    (others.0, (refl, sym next, in_time late tap high (stamp_of layout r) known (good.0).in_time, others.1))

pub recorded : (network : Network) (late : ℕ) (told : Told) (bytes : List ℕ) (frames : List Frame) (ending : Ending) → IsRecording network late told bytes frames ending →
    IsTapRecording network late frames
recorded network late told bytes frames ending r =
    subst (IsTapRecording network late) (sym r.holds.same) (of_tap network r.layout late 0 0 new_tap r.holds.packets refl refl r.holds.parse.good)

-- ---- the frames that were read are the first of the recording

ok_is : (l m : Layout) (r : Result Layout HeaderFault) → r ≡ Ok l → r ≡ Ok m → l ≡ m
ok_is l m r e f = cc (sym e ∙ f)

-- a recording whose bytes are known goes on after the frames that were read, unless it has ended
pub record GoesOn (frames whole : List Frame) (end : Option Ending) (ending : Ending) : Type 0 where
  pub others : List Frame
  pub all : whole ≡ frames ++ others
  pub ended : is_some end ≡ true → (others ≡ []) × (end ≡ Some ending)

pub goes_on : (network : Network) (late : ℕ) (before : SourceView) (frames whole : List Frame) (end : Option Ending) (reading : Reading) (bytes : List ℕ) (ending : Ending) →
    before.remaining ≡ Some bytes → HasRead network late before frames end reading → IsRecording network late before.told bytes whole ending → GoesOn frames whole end ending
goes_on network late before frames whole None reading bytes ending known read r =
    let opens : Opens before.told (Some bytes) read.read.opened read.read.layout = subst (λ (b : Option (List ℕ)). Opens before.told b read.read.opened read.read.layout) known read.read.opens in
    let layout : read.read.layout ≡ r.layout = ok_is read.read.layout r.layout (header_of before.told bytes) opens.0 r.header in
    let reads : Reads (start_at network r.layout most_frames late) (Some (drop FILE_HEADER_LEN bytes)) frames read.position read.left =
    subst (λ (l : Layout). Reads (start_at network l most_frames late) (Some (drop FILE_HEADER_LEN bytes)) frames read.position read.left) layout
    (subst (λ (b : Option (List ℕ)). Reads (start_at network read.read.layout most_frames late) b frames read.position read.left) opens.1 read.read.reads) in
    let front = reads_prefix (start_at network r.layout most_frames late) read.position before.told (drop FILE_HEADER_LEN bytes) read.left frames whole ending reads r.holds in
    record { others = front.0; all = front.1; ended = λ is. (let wrong : ⊥ = cc is in absurd wrong) }
goes_on network late before frames whole (Some e) reading bytes ending known read r =
    let s : IsRecording network late before.told bytes frames e = subst (λ (b : Option (List ℕ)). IfSome b (λ x. IsRecording network late before.told x frames e)) known
    (read_whole network late before frames e reading read) in
    let layout : s.layout ≡ r.layout = ok_is s.layout r.layout (header_of before.told bytes) s.header r.header in
    let holds : Holds (start_at network r.layout most_frames late) before.told (drop FILE_HEADER_LEN bytes) frames e =
    subst (λ (l : Layout). Holds (start_at network l most_frames late) before.told (drop FILE_HEADER_LEN bytes) frames e) layout s.holds in
    let same = one_holds (start_at network r.layout most_frames late) before.told (drop FILE_HEADER_LEN bytes) frames whole e ending holds r.holds in
    record { others = []; all = sym same.0 ∙ sym (append-nil frames); ended = λ is. (refl, ap (λ (x : Ending). Some x) same.1) }

-- ---- all that was cut

reads_late : (p q : Position) (before after : Option (List ℕ)) (frames : List Frame) → Reads p before frames q after → q.late ≡ p.late
reads_late p q before after [] (same, left) = ap (λ (x : Position). x.late) (sym same)
reads_late p q before after (f ∷ fs) (mid, t, more) = reads_late (after_frame p f.stamp) q mid after fs more

late_of : (network : Network) (late : ℕ) (before : SourceView) (frames : List Frame) (reading : Reading) (m : MergerState) → HasRead network late before frames None reading →
    Agrees network None reading.position m → m.late ≡ late
late_of network late before frames reading m read agrees =
    sym agrees.1.late ∙ ap (λ (x : Position). x.late) read.stands.0
    ∙ reads_late (start_at network read.read.layout most_frames late) read.position read.read.opened read.left frames read.read.reads

order_of : (late : ℕ) (a b : SourceView) (fa fb cut ra rb : List Frame) (end_a end_b : Option Ending) (reading_a reading_b : Reading) (m : MergerState) →
    HasRead A late a fa end_a reading_a → HasRead B late b fb end_b reading_b → Follows m fa fb cut → Agrees A end_a reading_a.position m → Agrees B end_b reading_b.position m →
    (is_some end_a ≡ true → ra ≡ []) → (is_some end_b ≡ true → rb ≡ []) → IsTapRecording A late (fa ++ ra) → IsTapRecording B late (fb ++ rb) →
    (rest : List Frame) × IsOrder (fa ++ ra) (fb ++ rb) (cut ++ rest)
order_of late a b fa fb cut ra rb (Some x) (Some y) reading_a reading_b m read_a read_b fol agrees_a agrees_b none_a none_b rec_a rec_b = (
  m.pending,
  subst (λ (l : List Frame). IsOrder (fa ++ l) (fb ++ rb) (cut ++ m.pending)) (sym (none_a refl))
      (subst (λ (l : List Frame). IsOrder (fa ++ []) (fb ++ l) (cut ++ m.pending)) (sym (none_b refl))
      (subst (λ (l : List Frame). IsOrder l (fb ++ []) (cut ++ m.pending)) (sym (append-nil fa))
      (subst (λ (l : List Frame). IsOrder fa l (cut ++ m.pending)) (sym (append-nil fb)) fol.order))),
)
order_of late a b fa fb cut ra rb None end_b reading_a reading_b m read_a read_b fol agrees_a agrees_b none_a none_b rec_a rec_b =
    cut_comes_first m late fa fb cut ra rb fol (late_of A late a fa reading_a m read_a agrees_a)
    (λ t. none_a (is_ended A None reading_a.position m agrees_a t)) (λ t. none_b (is_ended B end_b reading_b.position m agrees_b t)) rec_a rec_b
order_of late a b fa fb cut ra rb (Some x) None reading_a reading_b m read_a read_b fol agrees_a agrees_b none_a none_b rec_a rec_b =
    cut_comes_first m late fa fb cut ra rb fol (late_of B late b fb reading_b m read_b agrees_b)
    (λ t. none_a (is_ended A (Some x) reading_a.position m agrees_a t)) (λ t. none_b (is_ended B None reading_b.position m agrees_b t)) rec_a rec_b

-- of any recordings whose bytes are known, what was cut is the first of their one order
abbrev pub IsFirst : ℕ → SourceView → SourceView → List Frame → Type 0
IsFirst late a b cut =
    (bytes_a bytes_b : List ℕ) (whole_a whole_b whole : List Frame) (x y : Ending) → a.remaining ≡ Some bytes_a → b.remaining ≡ Some bytes_b →
    IsRecording A late a.told bytes_a whole_a x → IsRecording B late b.told bytes_b whole_b y → IsOrder whole_a whole_b whole → (rest : List Frame) × (whole ≡ cut ++ rest)

pub cut_is_first : {S T : Type 0} (s : SourceMembers S) (t : SourceMembers T) (late : ℕ) (a b : SourceView) (fa fb cut : List Frame) (taps : Taps S T) →
    HasMerged s t late a b fa fb cut taps → Agree taps → IsFirst late a b cut
cut_is_first s t late a b fa fb cut taps h agree =
    λ bytes_a bytes_b whole_a whole_b whole x y known_a known_b r_a r_b order.
    (let on_a = goes_on A late a fa whole_a taps.end_a _ bytes_a x known_a h.read_a r_a in
    let on_b = goes_on B late b fb whole_b taps.end_b _ bytes_b y known_b h.read_b r_b in
    let found = order_of late a b fa fb cut on_a.others on_b.others taps.end_a taps.end_b _ _ taps.merger h.read_a h.read_b h.follows agree.0 agree.1
    (λ t. (on_a.ended t).0) (λ t. (on_b.ended t).0)
    (subst (IsTapRecording A late) on_a.all (recorded A late a.told bytes_a whole_a x r_a)) (subst (IsTapRecording B late) on_b.all (recorded B late b.told bytes_b whole_b y r_b)) in (
      found.0,
      one_order whole_a whole_b whole (cut ++ found.0) order
          (subst (λ (l : List Frame). IsOrder l whole_b (cut ++ found.0)) (sym on_a.all) (subst (λ (l : List Frame). IsOrder (fa ++ on_a.others) l (cut ++ found.0)) (sym on_b.all) found.1)),
    ))
