-- Items that are taken of rings, and merged.
use Rattle.std.proofs.Common.{◌≡◌, inl, inr, ◌++◌, ◌∷◌, [], ℕ, ◌+◌, ◌≤◌, List, Option, Some, None, is_some, true, false, length, take, suc, refl, sym, subst, ap, ◌∙◌, append-nil, append_assoc, length-append, arith}
use Rattle.std.specs.List.{AllByRecursion}
use Rattle.std.specs.Option.{ForSome}
use Rattle.std.proofs.lemmas.Bool.{false≢true}
use Rattle.std.proofs.lemmas.List.{length-take}
use Rattle.afdx_frame.specs.Frame.{Frame}
use Rattle.afdx_frame.specs.declared.key.Network.{Network}
use Rattle.afdx_frame.specs.declared.key.Network.TheVariants.{A, B}
use Rattle.ordered_merge.specs.Merge.{AreOfTap, CanFetch, CanFetchAll, Follows, IsInTime, MergerState, Tap, highest, new_tap, tap_after, tap_of}
use Rattle.tap_queue.specs.Items.{AreNextFrames, IsNextFrame, frame_items, frames_in, is_last, is_over}
use Rattle.tap_queue.specs.Ring.{has_lost, late_of, network_of, taken_items}
use Rattle.tap_queue.specs.declared.end.TapEnd.{TapEnd}
use Rattle.tap_queue.specs.declared.item.TapItem.{TapItem}
use Rattle.tap_queue.specs.declared.item.TapItem.TheVariants as items
use Rattle.run_fault.specs.Recording.{most_frames}
use Rattle.tap_merge.specs.declared.rings.Rings.{Rings}
use Rattle.pcap_io.specs.declared.recording.Ending.{Ending}
use Rattle.ordered_merge.proofs.Following.{follows_cut, follows_end, follows_fetch_a, follows_fetch_b}
use Rattle.tap_queue.specs.Ring.{SameEnd}
use Rattle.ordered_merge.specs.Merge.{after_cut, change_tap, cut_frames, fetched, fetched_all}
use Rattle.tap_queue.specs.Ring.{Looks}
use Rattle.run_fault.specs.declared.fault.WatchFault.{WatchFault}
use Rattle.run_fault.specs.declared.fault.WatchFault.TheVariants as watch
use Rattle.std.specs.Prelude.{IfSome}
use Rattle.pcap_io.specs.declared.item.ReadFault.{ReadFault}
use Rattle.pcap_io.specs.declared.item.ReadFault.TheVariants.{Device}
use Rattle.tap_merge.specs.Rings.{RingsFault, TakesFailure, TapFault, WhereFailed, MergesFrames, MergesItem, AgreesWith, AreFirst, EndsWith, HasEnding, HasTaken, StopsTaking, TakesOn}

-- ---- all that the merger knows of a network

of_tap_count : (network : Network) (late : ℕ) (tap : Tap) (l : List Frame) (last : Tap) → AreOfTap network late tap l last → last.next ≡ tap.next + length l
of_tap_count network late tap [] last h = sym h.0 ∙ plus_none tap.next
  where
    plus_none : (n : ℕ) → n ≡ n + 0
    plus_none n = omega arith
of_tap_count network late tap (f ∷ l) last h = one_more tap.next (length l) last.next (of_tap_count network late (tap_after f.stamp tap) l last h.3)
  where
    one_more : (n m k : ℕ) → k ≡ n + 1 + m → k ≡ n + suc m
    one_more n m k e = omega (arith, e)

highest_bounded : (high : Option ℕ) (stamp bound : ℕ) → ForSome high (λ h. h ≤ bound) → stamp ≤ bound → highest high stamp ≤ bound
highest_bounded None stamp bound known less = less
highest_bounded (Some h) stamp bound known less = (let own : h ≤ bound = known h refl in omega (arith, own, less))

some_is : (x y bound : ℕ) → x ≤ bound → Some x ≡ Some y → y ≤ bound
some_is x y bound less is = (let same : x ≡ y = cc is in subst (λ n. n ≤ bound) same less)

of_tap_bounded : (network : Network) (late : ℕ) (tap : Tap) (l : List Frame) (last : Tap) (bound : ℕ) → AreOfTap network late tap l last →
    ForSome tap.high (λ h. h ≤ bound) → AllByRecursion (λ (g : Frame). g.stamp ≤ bound) l → ForSome last.high (λ h. h ≤ bound)
of_tap_bounded network late tap [] last bound h known all = subst (λ high. ForSome high (λ n. n ≤ bound)) h.1 known
of_tap_bounded network late tap (f ∷ l) last bound h known all =
    of_tap_bounded network late (tap_after f.stamp tap) l last bound h.3
    (λ x is. some_is (highest tap.high f.stamp) x bound (highest_bounded tap.high f.stamp bound known all.0) is) all.1

none_plus : (n : ℕ) → 0 + n ≡ n
none_plus n = omega arith

no_high : (bound : ℕ) → ForSome None (λ (h : ℕ). h ≤ bound)
no_high bound = λ h is. (let wrong : ⊥ = cc is in absurd wrong)

pub agrees_a : (late : ℕ) (cut : List Frame) (rings : Rings) → HasTaken late cut rings → rings.merger.a.ended ≡ false → AgreesWith A rings.a rings.merger
agrees_a late cut rings h going = record {
  network_is = h.network_a;
  late_is = h.late_a ∙ sym h.late_is;
  going = going;
  number = of_tap_count A rings.merger.late new_tap (frames_in (taken_items rings.a)) rings.merger.a h.follows.a ∙ none_plus (length (frames_in (taken_items rings.a)));
  high = λ bound all. of_tap_bounded A rings.merger.late new_tap (frames_in (taken_items rings.a)) rings.merger.a bound h.follows.a (no_high bound) all;
}

pub agrees_b : (late : ℕ) (cut : List Frame) (rings : Rings) → HasTaken late cut rings → rings.merger.b.ended ≡ false → AgreesWith B rings.b rings.merger
agrees_b late cut rings h going = record {
  network_is = h.network_b;
  late_is = h.late_b ∙ sym h.late_is;
  going = going;
  number = of_tap_count B rings.merger.late new_tap (frames_in (taken_items rings.b)) rings.merger.b h.follows.b ∙ none_plus (length (frames_in (taken_items rings.b)));
  high = λ bound all. of_tap_bounded B rings.merger.late new_tap (frames_in (taken_items rings.b)) rings.merger.b bound h.follows.b (no_high bound) all;
}

-- ---- a frame that may be taken may be merged

pub can_merge : (network : Network) (end : TapEnd) (m : MergerState) (f : Frame) → AgreesWith network end m → IsNextFrame (network_of end) (late_of end) (frames_in (taken_items end)) f →
    (f.network ≡ network) × CanFetch m f
can_merge network end m f agrees next =
    let same : f.network ≡ network = next.network_is ∙ agrees.network_is in (
      same,
      subst (λ n. (n ≡ network) → CanFetch m f) refl (λ _. record {
        going = ap (λ n. (tap_of m n).ended) same ∙ agrees.going;
        number = next.number ∙ sym agrees.number ∙ ap (λ n. (tap_of m n).next) (sym same);
        in_time = subst (λ n. IsInTime m.late (tap_of m n) f) (sym same)
            (agrees.high (f.stamp + m.late) (subst (λ l. AllByRecursion (λ (g : Frame). g.stamp ≤ f.stamp + l) (frames_in (taken_items end))) agrees.late_is next.in_time));
      }) same,
    )

-- ---- frames that may be taken one after another may be merged so

-- the merger knows of a network what follows these frames
record AgreesTo (network : Network) (late : ℕ) (fs : List Frame) (m : MergerState) : Type 0 where
  late_is : late ≡ m.late
  going : (tap_of m network).ended ≡ false
  number : (tap_of m network).next ≡ length fs
  high : (bound : ℕ) → AllByRecursion (λ (g : Frame). g.stamp ≤ bound) fs → ForSome (tap_of m network).high (λ high. high ≤ bound)

tap_next : (m : MergerState) (f : Frame) (network : Network) → f.network ≡ network → tap_of (fetched m f) network ≡ tap_after f.stamp (tap_of m network)
tap_next m f A e = ap (λ n. (change_tap (tap_after f.stamp) n m).a) e
tap_next m f B e = ap (λ n. (change_tap (tap_after f.stamp) n m).b) e

late_next : (m : MergerState) (f : Frame) (network : Network) → f.network ≡ network → (fetched m f).late ≡ m.late
late_next m f A e = ap (λ n. (change_tap (tap_after f.stamp) n m).late) e
late_next m f B e = ap (λ n. (change_tap (tap_after f.stamp) n m).late) e

split_last : (bound : ℕ) (fs : List Frame) (f : Frame) → AllByRecursion (λ (g : Frame). g.stamp ≤ bound) (fs ++ f ∷ [])
    → AllByRecursion (λ (g : Frame). g.stamp ≤ bound) fs × (f.stamp ≤ bound)
split_last bound [] f all = (tt, all.0)
split_last bound (g ∷ fs) f all = let rest = split_last bound fs f all.1 in ((all.0, rest.0), rest.1)

high_next : (tap : Tap) (stamp bound : ℕ) → ForSome tap.high (λ high. high ≤ bound) → stamp ≤ bound → ForSome (tap_after stamp tap).high (λ high. high ≤ bound)
high_next tap stamp bound known less = λ x is. some_is (highest tap.high stamp) x bound (highest_bounded tap.high stamp bound known less) is

agrees_next : (network : Network) (late : ℕ) (fs : List Frame) (m : MergerState) (f : Frame) → AgreesTo network late fs m → f.network ≡ network
    → AgreesTo network late (fs ++ f ∷ []) (fetched m f)
agrees_next network late fs m f agrees is =
    let tap = tap_next m f network is in
    record {
      late_is = agrees.late_is ∙ sym (late_next m f network is);
      going = ap (λ (t : Tap). t.ended) tap ∙ agrees.going;
      number = ap (λ (t : Tap). t.next) tap ∙ ap (λ n. n + 1) agrees.number ∙ (let more = length-append fs (f ∷ []) in omega arith);
      high = λ bound all.
          (let parts = split_last bound fs f all in
          subst (λ (t : Tap). ForSome t.high (λ high. high ≤ bound)) (sym tap) (high_next (tap_of m network) f.stamp bound (agrees.high bound parts.0) parts.1));
    }

can_next : (network : Network) (late : ℕ) (fs : List Frame) (m : MergerState) (f : Frame) → AgreesTo network late fs m → IsNextFrame network late fs f → CanFetch m f
can_next network late fs m f agrees next =
    let tap = ap (tap_of m) next.network_is in
    record {
      going = ap (λ (t : Tap). t.ended) tap ∙ agrees.going;
      number = next.number ∙ sym agrees.number ∙ ap (λ (t : Tap). t.next) (sym tap);
      in_time = subst (λ (t : Tap). IsInTime m.late t f) (sym tap)
          (agrees.high (f.stamp + m.late) (subst (λ (l : ℕ). AllByRecursion (λ (g : Frame). g.stamp ≤ f.stamp + l) fs) agrees.late_is next.in_time));
    }

can_all : (network : Network) (late : ℕ) (fs gs : List Frame) (m : MergerState) → AgreesTo network late fs m → AreNextFrames network late fs gs → CanFetchAll network m gs
can_all network late fs [] m agrees next = tt
can_all network late fs (g ∷ gs) m agrees next =
    let is = next.0.network_is in
    (is, can_next network late fs m g agrees next.0, can_all network late (fs ++ g ∷ []) gs (fetched m g) (agrees_next network late fs m g agrees is) next.1)

agrees_to : (network : Network) (end : TapEnd) (m : MergerState) → AgreesWith network end m → AgreesTo network (late_of end) (frames_in (taken_items end)) m
agrees_to network end m agrees = record { late_is = agrees.late_is; going = agrees.going; number = agrees.number; high = agrees.high }

pub can_merge_all : (network : Network) (end : TapEnd) (m : MergerState) (gs : List Frame) → AgreesWith network end m
    → AreNextFrames (network_of end) (late_of end) (frames_in (taken_items end)) gs → CanFetchAll network m gs
can_merge_all network end m gs agrees next =
    can_all network (late_of end) (frames_in (taken_items end)) gs m (agrees_to network end m agrees)
    (subst (λ (n : Network). AreNextFrames n (late_of end) (frames_in (taken_items end)) gs) agrees.network_is next)

-- ---- all that is known of a ring, item by item

pub frames_append : (xs ys : List TapItem) → frames_in (xs ++ ys) ≡ frames_in xs ++ frames_in ys
frames_append [] ys = refl
frames_append (items.Frame f ∷ xs) ys = ap (λ (l : List Frame). f ∷ l) (frames_append xs ys)
frames_append (items.End e ∷ xs) ys = frames_append xs ys
frames_append (items.Failed fault ∷ xs) ys = frames_append xs ys

pub over_with : (xs : List TapItem) (item : TapItem) → is_last item ≡ true → is_over (xs ++ item ∷ []) ≡ true
over_with [] (items.Frame f) last = absurd (false≢true last)
over_with [] (items.End e) last = refl
over_with [] (items.Failed fault) last = refl
over_with (items.Frame f ∷ xs) item last = over_with xs item last
over_with (items.End e ∷ xs) item last = refl
over_with (items.Failed fault ∷ xs) item last = refl

pub takes_none : (end : TapEnd) → TakesOn end end
takes_none end = record {
  same = (((refl, refl, refl, refl), refl), refl, refl);
  going = λ h. h;
  more = λ h. ([], sym (append-nil (taken_items end)), λ over. refl);
}

pub over_after : (xs ys : List TapItem) → is_over xs ≡ false → is_over (xs ++ ys) ≡ is_over ys
over_after [] ys going = refl
over_after (items.Frame f ∷ xs) ys going = over_after xs ys going
over_after (items.End e ∷ xs) ys going = absurd (false≢true (sym going))
over_after (items.Failed fault ∷ xs) ys going = absurd (false≢true (sym going))

pub frames_go_on : (fs : List Frame) → is_over (frame_items fs) ≡ false
frames_go_on [] = refl
frames_go_on (f ∷ fs) = frames_go_on fs

pub going_after : (xs : List TapItem) (fs : List Frame) (ys : List TapItem) → is_over xs ≡ false → ys ≡ xs ++ frame_items fs → is_over ys ≡ false
going_after xs fs ys going is = ap is_over is ∙ over_after xs (frame_items fs) going ∙ frames_go_on fs

-- items that go on don't end with a fault
pub goes_on : (xs : List TapItem) (fault : ReadFault) → is_over xs ≡ false → EndsWith (items.Failed fault) xs → ⊥
goes_on xs fault going (before, is) = false≢true (sym going ∙ ap is_over is ∙ over_with before (items.Failed fault) refl)

pub same_trans : (x y z : TapEnd) → SameEnd x y → SameEnd y z → SameEnd x z
same_trans x y z (((w, s, n, h), c), t, l) (((w', s', n', h'), c'), t', l') = (((w' ∙ w, s' ∙ s, n' ∙ n, h' ∙ h), c' ∙ c), t' ∙ t, l' ∙ l)

-- after what was taken since, more was taken
pub takes_trans : (x y z : TapEnd) → TakesOn x y → TakesOn y z → TakesOn x z
takes_trans x y z p q = record {
  same = same_trans x y z p.same q.same;
  going = λ sound. p.going (q.going sound);
  more = λ sound.
      (let a = p.more (q.going sound) in
      let b = q.more sound in (
        a.0 ++ b.0,
        b.1 ∙ ap (λ (l : List TapItem). l ++ b.0) a.1 ∙ append_assoc (taken_items x) a.0 b.0,
        λ over.
            (let none = a.2 over in
            let same : taken_items y ≡ taken_items x = a.1 ∙ ap (λ (l : List TapItem). taken_items x ++ l) none ∙ append-nil (taken_items x) in
            let then = b.2 (ap is_over same ∙ over) in
            ap (λ (l : List TapItem). l ++ b.0) none ∙ then),
      ));
}

pub takes_frames : (x y : TapEnd) (fs : List Frame) → SameEnd x y → has_lost x ≡ false → is_over (taken_items x) ≡ false → taken_items y ≡ taken_items x ++ frame_items fs → TakesOn x y
takes_frames x y fs same sound going taken = record {
  same = same;
  going = λ _. sound;
  more = λ _. (frame_items fs, taken, λ over. absurd (false≢true (sym going ∙ over)));
}

pub agrees_after : (network : Network) (old new : TapEnd) (m m' : MergerState) (f : Frame) → AgreesWith network old m → f.network ≡ network → SameEnd old new
    → taken_items new ≡ taken_items old ++ items.Frame f ∷ [] → m' ≡ fetched m f → AgreesWith network new m'
agrees_after network old new m m' f agrees net same taken is =
    let next = agrees_next network (late_of old) (frames_in (taken_items old)) m f (agrees_to network old m agrees) net in
    let frames : frames_in (taken_items old) ++ f ∷ [] ≡ frames_in (taken_items new) = sym (frames_append (taken_items old) (items.Frame f ∷ [])) ∙ ap frames_in (sym taken) in
    subst (AgreesWith network new) (sym is) (record {
      network_is = same.1 ∙ agrees.network_is;
      late_is = same.2 ∙ next.late_is;
      going = next.going;
      number = next.number ∙ ap length frames;
      high = λ bound all. next.high bound (subst (AllByRecursion (λ (g : Frame). g.stamp ≤ bound)) (sym frames) all);
    })

-- a frame and those after it were merged
pub merges_both : (network : Network) (old mid new : TapEnd) (m m' m'' : MergerState) (f : Frame) → f.network ≡ network → CanFetch m f
    → taken_items mid ≡ taken_items old ++ items.Frame f ∷ [] → m' ≡ fetched m f → MergesFrames network mid new m' m'' → MergesFrames network old new m m''
merges_both network old mid new m m' m'' f net can first is (fs, taken, all, then) = (
  f ∷ fs,
  taken ∙ ap (λ (l : List TapItem). l ++ frame_items fs) first ∙ append_assoc (taken_items old) (items.Frame f ∷ []) (frame_items fs),
  (net, can, subst (λ (s : MergerState). CanFetchAll network s fs) is all),
  then ∙ ap (λ (s : MergerState). fetched_all s fs) is,
)

-- ---- items were merged

frames_of : (fs : List Frame) → frames_in (frame_items fs) ≡ fs
frames_of [] = refl
frames_of (f ∷ fs) = ap (λ (l : List Frame). f ∷ l) (frames_of fs)

frames_with : (xs : List TapItem) (fs : List Frame) (ys : List TapItem) → ys ≡ xs ++ frame_items fs → frames_in xs ++ fs ≡ frames_in ys
frames_with xs fs ys is =
    ap (λ (l : List Frame). frames_in xs ++ l) (sym (frames_of fs)) ∙ sym (frames_append xs (frame_items fs)) ∙ ap frames_in (sym is)

frames_to_end : (xs : List TapItem) (e : Ending) (ys : List TapItem) → ys ≡ xs ++ items.End e ∷ [] → frames_in xs ≡ frames_in ys
frames_to_end xs e ys is = sym (append-nil (frames_in xs)) ∙ sym (frames_append xs (items.End e ∷ [])) ∙ ap frames_in (sym is)

-- all that is known of the merger and of both networks' items
pub record Known (late : ℕ) (cut : List Frame) (m : MergerState) (xs ys : List TapItem) (end_a end_b : Option Ending) : Type 0 where
  pub late_is : m.late ≡ late
  pub follows : Follows m (frames_in xs) (frames_in ys) cut
  pub ended_a : HasEnding end_a m.a xs
  pub ended_b : HasEnding end_b m.b ys

all_late : (network : Network) (m : MergerState) (fs : List Frame) → CanFetchAll network m fs → (fetched_all m fs).late ≡ m.late
all_late network m [] can = refl
all_late network m (f ∷ fs) can = all_late network (fetched m f) fs can.2 ∙ late_next m f network can.0

other_tap_a : (m : MergerState) (fs : List Frame) → CanFetchAll B m fs → (fetched_all m fs).a ≡ m.a
other_tap_a m [] can = refl
other_tap_a m (f ∷ fs) can = other_tap_a (fetched m f) fs can.2 ∙ ap (λ n. (change_tap (tap_after f.stamp) n m).a) can.0

other_tap_b : (m : MergerState) (fs : List Frame) → CanFetchAll A m fs → (fetched_all m fs).b ≡ m.b
other_tap_b m [] can = refl
other_tap_b m (f ∷ fs) can = other_tap_b (fetched m f) fs can.2 ∙ ap (λ n. (change_tap (tap_after f.stamp) n m).b) can.0

own_goes_on : (network : Network) (m : MergerState) (fs : List Frame) → CanFetchAll network m fs → (tap_of (fetched_all m fs) network).ended ≡ (tap_of m network).ended
own_goes_on network m [] can = refl
own_goes_on network m (f ∷ fs) can = own_goes_on network (fetched m f) fs can.2 ∙ ap (λ (t : Tap). t.ended) (tap_next m f network can.0)

follows_all_a : (m : MergerState) (fa fb cut fs : List Frame) → Follows m fa fb cut → CanFetchAll A m fs → Follows (fetched_all m fs) (fa ++ fs) fb cut
follows_all_a m fa fb cut [] h can = subst (λ (l : List Frame). Follows m l fb cut) (sym (append-nil fa)) h
follows_all_a m fa fb cut (f ∷ fs) h can =
    subst (λ (l : List Frame). Follows (fetched_all (fetched m f) fs) l fb cut) (append_assoc fa (f ∷ []) fs)
    (follows_all_a (fetched m f) (fa ++ f ∷ []) fb cut fs (follows_fetch_a m fa fb cut f h can.1 can.0) can.2)

follows_all_b : (m : MergerState) (fa fb cut fs : List Frame) → Follows m fa fb cut → CanFetchAll B m fs → Follows (fetched_all m fs) fa (fb ++ fs) cut
follows_all_b m fa fb cut [] h can = subst (λ (l : List Frame). Follows m fa l cut) (sym (append-nil fb)) h
follows_all_b m fa fb cut (f ∷ fs) h can =
    subst (λ (l : List Frame). Follows (fetched_all (fetched m f) fs) fa l cut) (append_assoc fb (f ∷ []) fs)
    (follows_all_b (fetched m f) fa (fb ++ f ∷ []) cut fs (follows_fetch_b m fa fb cut f h can.1 can.0) can.2)

pub merged_of_a : (late : ℕ) (cut : List Frame) (m m' : MergerState) (old new : TapEnd) (ys : List TapItem) (end end_a end_b : Option Ending) → m.a.ended ≡ false →
    Known late cut m (taken_items old) ys end_a end_b → MergesItem A end old new m m' → Known late cut m' (taken_items new) ys end end_b
merged_of_a late cut m m' old new ys None end_a end_b going k (fs, taken, can, is) = record {
  late_is = ap (λ (s : MergerState). s.late) is ∙ all_late A m fs can ∙ k.late_is;
  follows = subst (λ (l : List Frame). Follows m' l (frames_in ys) cut) (frames_with (taken_items old) fs (taken_items new) taken)
      (subst (λ (s : MergerState). Follows s (frames_in (taken_items old) ++ fs) (frames_in ys) cut) (sym is)
      (follows_all_a m (frames_in (taken_items old)) (frames_in ys) cut fs k.follows can));
  ended_a = ap (λ (s : MergerState). s.a.ended) is ∙ own_goes_on A m fs can ∙ going;
  ended_b = subst (λ (t : Tap). HasEnding end_b t ys) (sym (ap (λ (s : MergerState). s.b) is ∙ other_tap_b m fs can)) k.ended_b;
}
merged_of_a late cut m m' old new ys (Some e) end_a end_b going k (taken, is) = record {
  late_is = ap (λ (s : MergerState). s.late) is ∙ k.late_is;
  follows = subst (λ (l : List Frame). Follows m' l (frames_in ys) cut) (frames_to_end (taken_items old) e (taken_items new) taken)
      (subst (λ (s : MergerState). Follows s (frames_in (taken_items old)) (frames_in ys) cut) (sym is) (follows_end m (frames_in (taken_items old)) (frames_in ys) cut A k.follows));
  ended_a = (ap (λ (s : MergerState). s.a.ended) is, (taken_items old, taken));
  ended_b = subst (λ (t : Tap). HasEnding end_b t ys) (sym (ap (λ (s : MergerState). s.b) is)) k.ended_b;
}

pub merged_of_b : (late : ℕ) (cut : List Frame) (m m' : MergerState) (old new : TapEnd) (xs : List TapItem) (end end_a end_b : Option Ending) → m.b.ended ≡ false →
    Known late cut m xs (taken_items old) end_a end_b → MergesItem B end old new m m' → Known late cut m' xs (taken_items new) end_a end
merged_of_b late cut m m' old new xs None end_a end_b going k (fs, taken, can, is) = record {
  late_is = ap (λ (s : MergerState). s.late) is ∙ all_late B m fs can ∙ k.late_is;
  follows = subst (λ (l : List Frame). Follows m' (frames_in xs) l cut) (frames_with (taken_items old) fs (taken_items new) taken)
      (subst (λ (s : MergerState). Follows s (frames_in xs) (frames_in (taken_items old) ++ fs) cut) (sym is)
      (follows_all_b m (frames_in xs) (frames_in (taken_items old)) cut fs k.follows can));
  ended_a = subst (λ (t : Tap). HasEnding end_a t xs) (sym (ap (λ (s : MergerState). s.a) is ∙ other_tap_a m fs can)) k.ended_a;
  ended_b = ap (λ (s : MergerState). s.b.ended) is ∙ own_goes_on B m fs can ∙ going;
}
merged_of_b late cut m m' old new xs (Some e) end_a end_b going k (taken, is) = record {
  late_is = ap (λ (s : MergerState). s.late) is ∙ k.late_is;
  follows = subst (λ (l : List Frame). Follows m' (frames_in xs) l cut) (frames_to_end (taken_items old) e (taken_items new) taken)
      (subst (λ (s : MergerState). Follows s (frames_in xs) (frames_in (taken_items old)) cut) (sym is) (follows_end m (frames_in xs) (frames_in (taken_items old)) cut B k.follows));
  ended_a = subst (λ (t : Tap). HasEnding end_a t xs) (sym (ap (λ (s : MergerState). s.a) is)) k.ended_a;
  ended_b = (ap (λ (s : MergerState). s.b.ended) is, (taken_items old, taken));
}

pub known_of : (late : ℕ) (cut : List Frame) (rings : Rings) → HasTaken late cut rings →
    Known late cut rings.merger (taken_items rings.a) (taken_items rings.b) rings.end_a rings.end_b
known_of late cut rings h = record { late_is = h.late_is; follows = h.follows; ended_a = h.ended_a; ended_b = h.ended_b }

-- ---- merging stops

over_at_end : (end : Option Ending) (tap : Tap) (xs : List TapItem) → HasEnding end tap xs → tap.ended ≡ true → is_over xs ≡ true
over_at_end None tap xs h done = absurd (false≢true (sym h ∙ done))
over_at_end (Some e) tap xs (is, (before, all)) done = ap is_over all ∙ over_with before (items.End e) refl

ends_at_end : (end : Option Ending) (tap : Tap) (xs : List TapItem) → HasEnding end tap xs → tap.ended ≡ true → (ending : Ending) × EndsWith (items.End ending) xs
ends_at_end None tap xs h done = absurd (false≢true (sym h ∙ done))
ends_at_end (Some e) tap xs (is, ends) done = (e, ends)

pub are_first : (end : Option Ending) (tap : Tap) (old new : TapEnd) → HasEnding end tap (taken_items old) → TakesOn old new → has_lost new ≡ false →
    AreFirst (frames_in (taken_items old)) tap (taken_items new)
are_first end tap old new has takes sound =
    let m = takes.more sound in
    record {
      more = frames_in m.0;
      all = ap frames_in m.1 ∙ frames_append (taken_items old) m.0;
      over = λ done.
          (let ending = ends_at_end end tap (taken_items old) has done in
          let none = m.2 (over_at_end end tap (taken_items old) has done) in
          (ap frames_in none, ending.0, subst (λ (l : List TapItem). EndsWith (items.End ending.0) l) (sym (m.1 ∙ ap (λ (l : List TapItem). taken_items old ++ l) none ∙ append-nil (taken_items old))) ending.1));
    }

-- with what was taken since
pub stops_with : (late : ℕ) (cut : List Frame) (rings : Rings) (a b : TapEnd) → HasTaken late cut rings → TakesOn rings.a a → TakesOn rings.b b → StopsTaking late cut a b
stops_with late cut rings a b h takes_a takes_b = record {
  merger = rings.merger;
  frames_a = frames_in (taken_items rings.a);
  frames_b = frames_in (taken_items rings.b);
  late_is = h.late_is;
  follows = h.follows;
  first_a = are_first rings.end_a rings.merger.a rings.a a h.ended_a takes_a;
  first_b = are_first rings.end_b rings.merger.b rings.b b h.ended_b takes_b;
}

-- ---- a round is cut

pub at_most : (n : ℕ) (l : List Frame) → length (take n l) ≤ n
at_most n l = (let size = length-take n l in omega (arith, size))

pub is_met : (end : Option Ending) (tap : Tap) (xs : List TapItem) → HasEnding end tap xs → tap.ended ≡ true → is_some end ≡ true
is_met None tap xs h done = absurd (false≢true (sym h ∙ done))
is_met (Some e) tap xs h done = refl

pub taken_after_cut : (most late : ℕ) (cut : List Frame) (rings : Rings) (m : MergerState) (round : List Frame) → HasTaken late cut rings → m ≡ after_cut rings.merger most →
    round ≡ cut_frames rings.merger most → HasTaken late (cut ++ round) (record rings { merger = m })
taken_after_cut most late cut rings m round h is round_is = record {
  late_is = ap (λ (s : MergerState). s.late) is ∙ h.late_is;
  network_a = h.network_a;
  network_b = h.network_b;
  late_a = h.late_a;
  late_b = h.late_b;
  few_a = h.few_a;
  few_b = h.few_b;
  follows = rw (is, round_is) (follows_cut rings.merger (frames_in (taken_items rings.a)) (frames_in (taken_items rings.b)) cut most h.follows);
  ended_a = subst (λ (s : MergerState). HasEnding rings.end_a s.a (taken_items rings.a)) (sym is) h.ended_a;
  ended_b = subst (λ (s : MergerState). HasEnding rings.end_b s.b (taken_items rings.b)) (sym is) h.ended_b;
  failed = h.failed;
}

-- ---- a ring was looked at, or a source's failure was taken

fault_kept : (fault : WatchFault) (network : Network) (old new : TapEnd) → Looks old new → TapFault network fault old → TapFault network fault new
fault_kept (watch.Read failed) network old new l (is, sound, ends) = (is, l.lost ∙ sound, subst (λ (t : List TapItem). EndsWith (items.Failed Device) t) (sym l.taken) ends)
fault_kept watch.Memory network old new l f = tt
fault_kept watch.RingLost network old new l (inl lost) = inl (l.lost ∙ lost)
fault_kept watch.RingLost network old new l (inr over) = inr (ap is_over l.taken ∙ over)
fault_kept watch.Workers network old new l f = absurd f
fault_kept (watch.Header n fault) network old new l f = absurd f
fault_kept watch.Spawn network old new l f = absurd f
fault_kept (watch.Write out) network old new l f = absurd f
fault_kept watch.Filters network old new l f = absurd f

none_of : (rings : Rings) (a b : TapEnd) → Looks rings.a a → Looks rings.b b → IfSome rings.fault (λ fault. RingsFault fault rings.a rings.b) →
    IfSome rings.fault (λ fault. RingsFault fault a b)
none_of rings a b on_a on_b h = by rings.fault h
  where
    by : (fault : Option WatchFault) → IfSome fault (λ fault. RingsFault fault rings.a rings.b) → IfSome fault (λ fault. RingsFault fault a b)
    by None h = tt
    by (Some fault) (A, f) = (A, fault_kept fault A rings.a a on_a f)
    by (Some fault) (B, f) = (B, fault_kept fault B rings.b b on_b f)

pub looks_none : (end : TapEnd) → Looks end end
looks_none end = record { same = (((refl, refl, refl, refl), refl), refl, refl); taken = refl; lost = refl }

pub taken_looks : (late : ℕ) (cut : List Frame) (rings : Rings) (a b : TapEnd) → Looks rings.a a → Looks rings.b b → HasTaken late cut rings →
    HasTaken late cut (record rings { a = a; b = b })
taken_looks late cut rings a b on_a on_b h = record {
  late_is = h.late_is;
  network_a = on_a.same.1 ∙ h.network_a;
  network_b = on_b.same.1 ∙ h.network_b;
  late_a = on_a.same.2 ∙ h.late_a;
  late_b = on_b.same.2 ∙ h.late_b;
  few_a = subst (λ (t : List TapItem). length (frames_in t) ≤ most_frames) (sym on_a.taken) h.few_a;
  few_b = subst (λ (t : List TapItem). length (frames_in t) ≤ most_frames) (sym on_b.taken) h.few_b;
  follows = subst (λ (t : List TapItem). Follows rings.merger (frames_in t) (frames_in (taken_items b)) cut) (sym on_a.taken)
      (subst (λ (t : List TapItem). Follows rings.merger (frames_in (taken_items rings.a)) (frames_in t) cut) (sym on_b.taken) h.follows);
  ended_a = subst (λ (t : List TapItem). HasEnding rings.end_a rings.merger.a t) (sym on_a.taken) h.ended_a;
  ended_b = subst (λ (t : List TapItem). HasEnding rings.end_b rings.merger.b t) (sym on_b.taken) h.ended_b;
  failed = none_of rings a b on_a on_b h.failed;
}

-- ---- a source's failure was taken, and nothing was merged

frames_to_failure : (xs ys : List TapItem) → ys ≡ xs ++ items.Failed Device ∷ [] → frames_in xs ≡ frames_in ys
frames_to_failure xs ys is = sym (append-nil (frames_in xs)) ∙ sym (frames_append xs (items.Failed Device ∷ [])) ∙ ap frames_in (sym is)

ending_kept : (end : Option Ending) (tap : Tap) (xs ys : List TapItem) → tap.ended ≡ false → HasEnding end tap xs → HasEnding end tap ys
ending_kept None tap xs ys going h = h
ending_kept (Some e) tap xs ys going (is, ends) = absurd (false≢true (sym going ∙ is))

pub failed_a : (fault : WatchFault) (rings : Rings) (m : MergerState) (new : TapEnd) → rings.fault ≡ None → rings.merger.a.ended ≡ false → WhereFailed fault (m ≡ rings.merger) →
    TakesOn rings.a new → TakesFailure fault rings.a new →
    WhereFailed fault ((late : ℕ) (cut : List Frame) → HasTaken late cut rings → HasTaken late cut (record rings { a = new; merger = m }))
failed_a (watch.Read network) rings m new none going same takes taken = λ late cut h.
    (let frames : frames_in (taken_items rings.a) ≡ frames_in (taken_items new) = frames_to_failure (taken_items rings.a) (taken_items new) taken in
    record {
      late_is = ap (λ (s : MergerState). s.late) same ∙ h.late_is;
      network_a = takes.same.1 ∙ h.network_a;
      network_b = h.network_b;
      late_a = takes.same.2 ∙ h.late_a;
      late_b = h.late_b;
      few_a = subst (λ (l : List Frame). length l ≤ most_frames) frames h.few_a;
      few_b = h.few_b;
      follows = subst (λ (s : MergerState). Follows s (frames_in (taken_items new)) (frames_in (taken_items rings.b)) cut) (sym same)
          (subst (λ (l : List Frame). Follows rings.merger l (frames_in (taken_items rings.b)) cut) frames h.follows);
      ended_a = subst (λ (s : MergerState). HasEnding rings.end_a s.a (taken_items new)) (sym same)
          (ending_kept rings.end_a rings.merger.a (taken_items rings.a) (taken_items new) going h.ended_a);
      ended_b = subst (λ (s : MergerState). HasEnding rings.end_b s.b (taken_items rings.b)) (sym same) h.ended_b;
      failed = subst (λ (f : Option WatchFault). IfSome f (λ fault. RingsFault fault new rings.b)) (sym none) tt;
    })
failed_a watch.Memory rings m new none going same takes taken = tt
failed_a watch.RingLost rings m new none going same takes taken = tt
failed_a watch.Workers rings m new none going same takes taken = tt
failed_a (watch.Header n fault) rings m new none going same takes taken = tt
failed_a watch.Spawn rings m new none going same takes taken = tt
failed_a (watch.Write out) rings m new none going same takes taken = tt
failed_a watch.Filters rings m new none going same takes taken = tt

pub failed_b : (fault : WatchFault) (rings : Rings) (m : MergerState) (new : TapEnd) → rings.fault ≡ None → rings.merger.b.ended ≡ false → WhereFailed fault (m ≡ rings.merger) →
    TakesOn rings.b new → TakesFailure fault rings.b new →
    WhereFailed fault ((late : ℕ) (cut : List Frame) → HasTaken late cut rings → HasTaken late cut (record rings { b = new; merger = m }))
failed_b (watch.Read network) rings m new none going same takes taken = λ late cut h.
    (let frames : frames_in (taken_items rings.b) ≡ frames_in (taken_items new) = frames_to_failure (taken_items rings.b) (taken_items new) taken in
    record {
      late_is = ap (λ (s : MergerState). s.late) same ∙ h.late_is;
      network_a = h.network_a;
      network_b = takes.same.1 ∙ h.network_b;
      late_a = h.late_a;
      late_b = takes.same.2 ∙ h.late_b;
      few_a = h.few_a;
      few_b = subst (λ (l : List Frame). length l ≤ most_frames) frames h.few_b;
      follows = subst (λ (s : MergerState). Follows s (frames_in (taken_items rings.a)) (frames_in (taken_items new)) cut) (sym same)
          (subst (λ (l : List Frame). Follows rings.merger (frames_in (taken_items rings.a)) l cut) frames h.follows);
      ended_a = subst (λ (s : MergerState). HasEnding rings.end_a s.a (taken_items rings.a)) (sym same) h.ended_a;
      ended_b = subst (λ (s : MergerState). HasEnding rings.end_b s.b (taken_items new)) (sym same)
          (ending_kept rings.end_b rings.merger.b (taken_items rings.b) (taken_items new) going h.ended_b);
      failed = subst (λ (f : Option WatchFault). IfSome f (λ fault. RingsFault fault rings.a new)) (sym none) tt;
    })
failed_b watch.Memory rings m new none going same takes taken = tt
failed_b watch.RingLost rings m new none going same takes taken = tt
failed_b watch.Workers rings m new none going same takes taken = tt
failed_b (watch.Header n fault) rings m new none going same takes taken = tt
failed_b watch.Spawn rings m new none going same takes taken = tt
failed_b (watch.Write out) rings m new none going same takes taken = tt
failed_b watch.Filters rings m new none going same takes taken = tt

-- the claim where a source failed
pub where_failed : {P Q : Type 0} (fault : WatchFault) → (P → Q) → WhereFailed fault P → WhereFailed fault Q
where_failed (watch.Read network) f p = f p
where_failed watch.Memory f p = tt
where_failed watch.RingLost f p = tt
where_failed watch.Workers f p = tt
where_failed (watch.Header n fault) f p = tt
where_failed watch.Spawn f p = tt
where_failed (watch.Write out) f p = tt
where_failed watch.Filters f p = tt

pub whatever_failed : {P : Type 0} (fault : WatchFault) → P → WhereFailed fault P
whatever_failed (watch.Read network) p = p
whatever_failed watch.Memory p = tt
whatever_failed watch.RingLost p = tt
whatever_failed watch.Workers p = tt
whatever_failed (watch.Header n fault) p = tt
whatever_failed watch.Spawn p = tt
whatever_failed (watch.Write out) p = tt
whatever_failed watch.Filters p = tt

-- with the fault of a ring
pub with_fault : (late : ℕ) (cut : List Frame) (rings : Rings) (fault : WatchFault) → HasTaken late cut rings → RingsFault fault rings.a rings.b →
    HasTaken late cut (record rings { fault = Some fault })
with_fault late cut rings fault h told = record {
  late_is = h.late_is;
  network_a = h.network_a;
  network_b = h.network_b;
  late_a = h.late_a;
  late_b = h.late_b;
  few_a = h.few_a;
  few_b = h.few_b;
  follows = h.follows;
  ended_a = h.ended_a;
  ended_b = h.ended_b;
  failed = told;
}

-- the fault that was kept
pub kept_fault : (late : ℕ) (cut : List Frame) (rings : Rings) (fault : WatchFault) → HasTaken late cut rings → rings.fault ≡ Some fault → RingsFault fault rings.a rings.b
kept_fault late cut rings fault h is = subst (λ (f : Option WatchFault). IfSome f (λ x. RingsFault x rings.a rings.b)) is h.failed
