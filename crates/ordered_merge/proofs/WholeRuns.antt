-- A run of the merger that goes on to the end of both recordings.
use Rattle.std.proofs.Common.{◌≡◌, ℕ, Bool, true, false, List, [], ◌∷◌, ◌++◌, refl, sym, ap, ◌∙◌, subst, append_assoc}
use Rattle.std.proofs.lemmas.List.{append-nil}
use Rattle.afdx_frame.specs.Frame.{Frame}
use Rattle.afdx_frame.specs.declared.key.Network.{Network}
use Rattle.afdx_frame.specs.declared.key.Network.TheVariants.{A, B}
use Rattle.ordered_merge.specs.Order.{IsOrder}
use Rattle.ordered_merge.specs.Merge.{Tap, MergerState, new_tap, tap_of, change_tap, tap_after, IsInTime, CanFetch, AreOfTap, Follows, fetched}
use Rattle.ordered_merge.specs.Recording.{IsRecording}
use Rattle.ordered_merge.proofs.Following.{follows_fetch_a, follows_fetch_b}

-- ---- a recording's next frame

pub next_of : (network : Network) (late : ℕ) (tap : Tap) (l : List Frame) (f : Frame) (rest : List Frame) (last mid : Tap)
    → AreOfTap network late tap (l ++ f ∷ rest) last → AreOfTap network late tap l mid → (f.network ≡ network) × (f.number ≡ mid.next) × IsInTime late mid f
next_of network late tap [] f rest last mid h k = (h.0, h.1 ∙ k.0, λ high e. h.2 high (k.1 ∙ e))
next_of network late tap (g ∷ l) f rest last mid h k = next_of network late (tap_after g.stamp tap) l f rest last mid h.3 k.3

can_fetch_at : (network : Network) (s : MergerState) (f : Frame) → f.network ≡ network → (tap_of s network).ended ≡ false → f.number ≡ (tap_of s network).next
    → IsInTime s.late (tap_of s network) f → CanFetch s f
can_fetch_at network s f e going number in_time =
    let P : Network → Type 0 = λ n. ((tap_of s n).ended ≡ false) × (f.number ≡ (tap_of s n).next) × IsInTime s.late (tap_of s n) f in
    let all = subst P (sym e) (going, number, in_time) in
    record { going = all.0; number = all.1; in_time = all.2 }

pub next_a : (s : MergerState) (late : ℕ) (fa fb out a : List Frame) (f : Frame) (rest : List Frame) → Follows s fa fb out → s.late ≡ late → IsRecording A late a
    → a ≡ fa ++ f ∷ rest → s.a.ended ≡ false → (f.network ≡ A) × CanFetch s f
next_a s late fa fb out a f rest fol e h whole going =
    let of_tap : AreOfTap A late new_tap (fa ++ f ∷ rest) h.0 = subst (λ (l : List Frame). AreOfTap A late new_tap l h.0) whole h.1 in
    let n = next_of A s.late new_tap fa f rest h.0 s.a (subst (λ (k : ℕ). AreOfTap A k new_tap (fa ++ f ∷ rest) h.0) (sym e) of_tap) fol.a in
    (n.0, can_fetch_at A s f n.0 going n.1 n.2)

pub next_b : (s : MergerState) (late : ℕ) (fa fb out b : List Frame) (f : Frame) (rest : List Frame) → Follows s fa fb out → s.late ≡ late → IsRecording B late b
    → b ≡ fb ++ f ∷ rest → s.b.ended ≡ false → (f.network ≡ B) × CanFetch s f
next_b s late fa fb out b f rest fol e h whole going =
    let of_tap : AreOfTap B late new_tap (fb ++ f ∷ rest) h.0 = subst (λ (l : List Frame). AreOfTap B late new_tap l h.0) whole h.1 in
    let n = next_of B s.late new_tap fb f rest h.0 s.b (subst (λ (k : ℕ). AreOfTap B k new_tap (fb ++ f ∷ rest) h.0) (sym e) of_tap) fol.b in
    (n.0, can_fetch_at B s f n.0 going n.1 n.2)

-- all that a fetch leaves of the merger
pub ended_stays_a : (stamp : ℕ) (network : Network) (s : MergerState) → (change_tap (tap_after stamp) network s).a.ended ≡ s.a.ended
ended_stays_a stamp A s = refl
ended_stays_a stamp B s = refl

pub ended_stays_b : (stamp : ℕ) (network : Network) (s : MergerState) → (change_tap (tap_after stamp) network s).b.ended ≡ s.b.ended
ended_stays_b stamp A s = refl
ended_stays_b stamp B s = refl

pub late_stays : (stamp : ℕ) (network : Network) (s : MergerState) → (change_tap (tap_after stamp) network s).late ≡ s.late
late_stays stamp A s = refl
late_stays stamp B s = refl

-- ---- to the end

-- a run that goes on to the end of both recordings
record GoesOn (fa fb out : List Frame) (late : ℕ) (b_ended : Bool) : Type 0 where
  state : MergerState
  follows : Follows state fa fb out
  window : state.late ≡ late
  going : state.b.ended ≡ b_ended

all_a : (rest : List Frame) (s : MergerState) (late : ℕ) (fa fb out : List Frame) → Follows s fa fb out → s.late ≡ late → s.a.ended ≡ false
    → IsRecording A late (fa ++ rest) → GoesOn (fa ++ rest) fb out late s.b.ended
all_a [] s late fa fb out fol e going h =
    record { state = s; follows = subst (λ (l : List Frame). Follows s l fb out) (sym (append-nil fa)) fol; window = e; going = refl }
all_a (f ∷ rest) s late fa fb out fol e going h =
    let next = next_a s late fa fb out (fa ++ f ∷ rest) f rest fol e h refl going in
    let same : (fa ++ f ∷ []) ++ rest ≡ fa ++ f ∷ rest = append_assoc fa (f ∷ []) rest in
    let more = all_a rest (fetched s f) late (fa ++ f ∷ []) fb out (follows_fetch_a s fa fb out f fol next.1 next.0) (late_stays f.stamp f.network s ∙ e)
    (ended_stays_a f.stamp f.network s ∙ going) (subst (IsRecording A late) (sym same) h) in
    record {
      state = more.state;
      follows = subst (λ (l : List Frame). Follows more.state l fb out) same more.follows;
      window = more.window;
      going = more.going ∙ ended_stays_b f.stamp f.network s;
    }

all_b : (rest : List Frame) (s : MergerState) (late : ℕ) (fa fb out : List Frame) → Follows s fa fb out → s.late ≡ late → s.b.ended ≡ false
    → IsRecording B late (fb ++ rest) → (t : MergerState) × Follows t fa (fb ++ rest) out
all_b [] s late fa fb out fol e going h = (s, subst (λ (l : List Frame). Follows s fa l out) (sym (append-nil fb)) fol)
all_b (f ∷ rest) s late fa fb out fol e going h =
    let next = next_b s late fa fb out (fb ++ f ∷ rest) f rest fol e h refl going in
    let same : (fb ++ f ∷ []) ++ rest ≡ fb ++ f ∷ rest = append_assoc fb (f ∷ []) rest in
    let more = all_b rest (fetched s f) late fa (fb ++ f ∷ []) out (follows_fetch_b s fa fb out f fol next.1 next.0) (late_stays f.stamp f.network s ∙ e)
    (ended_stays_b f.stamp f.network s ∙ going) (subst (IsRecording B late) (sym same) h) in
    (more.0, subst (λ (l : List Frame). Follows more.0 fa l out) same more.1)

by_test : (b : Bool) (P : Type 0) → (b ≡ true → P) → (b ≡ false → P) → P
by_test true P f g = f refl
by_test false P f g = g refl

to_end_a : (s : MergerState) (late : ℕ) (fa fb out rest : List Frame) → Follows s fa fb out → s.late ≡ late → (s.a.ended ≡ true → rest ≡ [])
    → IsRecording A late (fa ++ rest) → GoesOn (fa ++ rest) fb out late s.b.ended
to_end_a s late fa fb out rest fol e none h =
    by_test s.a.ended (GoesOn (fa ++ rest) fb out late s.b.ended)
    (λ t. record {
      state = s;
      follows = subst (λ (l : List Frame). Follows s l fb out) (sym (append-nil fa) ∙ ap (λ (l : List Frame). fa ++ l) (sym (none t))) fol;
      window = e;
      going = refl;
    })
    (λ t. all_a rest s late fa fb out fol e t h)

to_end_b : (s : MergerState) (late : ℕ) (fa fb out rest : List Frame) → Follows s fa fb out → s.late ≡ late → (s.b.ended ≡ true → rest ≡ [])
    → IsRecording B late (fb ++ rest) → (t : MergerState) × Follows t fa (fb ++ rest) out
to_end_b s late fa fb out rest fol e none h =
    by_test s.b.ended ((t : MergerState) × Follows t fa (fb ++ rest) out)
    (λ t. (s, subst (λ (l : List Frame). Follows s fa l out) (sym (append-nil fb) ∙ ap (λ (l : List Frame). fb ++ l) (sym (none t))) fol))
    (λ t. all_b rest s late fa fb out fol e t h)

-- The frames that were cut come first in the order of both recordings whole, where those that have ended were fetched whole.
pub cut_comes_first : (s : MergerState) (late : ℕ) (fa fb out ra rb : List Frame) → Follows s fa fb out → s.late ≡ late
    → (s.a.ended ≡ true → ra ≡ []) → (s.b.ended ≡ true → rb ≡ []) → IsRecording A late (fa ++ ra) → IsRecording B late (fb ++ rb)
    → (rest : List Frame) × IsOrder (fa ++ ra) (fb ++ rb) (out ++ rest)
cut_comes_first s late fa fb out ra rb fol e none_a none_b rec_a rec_b =
    let on = to_end_a s late fa fb out ra fol e none_a rec_a in
    let end = to_end_b on.state late (fa ++ ra) fb out rb on.follows on.window (λ t. none_b (sym on.going ∙ t)) rec_b in
    (end.0.pending, end.1.order)
