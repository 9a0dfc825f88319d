-- Each event keeps what holds of the core.
use Rattle.std.proofs.Common.{◌≡◌, ℕ, zero, suc, ◌+◌, Bool, true, false, ◌&&◌, nat_lt, List, [], ◌∷◌, ◌++◌, Option, Some, None, Result, Ok, Err, length, set, replicate, slice_get, refl, sym, ap, ◌∙◌, subst, arith, append_assoc}
use Rattle.std.proofs.lemmas.Bool.{and_parts, cond_both, false≢true}
use Rattle.std.proofs.lemmas.List.{append-nil, map-append, length-set, length-replicate}
use Rattle.std.proofs.lemmas.List.Sorted.{IsPermutation-refl, IsPermutation-sym, IsPermutation-trans, IsPermutation-append_comm, IsPermutation-append_left, IsPermutation-append_right}
use Rattle.std.specs.List.{AllByRecursion, list_all}
use Rattle.std.specs.List.Sorted.{IsPermutation}
use Rattle.std.specs.Option.{IfSome, is_some, option_map, unwrap_or}
use Rattle.std.specs.Result.{IfOk, OnErr}
use Rattle.afdx_frame.specs.Frame.{Frame}
use Rattle.afdx_frame.specs.declared.key.Network.{Network}
use Rattle.afdx_frame.specs.declared.key.Network.TheVariants.{A, B}
use Rattle.specified.specs.declared.model.event.Event.{Event}
use Rattle.specified.specs.declared.model.event.Event.TheVariants as events
use Rattle.specified.specs.declared.model.event.Answered.{Answered}
use Rattle.specified.specs.declared.model.round.Worker.{Worker}
use Rattle.specified.specs.declared.model.round.Worker.TheVariants.{Idle, Holding, Through}
use Rattle.specified.specs.declared.model.sizes.CoreSizes.{CoreSizes}
use Rattle.specified.specs.declared.model.side.RingItem.{RingItem}
use Rattle.specified.specs.declared.model.side.RingItem.TheVariants as items
use Rattle.ordered_merge.specs.Order.{IsOrder, IsRising}
use Rattle.ordered_merge.specs.Merge.{MergerState, tap_of, CanFetch, Follows, fetched, cut_frames, after_cut}
use Rattle.specified.specs.Events.Side.{SideState, has_room, put_of, put_step, end_of, end_step, Steps}
use Rattle.specified.specs.Events.Round.{RoundState, claimed, after_claim, posted, is_answered, is_through, answered}
use Rattle.specified.specs.Events.Steps.{CoreState, FirstsCanFetch, new_core, side_of, with_side, fetch_of, fetch_step, core_fetch_step, cut_of, claim_of, post_of, gather_of, core_step}
use Rattle.specified.specs.Events.Sound.{ring_frames, coming, round_frames, output_frames, given, held, OutputIsPrefix, OutputIsAll, HasNoMark, EndsInMark, MarkStands, RoundAnswers, AnswersAre, IsOf, core_run}
use Rattle.ordered_merge.specs.Recording.{IsRecording}
use Rattle.ordered_merge.proofs.Rising.{each_append}
use Rattle.ordered_merge.proofs.Following.{follows_new, follows_fetch_a, follows_fetch_b, follows_end, follows_cut, follows_order, one_order}
use Rattle.ordered_merge.proofs.WholeRuns.{cut_comes_first, ended_stays_a, ended_stays_b, late_stays, next_a, next_b}

-- ---- rings

ring_append : (r s : List RingItem) → ring_frames (r ++ s) ≡ ring_frames r ++ ring_frames s
ring_append [] s = refl
ring_append (items.Frame f ∷ r) s = ap (λ (l : List Frame). f ∷ l) (ring_append r s)
ring_append (items.End ∷ r) s = ring_append r s

no_mark_append : (r : List RingItem) (f : Frame) → HasNoMark r → HasNoMark (r ++ items.Frame f ∷ [])
no_mark_append [] f h = tt
no_mark_append (items.Frame g ∷ r) f h = no_mark_append r f h
no_mark_append (items.End ∷ r) f h = absurd h

mark_append : (r : List RingItem) → HasNoMark r → EndsInMark (r ++ items.End ∷ [])
mark_append [] h = refl
mark_append (items.Frame g ∷ r) h = mark_append r h
mark_append (items.End ∷ r) h = absurd h

-- ---- marks

mark_put : (marked is_ended : Bool) (f : Frame) (left : List Frame) (ring : List RingItem) → MarkStands marked is_ended (f ∷ left) ring
    → MarkStands marked is_ended left (ring ++ items.Frame f ∷ [])
mark_put false false f left ring h = no_mark_append ring f h
mark_put true false f left ring h = (let e = h.0 in cc)
mark_put true true f left ring h = (let e = h.0 in cc)
mark_put false true f left ring h = absurd h

mark_end : (is_ended : Bool) (ring : List RingItem) → MarkStands false is_ended [] ring → MarkStands true is_ended [] (ring ++ items.End ∷ [])
mark_end false ring h = (refl, mark_append ring h)
mark_end true ring h = absurd h

mark_going : (marked is_ended : Bool) (left : List Frame) (f : Frame) (ring : List RingItem) → MarkStands marked is_ended left (items.Frame f ∷ ring) → is_ended ≡ false
mark_going marked false left f ring h = refl
mark_going true true left f ring h = (let e = h.1 in cc)
mark_going false true left f ring h = absurd h

mark_fetch : (marked is_ended : Bool) (left : List Frame) (f : Frame) (ring : List RingItem) → MarkStands marked is_ended left (items.Frame f ∷ ring)
    → MarkStands marked is_ended left ring
mark_fetch false false left f ring h = h
mark_fetch true false left f ring h = h
mark_fetch true true left f ring h = (let e = h.1 in cc)
mark_fetch false true left f ring h = absurd h

mark_fetched : (marked is_ended : Bool) (left : List Frame) (ring : List RingItem) → MarkStands marked is_ended left (items.End ∷ ring)
    → MarkStands marked true left ring
mark_fetched false false left ring h = absurd h
mark_fetched true false left ring h = h
mark_fetched true true left ring h = (let e = h.1 in cc)
mark_fetched false true left ring h = absurd h

mark_none : (marked is_ended : Bool) (left : List Frame) (ring : List RingItem) → MarkStands marked is_ended left ring → is_ended ≡ true → ring_frames ring ++ left ≡ []
mark_none marked false left ring h e = absurd (false≢true e)
mark_none true true left ring h e = ap (λ (r : List RingItem). ring_frames r ++ left) h.1 ∙ h.0
mark_none false true left ring h e = absurd h

pub firsts_can_fetch : (late : ℕ) (a b : List Frame) (s : CoreState) → IsOf late a b s → FirstsCanFetch s
firsts_can_fetch late a b s is A f ring e =
    let whole : a ≡ is.fetched_a ++ f ∷ (ring_frames ring ++ s.a.left) = is.whole_a ∙ ap (λ (r : List RingItem). is.fetched_a ++ (ring_frames r ++ s.a.left)) e in
    let stands : MarkStands s.a.marked s.merger.a.ended s.a.left (items.Frame f ∷ ring) = subst (MarkStands s.a.marked s.merger.a.ended s.a.left) e is.mark_a in
    (next_a s.merger late is.fetched_a is.fetched_b (given s) a f (ring_frames ring ++ s.a.left) is.follows is.window is.recording_a whole
    (mark_going s.a.marked s.merger.a.ended s.a.left f ring stands)).1
firsts_can_fetch late a b s is B f ring e =
    let whole : b ≡ is.fetched_b ++ f ∷ (ring_frames ring ++ s.b.left) = is.whole_b ∙ ap (λ (r : List RingItem). is.fetched_b ++ (ring_frames r ++ s.b.left)) e in
    let stands : MarkStands s.b.marked s.merger.b.ended s.b.left (items.Frame f ∷ ring) = subst (MarkStands s.b.marked s.merger.b.ended s.b.left) e is.mark_b in
    (next_b s.merger late is.fetched_a is.fetched_b (given s) b f (ring_frames ring ++ s.b.left) is.follows is.window is.recording_b whole
    (mark_going s.b.marked s.merger.b.ended s.b.left f ring stands)).1

-- ---- each event

pub new_is_of : (sizes : CoreSizes) (late : ℕ) (a b : List Frame) (workers : List Worker) → IsRecording A late a → IsRecording B late b
    → IsOf late a b (new_core sizes a b workers late)
new_is_of sizes late a b workers h k = record {
  fetched_a = [];
  fetched_b = [];
  window = refl;
  recording_a = h;
  recording_b = k;
  whole_a = refl;
  whole_b = refl;
  mark_a = tt;
  mark_b = tt;
  follows = follows_new late;
  answers = tt;
}

-- a side changes, whose frames to come stay
side_a : (late : ℕ) (a b : List Frame) (s : CoreState) (side : SideState) → IsOf late a b s → coming side ≡ coming s.a
    → MarkStands side.marked s.merger.a.ended side.left side.ring → IsOf late a b (record s { a = side })
side_a late a b s side is e mark = record {
  fetched_a = is.fetched_a;
  fetched_b = is.fetched_b;
  window = is.window;
  recording_a = is.recording_a;
  recording_b = is.recording_b;
  whole_a = is.whole_a ∙ ap (λ (l : List Frame). is.fetched_a ++ l) (sym e);
  whole_b = is.whole_b;
  mark_a = mark;
  mark_b = is.mark_b;
  follows = is.follows;
  answers = is.answers;
}

side_b : (late : ℕ) (a b : List Frame) (s : CoreState) (side : SideState) → IsOf late a b s → coming side ≡ coming s.b
    → MarkStands side.marked s.merger.b.ended side.left side.ring → IsOf late a b (record s { b = side })
side_b late a b s side is e mark = record {
  fetched_a = is.fetched_a;
  fetched_b = is.fetched_b;
  window = is.window;
  recording_a = is.recording_a;
  recording_b = is.recording_b;
  whole_a = is.whole_a;
  whole_b = is.whole_b ∙ ap (λ (l : List Frame). is.fetched_b ++ l) (sym e);
  mark_a = is.mark_a;
  mark_b = mark;
  follows = is.follows;
  answers = is.answers;
}

-- a put or an end leaves the frames to come, and the mark stands
record Same (is_ended : Bool) (old new : SideState) : Type 0 where
  frames : coming new ≡ coming old
  mark : MarkStands new.marked is_ended new.left new.ring

put_coming : (f : Frame) (left : List Frame) (ring : List RingItem) → ring_frames (ring ++ items.Frame f ∷ []) ++ left ≡ ring_frames ring ++ f ∷ left
put_coming f left ring =
    ap (λ (l : List Frame). l ++ left) (ring_append ring (items.Frame f ∷ [])) ∙ append_assoc (ring_frames ring) (f ∷ []) left

put_same : (left : List Frame) (side : SideState) (is_ended : Bool) → side.left ≡ left → MarkStands side.marked is_ended side.left side.ring
    → IfSome (put_of left side) (Same is_ended side)
put_same [] side is_ended e mark = tt
put_same (f ∷ left) side is_ended e mark =
    cond_both (has_room side) (Some (record side { left = left; ring = side.ring ++ items.Frame f ∷ [] })) None (λ o. IfSome o (Same is_ended side))
    (λ _. record {
      frames = put_coming f left side.ring ∙ ap (λ (l : List Frame). ring_frames side.ring ++ l) (sym e);
      mark = mark_put side.marked is_ended f left side.ring (subst (λ (l : List Frame). MarkStands side.marked is_ended l side.ring) e mark);
    })
    (λ _. tt)

end_same : (left : List Frame) (marked : Bool) (side : SideState) (is_ended : Bool) → side.left ≡ left → side.marked ≡ marked
    → MarkStands side.marked is_ended side.left side.ring → IfSome (end_of left marked side) (Same is_ended side)
end_same [] false side is_ended e g mark =
    cond_both (has_room side) (Some (record side { marked = true; ring = side.ring ++ items.End ∷ [] })) None (λ o. IfSome o (Same is_ended side))
    (λ _. record {
      frames = ap (λ (l : List Frame). l ++ side.left) (ring_append side.ring (items.End ∷ []) ∙ append-nil (ring_frames side.ring));
      mark = subst (λ (l : List Frame). MarkStands true is_ended l (side.ring ++ items.End ∷ [])) (sym e)
          (mark_end is_ended side.ring (subst (λ (m : Bool). MarkStands m is_ended [] side.ring) g (subst (λ (l : List Frame). MarkStands side.marked is_ended l side.ring) e mark)));
    })
    (λ _. tt)
end_same [] true side is_ended e g mark = tt
end_same (f ∷ left) marked side is_ended e g mark = tt

on_side : (network : Network) (late : ℕ) (a b : List Frame) (s : CoreState) (o : Option SideState) → IsOf late a b s
    → IfSome o (Same (tap_of s.merger network).ended (side_of s network)) → IfSome (option_map (with_side s network) o) (IsOf late a b)
on_side A late a b s None is h = tt
on_side A late a b s (Some side) is h = side_a late a b s side is h.frames h.mark
on_side B late a b s None is h = tt
on_side B late a b s (Some side) is h = side_b late a b s side is h.frames h.mark

put_sound : (network : Network) (late : ℕ) (a b : List Frame) (s : CoreState) → IsOf late a b s
    → IfSome (option_map (with_side s network) (put_step (side_of s network))) (IsOf late a b)
put_sound A late a b s is = on_side A late a b s (put_step s.a) is (put_same s.a.left s.a s.merger.a.ended refl is.mark_a)
put_sound B late a b s is = on_side B late a b s (put_step s.b) is (put_same s.b.left s.b s.merger.b.ended refl is.mark_b)

end_sound : (network : Network) (late : ℕ) (a b : List Frame) (s : CoreState) → IsOf late a b s
    → IfSome (option_map (with_side s network) (end_step (side_of s network))) (IsOf late a b)
end_sound A late a b s is = on_side A late a b s (end_step s.a) is (end_same s.a.left s.a.marked s.a s.merger.a.ended refl refl is.mark_a)
end_sound B late a b s is = on_side B late a b s (end_step s.b) is (end_same s.b.left s.b.marked s.b s.merger.b.ended refl refl is.mark_b)

fetch_sound_a : (ring : List RingItem) (late : ℕ) (a b : List Frame) (s : CoreState) → IsOf late a b s → s.a.ring ≡ ring
    → IfSome (option_map (λ p. record (with_side s A p.0) { merger = p.1 }) (fetch_of ring A s.a s.merger)) (IsOf late a b)
fetch_sound_a [] late a b s is e = tt
fetch_sound_a (items.Frame f ∷ ring) late a b s is e =
    let whole : a ≡ is.fetched_a ++ f ∷ (ring_frames ring ++ s.a.left) = is.whole_a ∙ ap (λ (r : List RingItem). is.fetched_a ++ (ring_frames r ++ s.a.left)) e in
    let stands : MarkStands s.a.marked s.merger.a.ended s.a.left (items.Frame f ∷ ring) = subst (MarkStands s.a.marked s.merger.a.ended s.a.left) e is.mark_a in
    let next = next_a s.merger late is.fetched_a is.fetched_b (given s) a f (ring_frames ring ++ s.a.left) is.follows is.window is.recording_a whole
    (mark_going s.a.marked s.merger.a.ended s.a.left f ring stands) in
    record {
      fetched_a = is.fetched_a ++ f ∷ [];
      fetched_b = is.fetched_b;
      window = late_stays f.stamp f.network s.merger ∙ is.window;
      recording_a = is.recording_a;
      recording_b = is.recording_b;
      whole_a = whole ∙ sym (append_assoc is.fetched_a (f ∷ []) (ring_frames ring ++ s.a.left));
      whole_b = is.whole_b;
      mark_a = subst (λ (t : Bool). MarkStands s.a.marked t s.a.left ring) (sym (ended_stays_a f.stamp f.network s.merger))
          (mark_fetch s.a.marked s.merger.a.ended s.a.left f ring stands);
      mark_b = subst (λ (t : Bool). MarkStands s.b.marked t s.b.left s.b.ring) (sym (ended_stays_b f.stamp f.network s.merger)) is.mark_b;
      follows = follows_fetch_a s.merger is.fetched_a is.fetched_b (given s) f is.follows next.1 next.0;
      answers = is.answers;
    }
fetch_sound_a (items.End ∷ ring) late a b s is e = record {
  fetched_a = is.fetched_a;
  fetched_b = is.fetched_b;
  window = is.window;
  recording_a = is.recording_a;
  recording_b = is.recording_b;
  whole_a = is.whole_a ∙ ap (λ (r : List RingItem). is.fetched_a ++ (ring_frames r ++ s.a.left)) e;
  whole_b = is.whole_b;
  mark_a = mark_fetched s.a.marked s.merger.a.ended s.a.left ring (subst (MarkStands s.a.marked s.merger.a.ended s.a.left) e is.mark_a);
  mark_b = is.mark_b;
  follows = follows_end s.merger is.fetched_a is.fetched_b (given s) A is.follows;
  answers = is.answers;
}

fetch_sound_b : (ring : List RingItem) (late : ℕ) (a b : List Frame) (s : CoreState) → IsOf late a b s → s.b.ring ≡ ring
    → IfSome (option_map (λ p. record (with_side s B p.0) { merger = p.1 }) (fetch_of ring B s.b s.merger)) (IsOf late a b)
fetch_sound_b [] late a b s is e = tt
fetch_sound_b (items.Frame f ∷ ring) late a b s is e =
    let whole : b ≡ is.fetched_b ++ f ∷ (ring_frames ring ++ s.b.left) = is.whole_b ∙ ap (λ (r : List RingItem). is.fetched_b ++ (ring_frames r ++ s.b.left)) e in
    let stands : MarkStands s.b.marked s.merger.b.ended s.b.left (items.Frame f ∷ ring) = subst (MarkStands s.b.marked s.merger.b.ended s.b.left) e is.mark_b in
    let next = next_b s.merger late is.fetched_a is.fetched_b (given s) b f (ring_frames ring ++ s.b.left) is.follows is.window is.recording_b whole
    (mark_going s.b.marked s.merger.b.ended s.b.left f ring stands) in
    record {
      fetched_a = is.fetched_a;
      fetched_b = is.fetched_b ++ f ∷ [];
      window = late_stays f.stamp f.network s.merger ∙ is.window;
      recording_a = is.recording_a;
      recording_b = is.recording_b;
      whole_a = is.whole_a;
      whole_b = whole ∙ sym (append_assoc is.fetched_b (f ∷ []) (ring_frames ring ++ s.b.left));
      mark_a = subst (λ (t : Bool). MarkStands s.a.marked t s.a.left s.a.ring) (sym (ended_stays_a f.stamp f.network s.merger)) is.mark_a;
      mark_b = subst (λ (t : Bool). MarkStands s.b.marked t s.b.left ring) (sym (ended_stays_b f.stamp f.network s.merger))
          (mark_fetch s.b.marked s.merger.b.ended s.b.left f ring stands);
      follows = follows_fetch_b s.merger is.fetched_a is.fetched_b (given s) f is.follows next.1 next.0;
      answers = is.answers;
    }
fetch_sound_b (items.End ∷ ring) late a b s is e = record {
  fetched_a = is.fetched_a;
  fetched_b = is.fetched_b;
  window = is.window;
  recording_a = is.recording_a;
  recording_b = is.recording_b;
  whole_a = is.whole_a;
  whole_b = is.whole_b ∙ ap (λ (r : List RingItem). is.fetched_b ++ (ring_frames r ++ s.b.left)) e;
  mark_a = is.mark_a;
  mark_b = mark_fetched s.b.marked s.merger.b.ended s.b.left ring (subst (MarkStands s.b.marked s.merger.b.ended s.b.left) e is.mark_b);
  follows = follows_end s.merger is.fetched_a is.fetched_b (given s) B is.follows;
  answers = is.answers;
}

fetch_sound : (network : Network) (late : ℕ) (a b : List Frame) (s : CoreState) → IsOf late a b s → IfSome (core_fetch_step network s) (IsOf late a b)
fetch_sound A late a b s is = fetch_sound_a s.a.ring late a b s is refl
fetch_sound B late a b s is = fetch_sound_b s.b.ring late a b s is refl

cut_sound : (round : Option RoundState) (frames : List Frame) (late : ℕ) (a b : List Frame) (s : CoreState) → IsOf late a b s → s.round ≡ round
    → cut_frames s.merger s.round_capacity ≡ frames → IfSome (cut_of round frames s) (IsOf late a b)
cut_sound (Some r) frames late a b s is e g = tt
cut_sound None [] late a b s is e g = tt
cut_sound None (f ∷ frames) late a b s is e g =
    let before : given s ++ cut_frames s.merger s.round_capacity ≡ output_frames s.output ++ f ∷ frames =
    ap (λ (l : List Frame). l ++ cut_frames s.merger s.round_capacity) (ap (λ (o : Option RoundState). output_frames s.output ++ round_frames o) e ∙ append-nil (output_frames s.output))
    ∙ ap (λ (l : List Frame). output_frames s.output ++ l) g in
    record {
      fetched_a = is.fetched_a;
      fetched_b = is.fetched_b;
      window = is.window;
      recording_a = is.recording_a;
      recording_b = is.recording_b;
      whole_a = is.whole_a;
      whole_b = is.whole_b;
      mark_a = is.mark_a;
      mark_b = is.mark_b;
      follows = subst (λ (l : List Frame). Follows (after_cut s.merger s.round_capacity) is.fetched_a is.fetched_b l) before
          (follows_cut s.merger is.fetched_a is.fetched_b (given s) s.round_capacity is.follows);
      answers = length-replicate (length (f ∷ frames)) None;
    }

-- the open round changes, whose frames and places for answers stay
round_sound : (late : ℕ) (a b : List Frame) (s : CoreState) (old new : RoundState) (workers : List Worker) → IsOf late a b s → s.round ≡ Some old
    → new.frames ≡ old.frames → length new.answers ≡ length old.answers → IsOf late a b (record s { round = Some new; workers = workers })
round_sound late a b s old new workers is e g h =
    let places : IfSome (Some old) (λ r. length r.answers ≡ length r.frames) = subst (λ (o : Option RoundState). IfSome o (λ r. length r.answers ≡ length r.frames)) e is.answers in
    record {
      fetched_a = is.fetched_a;
      fetched_b = is.fetched_b;
      window = is.window;
      recording_a = is.recording_a;
      recording_b = is.recording_b;
      whole_a = is.whole_a;
      whole_b = is.whole_b;
      mark_a = is.mark_a;
      mark_b = is.mark_b;
      follows = subst (λ (l : List Frame). Follows s.merger is.fetched_a is.fetched_b l)
          (ap (λ (o : Option RoundState). output_frames s.output ++ round_frames o) e ∙ ap (λ (l : List Frame). output_frames s.output ++ l) (sym g)) is.follows;
      answers = h ∙ places ∙ ap length (sym g);
    }

claim_frames : (r : RoundState) → (after_claim r).frames ≡ r.frames
claim_frames r = cond_both (nat_lt r.next (length r.frames)) (record r { next = r.next + 1 }) r (λ t. t.frames ≡ r.frames) (λ _. refl) (λ _. refl)

claim_answers : (r : RoundState) → (after_claim r).answers ≡ r.answers
claim_answers r = cond_both (nat_lt r.next (length r.frames)) (record r { next = r.next + 1 }) r (λ t. t.answers ≡ r.answers) (λ _. refl) (λ _. refl)

claim_sound : (round : Option RoundState) (worker : Option Worker) (w late : ℕ) (a b : List Frame) (s : CoreState) → IsOf late a b s → s.round ≡ round
    → IfSome (claim_of round worker w s) (IsOf late a b)
claim_sound (Some r) (Some Idle) w late a b s is e =
    round_sound late a b s r (after_claim r) (set s.workers w (claimed r)) is e (claim_frames r) (ap length (claim_answers r))
claim_sound (Some r) (Some (Holding number)) w late a b s is e = tt
claim_sound (Some r) (Some Through) w late a b s is e = tt
claim_sound (Some r) None w late a b s is e = tt
claim_sound None worker w late a b s is e = tt

post_at : (answer : Frame → ℕ) (r : RoundState) (number w late : ℕ) (a b : List Frame) (s : CoreState) (o : Option Frame) → IsOf late a b s → s.round ≡ Some r
    → IfSome (option_map (λ f. record s { round = Some (posted number (answer f) r); workers = set s.workers w Idle }) o) (IsOf late a b)
post_at answer r number w late a b s None is e = tt
post_at answer r number w late a b s (Some f) is e =
    round_sound late a b s r (posted number (answer f) r) (set s.workers w Idle) is e refl (length-set r.answers number (Some (answer f)))

post_sound : (answer : Frame → ℕ) (round : Option RoundState) (worker : Option Worker) (w late : ℕ) (a b : List Frame) (s : CoreState) → IsOf late a b s → s.round ≡ round
    → IfSome (post_of answer round worker w s) (IsOf late a b)
post_sound answer (Some r) (Some (Holding number)) w late a b s is e = post_at answer r number w late a b s (slice_get r.frames number) is e
post_sound answer (Some r) (Some Idle) w late a b s is e = tt
post_sound answer (Some r) (Some Through) w late a b s is e = tt
post_sound answer (Some r) None w late a b s is e = tt
post_sound answer None worker w late a b s is e = tt

answered_frames : (frames : List Frame) (answers : List (Option ℕ)) → length answers ≡ length frames → list_all is_some answers ≡ true
    → output_frames (answered frames answers) ≡ frames
answered_frames [] [] e t = refl
answered_frames [] (x ∷ answers) e t = absurd (omega arith)
answered_frames (f ∷ frames) [] e t = absurd (omega arith)
answered_frames (f ∷ frames) (None ∷ answers) e t = absurd (false≢true t)
answered_frames (f ∷ frames) (Some v ∷ answers) e t =
    (let size : length answers ≡ length frames = omega arith in ap (λ (l : List Frame). f ∷ l) (answered_frames frames answers size t))

gather_sound : (round : Option RoundState) (late : ℕ) (a b : List Frame) (s : CoreState) → IsOf late a b s → s.round ≡ round → IfSome (gather_of round s) (IsOf late a b)
gather_sound None late a b s is e = tt
gather_sound (Some r) late a b s is e =
    cond_both (is_answered r && list_all is_through s.workers) (Some (record s { round = None; output = s.output ++ answered r.frames r.answers })) None
    (λ o. IfSome o (IsOf late a b))
    (λ t. (let all = (and_parts (is_answered r) (list_all is_through s.workers) t).0 in
    let places : length r.answers ≡ length r.frames = subst (λ (o : Option RoundState). IfSome o (λ x. length x.answers ≡ length x.frames)) e is.answers in
    let same : given s ≡ output_frames (s.output ++ answered r.frames r.answers) ++ [] =
    ap (λ (o : Option RoundState). output_frames s.output ++ round_frames o) e
    ∙ ap (λ (l : List Frame). output_frames s.output ++ l) (sym (answered_frames r.frames r.answers places all))
    ∙ sym (map-append (λ (x : Answered). x.frame) s.output (answered r.frames r.answers))
    ∙ sym (append-nil (output_frames (s.output ++ answered r.frames r.answers))) in
    record {
      fetched_a = is.fetched_a;
      fetched_b = is.fetched_b;
      window = is.window;
      recording_a = is.recording_a;
      recording_b = is.recording_b;
      whole_a = is.whole_a;
      whole_b = is.whole_b;
      mark_a = is.mark_a;
      mark_b = is.mark_b;
      follows = subst (λ (l : List Frame). Follows s.merger is.fetched_a is.fetched_b l) same is.follows;
      answers = tt;
    }))
    (λ _. tt)

pub step_sound : (answer : Frame → ℕ) (e : Event) (late : ℕ) (a b : List Frame) (s : CoreState) → IsOf late a b s → IfSome (core_step answer s e) (IsOf late a b)
step_sound answer (events.Put network) late a b s is = put_sound network late a b s is
step_sound answer (events.End network) late a b s is = end_sound network late a b s is
step_sound answer (events.Fetch network) late a b s is = fetch_sound network late a b s is
step_sound answer events.Cut late a b s is = cut_sound s.round (cut_frames s.merger s.round_capacity) late a b s is refl refl
step_sound answer (events.Claim w) late a b s is = claim_sound s.round (slice_get s.workers w) w late a b s is refl
step_sound answer (events.Post w) late a b s is = post_sound answer s.round (slice_get s.workers w) w late a b s is refl
step_sound answer events.Gather late a b s is = gather_sound s.round late a b s is refl

-- ---- all that a call leaves

pub stepped : {S : Type 0} (P : S → Type 0) (o : Option S) (old new : S) (happened : Bool) → IfSome o P → P old → Steps o old happened new → P new
stepped P None old new happened h p t = subst P (sym t.1) p
stepped P (Some s) old new happened h p t = subst P (sym t.1) h

pub called : {S E : Type 0} (P : S → Type 0) (o : Option S) (old new : S) (r : Result Bool E) → IfSome o P → P old
    → IfOk r (λ happened. Steps o old happened new) → OnErr r (new ≡ old) → P new
called P o old new (Ok happened) h p t u = stepped P o old new happened h p t
called P o old new (Err x) h p t u = subst P (sym u) p

-- ---- all frames

swap_middle : (w x y z : List Frame) → IsPermutation ((w ++ x) ++ (y ++ z)) ((w ++ y) ++ (x ++ z))
swap_middle w x y z =
    let left : (w ++ x) ++ (y ++ z) ≡ w ++ ((x ++ y) ++ z) = append_assoc w x (y ++ z) ∙ ap (λ (l : List Frame). w ++ l) (sym (append_assoc x y z)) in
    let right : (w ++ y) ++ (x ++ z) ≡ w ++ ((y ++ x) ++ z) = append_assoc w y (x ++ z) ∙ ap (λ (l : List Frame). w ++ l) (sym (append_assoc y x z)) in
    subst (λ (l : List Frame). IsPermutation l ((w ++ y) ++ (x ++ z))) (sym left)
    (subst (IsPermutation (w ++ ((x ++ y) ++ z))) (sym right)
    (IsPermutation-append_right w ((x ++ y) ++ z) ((y ++ x) ++ z) (IsPermutation-append_left z (x ++ y) (y ++ x) (IsPermutation-append_comm x y))))

pub held_is : (late : ℕ) (a b : List Frame) (s : CoreState) → IsOf late a b s → IsPermutation (a ++ b) (held s)
held_is late a b s is =
    let parts : (is.fetched_a ++ coming s.a) ++ (is.fetched_b ++ coming s.b) ≡ a ++ b =
    ap (λ (l : List Frame). l ++ (is.fetched_b ++ coming s.b)) (sym is.whole_a) ∙ ap (λ (l : List Frame). a ++ l) (sym is.whole_b) in
    subst (λ (l : List Frame). IsPermutation l (held s)) parts
    (IsPermutation-trans ((is.fetched_a ++ coming s.a) ++ (is.fetched_b ++ coming s.b)) ((is.fetched_a ++ is.fetched_b) ++ (coming s.a ++ coming s.b)) (held s)
    (swap_middle is.fetched_a (coming s.a) is.fetched_b (coming s.b))
    (IsPermutation-append_left (coming s.a ++ coming s.b) (is.fetched_a ++ is.fetched_b) (given s ++ s.merger.pending) is.follows.order.frames))

pub held_stays : (late : ℕ) (a b : List Frame) (s t : CoreState) → IsOf late a b s → IsOf late a b t → IsPermutation (held s) (held t)
held_stays late a b s t is_s is_t =
    IsPermutation-trans (held s) (a ++ b) (held t) (IsPermutation-sym (a ++ b) (held s) (held_is late a b s is_s)) (held_is late a b t is_t)

-- ---- the output

pub whole_order : (late : ℕ) (a b : List Frame) (s : CoreState) → IsOf late a b s → (rest : List Frame) × IsOrder a b (given s ++ rest)
whole_order late a b s is =
    let whole = cut_comes_first s.merger late is.fetched_a is.fetched_b (given s) (coming s.a) (coming s.b) is.follows is.window
    (λ t. mark_none s.a.marked s.merger.a.ended s.a.left s.a.ring is.mark_a t) (λ t. mark_none s.b.marked s.merger.b.ended s.b.left s.b.ring is.mark_b t)
    (subst (IsRecording A late) is.whole_a is.recording_a) (subst (IsRecording B late) is.whole_b is.recording_b) in (
      whole.0,
      subst (λ (l : List Frame). IsOrder l b (given s ++ whole.0)) (sym is.whole_a)
          (subst (λ (l : List Frame). IsOrder (is.fetched_a ++ coming s.a) l (given s ++ whole.0)) (sym is.whole_b) whole.1),
    )

pub output_is_prefix : (late : ℕ) (a b : List Frame) (s : CoreState) → IsOf late a b s → OutputIsPrefix s
output_is_prefix late a b s is = λ l rising permutes.
    (let whole = whole_order late a b s is in
    let order : IsOrder a b l = record { rising = rising; frames = IsPermutation-trans (a ++ b) (held s) l (held_is late a b s is) permutes } in (
      round_frames s.round ++ whole.0,
      one_order a b l (given s ++ whole.0) order whole.1 ∙ append_assoc (output_frames s.output) (round_frames s.round) whole.0,
    ))

pub output_is_all : (late : ℕ) (a b : List Frame) (s : CoreState) → IsOf late a b s → OutputIsAll s
output_is_all late a b s is = λ done.
    (let none_a = mark_none s.a.marked s.merger.a.ended s.a.left s.a.ring is.mark_a done.a_ended in
    let none_b = mark_none s.b.marked s.merger.b.ended s.b.left s.b.ring is.mark_b done.b_ended in
    let out : given s ≡ output_frames s.output = ap (λ (o : Option RoundState). output_frames s.output ++ round_frames o) done.no_round ∙ append-nil (output_frames s.output) in
    let order = follows_order s.merger is.fetched_a is.fetched_b (given s) is.follows done.none_pending in
    let all : held s ≡ output_frames s.output =
    ap (λ (l : List Frame). (given s ++ l) ++ (coming s.a ++ coming s.b)) done.none_pending
    ∙ ap (λ (l : List Frame). l ++ (coming s.a ++ coming s.b)) (append-nil (given s) ∙ out)
    ∙ ap (λ (l : List Frame). output_frames s.output ++ (l ++ coming s.b)) none_a
    ∙ ap (λ (l : List Frame). output_frames s.output ++ l) none_b
    ∙ append-nil (output_frames s.output) in
    (subst IsRising out order.rising, subst (IsPermutation (held s)) all (IsPermutation-refl (held s))))

-- ---- answers

-- a step that leaves output and round leaves the answers
answers_same : (answer : Frame → ℕ) (s t : CoreState) → t.output ≡ s.output → t.round ≡ s.round → AnswersAre answer s → AnswersAre answer t
answers_same answer s t e g h = record {
  output = subst (AllByRecursion (λ x. x.answer ≡ answer x.frame)) (sym e) h.output;
  round = subst (λ (o : Option RoundState). IfSome o (λ r. RoundAnswers answer r.frames r.answers)) (sym g) h.round;
}

side_answers : (network : Network) (answer : Frame → ℕ) (s : CoreState) (o : Option SideState) → AnswersAre answer s → IfSome (option_map (with_side s network) o) (AnswersAre answer)
side_answers A answer s None h = tt
side_answers A answer s (Some side) h = answers_same answer s (record s { a = side }) refl refl h
side_answers B answer s None h = tt
side_answers B answer s (Some side) h = answers_same answer s (record s { b = side }) refl refl h

fetch_answers : (network : Network) (answer : Frame → ℕ) (s : CoreState) (o : Option (SideState × MergerState)) → AnswersAre answer s
    → IfSome (option_map (λ p. record (with_side s network p.0) { merger = p.1 }) o) (AnswersAre answer)
fetch_answers A answer s None h = tt
fetch_answers A answer s (Some p) h = answers_same answer s (record s { a = p.0; merger = p.1 }) refl refl h
fetch_answers B answer s None h = tt
fetch_answers B answer s (Some p) h = answers_same answer s (record s { b = p.0; merger = p.1 }) refl refl h

no_answers_yet : (answer : Frame → ℕ) (frames : List Frame) → RoundAnswers answer frames (replicate (length frames) None)
no_answers_yet answer [] = tt
no_answers_yet answer (f ∷ frames) = no_answers_yet answer frames

cut_answers : (answer : Frame → ℕ) (round : Option RoundState) (frames : List Frame) (s : CoreState) → AnswersAre answer s → IfSome (cut_of round frames s) (AnswersAre answer)
cut_answers answer (Some r) frames s h = tt
cut_answers answer None [] s h = tt
cut_answers answer None (f ∷ frames) s h = record { output = h.output; round = no_answers_yet answer (f ∷ frames) }

round_of : (answer : Frame → ℕ) (s : CoreState) (r : RoundState) → AnswersAre answer s → s.round ≡ Some r → RoundAnswers answer r.frames r.answers
round_of answer s r h e = subst (λ (o : Option RoundState). IfSome o (λ x. RoundAnswers answer x.frames x.answers)) e h.round

claim_keeps : (answer : Frame → ℕ) (round : Option RoundState) (worker : Option Worker) (w : ℕ) (s : CoreState) → AnswersAre answer s → s.round ≡ round
    → IfSome (claim_of round worker w s) (AnswersAre answer)
claim_keeps answer (Some r) (Some Idle) w s h e = record {
  output = h.output;
  round = subst (λ (l : List Frame). RoundAnswers answer l (after_claim r).answers) (sym (claim_frames r))
      (subst (RoundAnswers answer r.frames) (sym (claim_answers r)) (round_of answer s r h e));
}
claim_keeps answer (Some r) (Some (Holding number)) w s h e = tt
claim_keeps answer (Some r) (Some Through) w s h e = tt
claim_keeps answer (Some r) None w s h e = tt
claim_keeps answer None worker w s h e = tt

rest_answers : (answer : Frame → ℕ) (f : Frame) (frames : List Frame) (x : Option ℕ) (answers : List (Option ℕ)) → RoundAnswers answer (f ∷ frames) (x ∷ answers)
    → RoundAnswers answer frames answers
rest_answers answer f frames None answers h = h
rest_answers answer f frames (Some v) answers h = h.1

set_answer : (answer : Frame → ℕ) (frames : List Frame) (answers : List (Option ℕ)) (number : ℕ) (g : Frame) → slice_get frames number ≡ Some g
    → RoundAnswers answer frames answers → RoundAnswers answer frames (set answers number (Some (answer g)))
set_answer answer [] answers number g e h = cc
set_answer answer (f ∷ frames) [] number g e h = tt
set_answer answer (f ∷ frames) (x ∷ answers) zero g e h = (let same : f ≡ g = cc in ap answer (sym same), rest_answers answer f frames x answers h)
set_answer answer (f ∷ frames) (None ∷ answers) (suc number) g e h = set_answer answer frames answers number g e h
set_answer answer (f ∷ frames) (Some v ∷ answers) (suc number) g e h = (h.0, set_answer answer frames answers number g e h.1)

post_keeps_at : (answer : Frame → ℕ) (r : RoundState) (number w : ℕ) (s : CoreState) (o : Option Frame) → slice_get r.frames number ≡ o → AnswersAre answer s → s.round ≡ Some r
    → IfSome (option_map (λ f. record s { round = Some (posted number (answer f) r); workers = set s.workers w Idle }) o) (AnswersAre answer)
post_keeps_at answer r number w s None at h e = tt
post_keeps_at answer r number w s (Some f) at h e =
    record { output = h.output; round = set_answer answer r.frames r.answers number f at (round_of answer s r h e) }

post_keeps : (answer : Frame → ℕ) (round : Option RoundState) (worker : Option Worker) (w : ℕ) (s : CoreState) → AnswersAre answer s → s.round ≡ round
    → IfSome (post_of answer round worker w s) (AnswersAre answer)
post_keeps answer (Some r) (Some (Holding number)) w s h e = post_keeps_at answer r number w s (slice_get r.frames number) refl h e
post_keeps answer (Some r) (Some Idle) w s h e = tt
post_keeps answer (Some r) (Some Through) w s h e = tt
post_keeps answer (Some r) None w s h e = tt
post_keeps answer None worker w s h e = tt

answered_right : (answer : Frame → ℕ) (frames : List Frame) (answers : List (Option ℕ)) → RoundAnswers answer frames answers
    → AllByRecursion (λ x. x.answer ≡ answer x.frame) (answered frames answers)
answered_right answer [] answers h = tt
answered_right answer (f ∷ frames) [] h = tt
answered_right answer (f ∷ frames) (None ∷ answers) h = tt
answered_right answer (f ∷ frames) (Some v ∷ answers) h = (h.0, answered_right answer frames answers h.1)

gather_keeps : (answer : Frame → ℕ) (round : Option RoundState) (s : CoreState) → AnswersAre answer s → s.round ≡ round → IfSome (gather_of round s) (AnswersAre answer)
gather_keeps answer None s h e = tt
gather_keeps answer (Some r) s h e =
    cond_both (is_answered r && list_all is_through s.workers) (Some (record s { round = None; output = s.output ++ answered r.frames r.answers })) None
    (λ o. IfSome o (AnswersAre answer))
    (λ _. record {
      output = each_append (λ x. x.answer ≡ answer x.frame) s.output (answered r.frames r.answers) h.output (answered_right answer r.frames r.answers (round_of answer s r h e));
      round = tt;
    })
    (λ _. tt)

pub step_answers : (answer : Frame → ℕ) (e : Event) (s : CoreState) → AnswersAre answer s → IfSome (core_step answer s e) (AnswersAre answer)
step_answers answer (events.Put network) s h = side_answers network answer s (put_step (side_of s network)) h
step_answers answer (events.End network) s h = side_answers network answer s (end_step (side_of s network)) h
step_answers answer (events.Fetch network) s h = fetch_answers network answer s (fetch_step network (side_of s network) s.merger) h
step_answers answer events.Cut s h = cut_answers answer s.round (cut_frames s.merger s.round_capacity) s h
step_answers answer (events.Claim w) s h = claim_keeps answer s.round (slice_get s.workers w) w s h refl
step_answers answer (events.Post w) s h = post_keeps answer s.round (slice_get s.workers w) w s h refl
step_answers answer events.Gather s h = gather_keeps answer s.round s h refl

-- ---- lists of events

next_state : {S : Type 0} (P : S → Type 0) (o : Option S) (s : S) → IfSome o P → P s → P (unwrap_or o s)
next_state P None s h p = p
next_state P (Some t) s h p = h

pub run_sound : (answer : Frame → ℕ) (late : ℕ) (a b : List Frame) (s : CoreState) (events : List Event) → IsOf late a b s → IsOf late a b (core_run answer s events)
run_sound answer late a b s [] is = is
run_sound answer late a b s (e ∷ events) is =
    run_sound answer late a b (unwrap_or (core_step answer s e) s) events
    (next_state (IsOf late a b) (core_step answer s e) s (step_sound answer e late a b s is) is)

pub run_answers : (answer : Frame → ℕ) (s : CoreState) (events : List Event) → AnswersAre answer s → AnswersAre answer (core_run answer s events)
run_answers answer s [] h = h
run_answers answer s (e ∷ events) h =
    run_answers answer (unwrap_or (core_step answer s e) s) events (next_state (AnswersAre answer) (core_step answer s e) s (step_answers answer e s h) h)
