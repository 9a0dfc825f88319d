use Rattle.std.proofs.Common.{◌≡◌, ◌++◌, ◌∷◌, [], length, sym, ap, ◌∙◌, inr, List, subst, arith}
use Rattle.std.proofs.lemmas.Bool.{not-false, not-true, false≢true}
use Rattle.tap_queue.specs.Batches.{rest_items, taken_of}
use Rattle.tap_queue.specs.Ring.{taken_items}
use Rattle.rtrb.specs.Ring.{received}
use Rattle.afdx_frame.specs.Frame.{Frame}
use Rattle.tap_queue.specs.Items.{Follows, frames_in, high_of, is_over}
use Rattle.tap_queue.specs.declared.item.TapItem.{TapItem}
use Rattle.tap_queue.specs.declared.item.TapItem.TheVariants.{Frame as frame}
use Rattle.tap_queue.specs.declared.end.TapEnd.{TapEnd}
use Rattle.tap_queue.specs.declared.next_frame.NextFrame.{NextFrame}
use Rattle.tap_queue.proofs.Given.{over_more}
use Rattle.tap_queue.proofs.Taken.{count_more, frames_last, high_with, last_follows, last_from, frame_follows, frame_refused}
use Rattle.tap_queue.proofs.end.TapEnd.take.Goals as goal
use Rattle.tap_queue.proofs.end.TapEnd.take.Goals.{in-Frame, in-End}

pub invariant_of-self-in-Frame-1 : goal.invariant_of-self-in-Frame-1
invariant_of-self-in-Frame-1 g c =
    let before = taken_items c.args.self.now in
    let (going, unended) = c.is_going.ensures.0 c.if-not-is_going.false in
    let taken : taken_of (received c.next_item.new.consumer) (rest_items c.next_item.new.rest) ≡ before ++ frame c.in-Frame.frame ∷ [] =
    c.in-Some.ensures.taken ∙ ap (λ (item : TapItem). before ++ item ∷ []) c.in-Frame.is in
    let kept = c.pass.ensures.passed in
    record {
      bounded = λ passed. c.pass.ensures.bounded (not-false c.pass.result passed);
      counted = λ passed. (
          let now = ap (λ (n : NextFrame). n.number) (kept (not-false c.pass.result passed)) in
          let all = ap (λ (items : List TapItem). length (frames_in items)) taken ∙ count_more before c.in-Frame.frame in
          let old = c.args.self.now.counted going in
          omega (arith, now, all, old));
      highest = λ passed. (
          let now = ap (λ (n : NextFrame). n.high) (kept (not-false c.pass.result passed)) in
          let all = ap (λ (items : List TapItem). high_of (frames_in items)) taken ∙ high_with before c.in-Frame.frame in
          let old = c.args.self.now.highest going in
          let same = ap (λ (f : Frame). f.stamp) c.lent.ensures in
          omega (arith, now, all, old, same));
      ended = λ _. c.args.self.now.ended going ∙ (unended ∙ sym (ap is_over taken ∙ over_more before (frame c.in-Frame.frame) unended));
      kept = c.next_item.ensures.kept;
    }

pub invariant_of-self-in-End : goal.invariant_of-self-in-End
invariant_of-self-in-End g c =
    let before = taken_items c.args.self.now in
    let unended = (c.is_going.ensures.0 c.if-not-is_going.false).1 in
    let last = last_from c.in-Some.item c.in-End.is in
    let taken = c.in-Some.ensures.taken in
    let frames = ap frames_in taken ∙ frames_last before c.in-Some.item last in
    record {
      bounded = c.args.self.now.bounded;
      counted = λ going. c.args.self.now.counted going ∙ ap length (sym frames);
      highest = λ going. c.args.self.now.highest going ∙ ap high_of (sym frames);
      ended = λ going. sym (ap is_over taken ∙ (over_more before c.in-Some.item unended ∙ last));
      kept = c.next_item.ensures.kept;
    }

pub returns-clause-next : goal.returns-clause-next
returns-clause-next g c =
    let place = c.args.self.now.next in
    let before = taken_items c.args.self.now in
    let (going, unended) = c.is_going.ensures.0 c.if-not-is_going.false in
    elim c.match-item.branch [
      | in-Frame w ↦
          (let passed = not-false w.pass.result (sym (ap (λ (e : TapEnd). e.lost) w.self-is) ∙ c.if-self.false) in
          frame_follows place.network place.late place.number place.high before w.in-Frame.frame c.in-Some.item w.in-Frame.is unended (c.args.self.now.counted going)
          (c.args.self.now.highest going)
          (subst (Follows place.network place.late place.number place.high) w.lent.ensures (w.pass.ensures.next.0 passed)))
      | in-End w ↦ last_follows place.network place.late before c.in-Some.item (last_from c.in-Some.item w.in-End.is) unended
    ]

pub returns-then-self-clause-loss : goal.returns-then-self-clause-loss
returns-then-self-clause-loss g c going unended =
    let place = c.args.self.now.next in
    let before = taken_items c.args.self.now in
    elim c.match-item.branch [
      | in-Frame w ↦
          inr (
            c.in-Some.item,
            ap taken_items w.self-is ∙ c.in-Some.ensures.taken,
            frame_refused place.network place.late place.number place.high before w.in-Frame.frame c.in-Some.item w.in-Frame.is (c.args.self.now.counted going)
                (c.args.self.now.highest going)
                (λ follows. false≢true (sym (not-true w.pass.result (sym (ap (λ (e : TapEnd). e.lost) w.self-is) ∙ c.if-self.true)) ∙ w.pass.ensures.next.1 (subst (Follows place.network place.late place.number place.high) (sym w.lent.ensures) follows))),
          )
      | in-End w ↦ absurd (false≢true (sym going ∙ (sym (ap (λ (e : TapEnd). e.lost) w.self-is) ∙ c.if-self.true)))
    ]
