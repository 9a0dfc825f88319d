use Rattle.std.proofs.Common.{◌≡◌, ◌++◌, ◌∷◌, [], length, sym, ap, ◌∙◌, inr, List}
use Rattle.std.proofs.lemmas.Bool.{not-false, not-true, false≢true}
use Rattle.frame_batch.specs.Batch.{batch_frames}
use Rattle.tap_queue.specs.Batches.{rest_items, taken_of}
use Rattle.tap_queue.specs.Ring.{taken_items}
use Rattle.rtrb.specs.Ring.{received}
use Rattle.tap_queue.specs.Items.{frame_items, frames_in, high_of, is_over, items_of}
use Rattle.tap_queue.specs.declared.item.TapBatch.{TapBatch}
use Rattle.tap_queue.specs.declared.item.TapItem.{TapItem}
use Rattle.tap_queue.specs.declared.end.TapEnd.{TapEnd}
use Rattle.tap_queue.proofs.Given.{going_frames, over_append, over_more}
use Rattle.tap_queue.proofs.Taken.{frames_all, frames_follow, frames_last, frames_refused, last_items, last_of_follows}
use Rattle.tap_queue.proofs.end.TapEnd.take_batch.Goals as goal
use Rattle.tap_queue.proofs.end.TapEnd.take_batch.Goals.{in-Frames, in-End}

pub invariant_of-self-in-Frames-1 : goal.invariant_of-self-in-Frames-1
invariant_of-self-in-Frames-1 g c =
    let old = c.args.self.now in
    let before = taken_items old in
    let (going, unended) = c.is_going.ensures.0 c.if-not-is_going.false in
    let fs = batch_frames c.in-Frames.frames in
    let taken : taken_of (received c.next_batch.new.consumer) (rest_items c.next_batch.new.rest) ≡ before ++ frame_items fs =
    c.in-Some.ensures.taken ∙ ap (λ (t : TapBatch). before ++ items_of t) c.in-Frames.is in
    let all = ap frames_in taken ∙ frames_all before fs in
    let next = c.pass_all.ensures.next in
    record {
      bounded = λ passed. c.pass_all.ensures.bounded (not-false c.pass_all.result passed) (old.bounded going);
      counted = λ passed. (next (not-false c.pass_all.result passed) (frames_in before) (old.counted going) (old.highest going)).number ∙ ap length (sym all);
      highest = λ passed. (next (not-false c.pass_all.result passed) (frames_in before) (old.counted going) (old.highest going)).high ∙ ap high_of (sym all);
      ended = λ _. old.ended going ∙ (unended ∙ sym (ap is_over taken ∙ (over_append before (frame_items fs) unended ∙ going_frames fs)));
      kept = c.next_batch.ensures.kept;
    }

pub invariant_of-self-in-End : goal.invariant_of-self-in-End
invariant_of-self-in-End g c =
    let old = c.args.self.now in
    let before = taken_items old in
    let unended = (c.is_going.ensures.0 c.if-not-is_going.false).1 in
    let (item, is, last) = last_items c.in-Some.taken c.in-End.is in
    let taken : taken_of (received c.next_batch.new.consumer) (rest_items c.next_batch.new.rest) ≡ before ++ item ∷ [] =
    c.in-Some.ensures.taken ∙ ap (λ (l : List TapItem). before ++ l) is in
    let frames = ap frames_in taken ∙ frames_last before item last in
    record {
      bounded = old.bounded;
      counted = λ going. old.counted going ∙ ap length (sym frames);
      highest = λ going. old.highest going ∙ ap high_of (sym frames);
      ended = λ going. sym (ap is_over taken ∙ (over_more before item unended ∙ last));
      kept = c.next_batch.ensures.kept;
    }

pub returns-clause-next : goal.returns-clause-next
returns-clause-next g c =
    let old = c.args.self.now in
    let before = taken_items old in
    let (going, unended) = c.is_going.ensures.0 c.if-not-is_going.false in
    elim c.match-taken.branch [
      | in-Frames w ↦
          (let passed = not-false w.pass_all.result (sym (ap (λ (e : TapEnd). e.lost) w.self-is) ∙ c.if-self.false) in
          frames_follow old.next.network old.next.late before c.in-Some.taken w.in-Frames.frames w.in-Frames.is unended
          (w.pass_all.ensures.next passed (frames_in before) (old.counted going) (old.highest going)).next)
      | in-End w ↦ last_of_follows old.next.network old.next.late before c.in-Some.taken w.in-End.is unended
    ]

pub returns-then-self-clause-loss : goal.returns-then-self-clause-loss
returns-then-self-clause-loss g c going unended =
    let old = c.args.self.now in
    let before = taken_items old in
    elim c.match-taken.branch [
      | in-Frames w ↦
          inr (
            c.in-Some.taken,
            ap taken_items w.self-is ∙ c.in-Some.ensures.taken,
            frames_refused old.next.network old.next.late before c.in-Some.taken w.in-Frames.frames w.in-Frames.is
                (w.pass_all.ensures.refused (not-true w.pass_all.result (sym (ap (λ (e : TapEnd). e.lost) w.self-is) ∙ c.if-self.true)) (frames_in before)
                (old.counted going) (old.highest going)),
          )
      | in-End w ↦ absurd (false≢true (sym going ∙ (sym (ap (λ (e : TapEnd). e.lost) w.self-is) ∙ c.if-self.true)))
    ]
