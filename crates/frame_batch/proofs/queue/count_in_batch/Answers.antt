use Rattle.std.proofs.Common.{ℕ, ◌∙◌, sym, ap, ◌≡◌, min, take, length, arith}
use Rattle.std.proofs.lemmas.Bool.{le-ltb, lt-ltb}
use Rattle.std.proofs.lemmas.List.{length-map}
use Rattle.std.specs.List.{prefix_len}
use Rattle.afdx_frame.specs.declared.key.Stamp.{Stamp}
use Rattle.frame_batch.specs.Batch.{batch_frames, record_frame}
use Rattle.frame_batch.specs.Queue.{comes_below}
use Rattle.frame_batch.proofs.Queues.{frame_here, one_more_below, stops_there, take_min}
use Rattle.frame_batch.proofs.queue.count_in_batch.Goals as goal

pub returns-then-stamp-bound : goal.returns-then-stamp-bound
returns-then-stamp-bound c =
    let b = c.args.batch.now in
    let less = le-ltb c.entry.result.now.stamp.0 c.args.bound (omega (arith, ap (λ (s : Stamp). s.0) c.stamp.ensures, c.if-stamp-bound.true)) in
    sym (stops_there (comes_below c.args.bound) (batch_frames b) c.loop-index.index c.args.most (record_frame b.block c.entry.result.now) c.loop-index.invariant
    (omega (arith, c.loop-index-test.true, c.min-room.ensures)) (frame_here b c.loop-index.index c.entry.result.now c.entry.ensures.entry) less)

pub loop-index-preserved : goal.loop-index-preserved
loop-index-preserved c =
    let b = c.args.batch.now in
    let less = lt-ltb c.entry.result.now.stamp.0 c.args.bound (omega (arith, ap (λ (s : Stamp). s.0) c.stamp.ensures, c.if-stamp-bound.false)) in
    one_more_below (comes_below c.args.bound) (batch_frames b) c.loop-index.index (record_frame b.block c.entry.result.now) c.loop-index.invariant
    (frame_here b c.loop-index.index c.entry.result.now c.entry.ensures.entry) less

pub returns : goal.returns
returns c =
    let b = c.args.batch.now in
    let p = comes_below c.args.bound in
    let whole = length-map b.left (record_frame b.block) in
    let at : c.loop-index.index ≡ c.min-room.result = omega (arith, c.loop-index-test.false, c.loop-index.auto.index-end) in
    let room : c.min-room.result ≡ min c.args.most (length (batch_frames b)) = omega (arith, whole, c.min-room.ensures, c.count.ensures.count) in
    sym at ∙ sym c.loop-index.invariant ∙ ap (λ (n : ℕ). prefix_len p (take n (batch_frames b))) (at ∙ room)
    ∙ ap (prefix_len p) (take_min c.args.most (batch_frames b))
