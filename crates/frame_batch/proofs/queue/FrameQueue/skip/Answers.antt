use Rattle.std.proofs.Common.{◌∙◌, ap, arith, slice_set}
use Rattle.frame_batch.specs.Batch.{BatchState}
use Rattle.frame_batch.specs.Queue.{queue_frames}
use Rattle.frame_batch.proofs.Queues.{count_here, first_gone, first_shorter, item_here}
use Rattle.frame_batch.proofs.queue.FrameQueue.skip.Goals as goal

pub returns-then-left-first : goal.returns-then-left-first
returns-then-left-first c =
    let all = c.loop-left.self-inside.batches.items in
    let b = c.index_mut.result.now in
    let here = item_here all 0 b (omega (arith, c.if-len-gt0.true, c.len.ensures)) c.index_mut.ensures.value in
    let counted = count_here all 0 c.index.result.now (item_here all 0 c.index.result.now (omega (arith, c.if-len-gt0.true, c.len.ensures)) c.index.ensures) in
    ap (λ (b : BatchState). queue_frames (slice_set all 0 b)) c.skip.ensures
    ∙ first_shorter all b c.loop-left.left here (omega (arith, c.count-first.ensures.count, c.if-left-first.true, counted, count_here all 0 b here))
    ∙ c.loop-left.invariant

pub loop-left-preserved : goal.loop-left-preserved
loop-left-preserved c =
    let all = c.loop-left.self-inside.batches.items in
    let b = c.index.result.now in
    let here = item_here all 0 b (omega (arith, c.if-len-gt0.true, c.len.ensures)) c.index.ensures in
    rw (c.pop_front.ensures.rest, c.count-first.ensures.count)
    (first_gone all b c.loop-left.left here (omega (arith, c.count-first.ensures.count, c.if-left-first.false)) ∙ c.loop-left.invariant)
