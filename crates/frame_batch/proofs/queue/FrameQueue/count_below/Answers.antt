use Rattle.std.proofs.Common.{◌-◌, List, take, ap, ◌∙◌, arith}
use Rattle.std.specs.List.{prefix_len}
use Rattle.afdx_frame.specs.Frame.{Frame}
use Rattle.frame_batch.specs.Batch.{batch_frames}
use Rattle.frame_batch.specs.Queue.{comes_below}
use Rattle.frame_batch.proofs.Queues.{ends_here, few_below, goes_on, item_here}
use Rattle.frame_batch.proofs.queue.FrameQueue.count_below.Goals as goal

pub overflow_add-count : goal.overflow_add-count
overflow_add-count c =
    omega (arith, c.count_in_batch-more.ensures, few_below (comes_below c.args.bound) (c.args.most - c.loop-index.count) (batch_frames c.index-batch.result.now), c.loop-index.invariant.few, c.ranges.most.fits)

pub returns-then-more-count : goal.returns-then-more-count
returns-then-more-count c =
    let all = c.self.inside.batches.items in
    let here = item_here all c.loop-index.index c.index-batch.result.now (omega (arith, c.loop-index-test.true, c.len-index-end.ensures)) c.index-batch.ensures in
    ends_here all c.loop-index.index c.args.bound c.args.most c.loop-index.count c.count_in_batch-more.result c.index-batch.result.now here
    c.loop-index.invariant.count c.loop-index.invariant.all c.loop-index.invariant.few c.count_in_batch-more.ensures (omega (arith, c.if-more-count.true, c.count.ensures.count))
    ∙ ap (λ (l : List Frame). prefix_len (comes_below c.args.bound) (take c.args.most l)) c.self.view_is

pub loop-index-preserved : goal.loop-index-preserved
loop-index-preserved c =
    let all = c.self.inside.batches.items in
    let here = item_here all c.loop-index.index c.index-batch.result.now (omega (arith, c.loop-index-test.true, c.len-index-end.ensures)) c.index-batch.ensures in
    let next = goes_on all c.loop-index.index c.args.bound c.args.most c.loop-index.count c.count_in_batch-more.result c.index-batch.result.now here
    c.loop-index.invariant.count c.loop-index.invariant.all c.loop-index.invariant.few c.count_in_batch-more.ensures (omega (arith, c.if-more-count.false, c.count.ensures.count)) in
    record { count = next.size; all = next.all; few = next.few }
