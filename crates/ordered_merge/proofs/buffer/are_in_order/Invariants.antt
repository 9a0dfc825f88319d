use Rattle.std.proofs.Common.{◌≡◌, ◌-◌, ◌<◌, ◌^◌, Some, slice_get, take}
use Rattle.std.specs.List.{AllByRecursion}
use Rattle.frame_batch.specs.Batch.{batch_frames}
use Rattle.ordered_merge.specs.Buffer.{AreInOrder}
use Rattle.ordered_merge.proofs.buffer.are_in_order.Given as goal

abbrev pub invariant-loop-index : goal.invariant-loop-index
invariant-loop-index l = record {
  order : AreInOrder (take l.index (batch_frames l.fn.batch));
  fit : AllByRecursion (λ f. f.stamp < 2 ^ 63) (take l.index (batch_frames l.fn.batch));
  before : slice_get (batch_frames l.fn.batch) (l.index - 1) ≡ Some l.last;
}
