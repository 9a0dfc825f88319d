use Rattle.std.proofs.Common.{◌≡◌, take}
use Rattle.std.specs.List.{prefix_len}
use Rattle.frame_batch.specs.Batch.{batch_frames}
use Rattle.frame_batch.specs.Queue.{comes_below}
use Rattle.frame_batch.proofs.queue.count_in_batch.Given as goal

abbrev pub invariant-loop-index : goal.invariant-loop-index
invariant-loop-index l = prefix_len (comes_below l.bound) (take l.index (batch_frames l.initial.batch)) ≡ l.index
