use Rattle.std.proofs.Common.{◌≡◌, drop}
use Rattle.frame_batch.specs.Queue.{queue_frames}
use Rattle.frame_batch.proofs.queue.FrameQueue.skip.Given as goal

abbrev pub invariant-loop-left : goal.invariant-loop-left
invariant-loop-left l = drop l.left (queue_frames l.self-inside.batches.items) ≡ drop l.count l.fn.self

abbrev pub decreases-loop-left : goal.decreases-loop-left
decreases-loop-left l = l.left
