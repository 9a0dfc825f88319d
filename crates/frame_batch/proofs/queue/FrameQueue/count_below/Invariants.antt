use Rattle.std.proofs.Common.{◌≡◌, ◌≤◌, length, take}
use Rattle.std.specs.List.{prefix_len}
use Rattle.frame_batch.specs.Queue.{comes_below, queue_frames}
use Rattle.frame_batch.proofs.queue.FrameQueue.count_below.Given as goal

abbrev pub invariant-loop-index : goal.invariant-loop-index
invariant-loop-index l = record {
  count : l.count ≡ length (queue_frames (take l.index l.self-inside.batches.items));
  all : prefix_len (comes_below l.bound) (queue_frames (take l.index l.self-inside.batches.items)) ≡ l.count;
  few : l.count ≤ l.most;
}
