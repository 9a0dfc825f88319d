-- The frames before the index passed.
use Rattle.std.proofs.Common.{◌≡◌, ◌≤◌, ◌^◌, List, length, take}
use Rattle.afdx_frame.specs.Frame.{Frame}
use Rattle.frame_batch.specs.Batch.{batch_frames}
use Rattle.tap_queue.specs.Items.{high_of}
use Rattle.tap_queue.specs.Passing.{PassesAll}
use Rattle.tap_queue.proofs.next_frame.NextFrame.pass_all.Given as goal

abbrev pub invariant-loop-index : goal.invariant-loop-index
invariant-loop-index l = record {
  passes : (before : List Frame) → l.self.number ≡ length before → l.self.high ≡ high_of before →
      PassesAll before (take l.index (batch_frames l.frames)) l.self l.next;
  bounded : l.self.number ≤ 2 ^ 32 → l.next.number ≤ 2 ^ 32;
}
