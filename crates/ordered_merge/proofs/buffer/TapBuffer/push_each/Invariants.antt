-- Some first frames were moved.
use Rattle.std.proofs.Common.{◌≡◌, ◌++◌, List, length}
use Rattle.afdx_frame.specs.Frame.{Frame}
use Rattle.frame_batch.specs.Batch.{batch_frames}
use Rattle.ordered_merge.specs.Buffer.{AreNumbered, pushed_all}
use Rattle.ordered_merge.proofs.buffer.TapBuffer.push_each.Given as goal

abbrev pub invariant-loop-self : goal.invariant-loop-self
invariant-loop-self l = record {
  moved : List Frame;
  all : batch_frames l.fn.batch ≡ moved ++ batch_frames l.batch;
  is : l.self ≡ pushed_all l.fn.self moved;
  numbered : AreNumbered l.self.tap.next (batch_frames l.batch);
}

abbrev pub decreases-loop-self : goal.decreases-loop-self
decreases-loop-self l = length l.batch.left
