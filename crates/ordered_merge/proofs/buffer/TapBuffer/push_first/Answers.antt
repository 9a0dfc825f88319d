use Rattle.frame_batch.specs.Batch.{batch_frames}
use Rattle.ordered_merge.proofs.Buffers.{numbered_first}
use Rattle.ordered_merge.proofs.buffer.TapBuffer.push_first.Goals as goal

pub push-requires : goal.push-requires
push-requires c = numbered_first c.args.self.now.tap.next (batch_frames c.args.batch.now) c.in_ok-frame.frame c.requires c.in_ok-frame.ensures
