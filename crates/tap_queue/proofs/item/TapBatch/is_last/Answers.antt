use Rattle.std.proofs.Common.{ap, sym, ◌∙◌}
use Rattle.frame_batch.specs.Batch.{batch_frames}
use Rattle.tap_queue.specs.Items.{is_over, items_of}
use Rattle.tap_queue.specs.declared.item.TapBatch.{TapBatch}
use Rattle.tap_queue.proofs.Given.{going_frames}
use Rattle.tap_queue.proofs.item.TapBatch.is_last.Goals as goal

pub returns-in-Frames : goal.returns-in-Frames
returns-in-Frames c = sym (ap (λ (b : TapBatch). is_over (items_of b)) c.in-Frames.is ∙ going_frames (batch_frames c.in-Frames.field-0))
