use Rattle.std.proofs.Common.{List, slice_get, sym, ap, ◌∙◌, arith}
use Rattle.afdx_frame.specs.Frame.{Frame}
use Rattle.frame_batch.proofs.Queues.{front_of, item_here}
use Rattle.frame_batch.proofs.queue.FrameQueue.front.Goals as goal

pub returns-in_default : goal.returns-in_default
returns-in_default c =
    sym (front_of c.self.inside.batches.items c.index.result.now _ (item_here c.self.inside.batches.items 0 c.index.result.now (omega arith) c.index.ensures) c.first.ensures)
    ∙ ap (λ (l : List Frame). slice_get l 0) c.self.view_is
