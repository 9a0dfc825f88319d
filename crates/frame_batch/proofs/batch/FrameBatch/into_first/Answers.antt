use Rattle.std.proofs.Common.{Some, sym, ap, ◌∙◌}
use Rattle.frame_batch.specs.Batch.{BatchState, record_frame}
use Rattle.frame_batch.proofs.Queues.{frame_here}
use Rattle.frame_batch.proofs.batch.FrameBatch.into_first.Goals as goal

pub returns : goal.returns
returns c =
    frame_here c.args.self 0 c.entry.result.now c.entry.ensures.entry
    ∙ ap (λ (b : BatchState). Some (record_frame b.block c.entry.result.now)) (sym c.self.view_is)
    ∙ ap Some (sym c.frame.ensures)
