use Rattle.std.proofs.Common.{sym, ◌∙◌}
use Rattle.frame_batch.proofs.Batches.{one_frame}
use Rattle.frame_batch.proofs.batch.FrameBatch.split_first.Goals as goal

pub returns-then-count-eq1-clause-split : goal.returns-then-count-eq1-clause-split
returns-then-count-eq1-clause-split c =
    one_frame c.args.self.block c.args.self.left _ (sym c.count.ensures.count ∙ c.if-count-eq1.true) c.into_first.ensures
