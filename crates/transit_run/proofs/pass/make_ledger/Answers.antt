use Rattle.transit_run.proofs.Growing.{empty_still}
use Rattle.transit_run.proofs.pass.make_ledger.Goals as goal

pub loop-link-preserved : goal.loop-link-preserved
loop-link-preserved c = empty_still _ _ c.loop-link.invariant c.add_link.ensures
