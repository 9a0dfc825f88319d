use Rattle.std.proofs.Common.{None, refl}
use Rattle.transit_run.proofs.Partners.{settled_still}
use Rattle.transit_run.proofs.pass.Pass.finish.Goals as goal

pub returns-clause-alike : goal.returns-clause-alike
returns-clause-alike c = settled_still c.end_rows.result c.args.self.now c.settle.new.self _ None refl refl c.in_ok-settle.ensures.alike
