use Rattle.transit_run.proofs.Partners.{alike_same}
use Rattle.transit_run.proofs.pass.Pass.write_next.Goals as goal

pub returns-in-None-None-clause-alike : goal.returns-in-None-None-clause-alike
returns-in-None-None-clause-alike c = alike_same c.args.self.now c.args.now
