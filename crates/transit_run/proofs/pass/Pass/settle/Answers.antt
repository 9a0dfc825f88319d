use Rattle.std.proofs.Common.{refl}
use Rattle.transit_run.proofs.Partners.{settled}
use Rattle.transit_run.proofs.Waiting.{on_ok}
use Rattle.transit_run.proofs.pass.Pass.settle.Goals as goal

pub returns-clause-alike : goal.returns-clause-alike
returns-clause-alike c =
    on_ok c.write.result _ _
    (λ t. settled c.args.self.now _ c.write.new.self c.args.now refl c.in_ok-settle.ensures.settles c.in_ok-settle.ensures.done t) c.write.ensures.alike
