use Rattle.std.proofs.Common.{subst}
use Rattle.specified.specs.Events.Sound.{OutputIsAll, OutputIsPrefix}
use Rattle.specified.proofs.Events.Soundness.{output_is_all, output_is_prefix}
use Rattle.specified.proofs.model.engine.Core.output.Goals as goal

pub returns-clause-prefix : goal.returns-clause-prefix
returns-clause-prefix c =
    let is = c.self.invariant in subst OutputIsPrefix c.self.view_is (output_is_prefix is.0 is.1 is.2 c.self.inside.parts is.3)

pub returns-clause-all : goal.returns-clause-all
returns-clause-all c =
    let is = c.self.invariant in subst OutputIsAll c.self.view_is (output_is_all is.0 is.1 is.2 c.self.inside.parts is.3)
