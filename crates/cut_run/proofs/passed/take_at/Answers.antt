use Rattle.std.proofs.Common.{sym}
use Rattle.cut_run.proofs.FinderOrder.{differs}
use Rattle.cut_run.proofs.passed.take_at.Goals as goal

pub returns-clause-taken : goal.returns-clause-taken
returns-clause-taken c =
    (c.remove.ensures.updates.1, λ q d. c.remove.ensures.updates.2 q (differs c.args.place q (λ e. d (sym e))))
