use Rattle.std.proofs.Common.{sym, ◌∙◌, refl}
use Rattle.cut_run.proofs.FinderOrder.{below, not_above, not_below, not_below_from}
use Rattle.cut_run.proofs.passed.has_below.Goals as goal

pub returns-in-Some-clause-below : goal.returns-in-Some-clause-below
returns-in-Some-clause-below c =
    λ e. (c.in-Some.first.now, rw c.in-Some.ensures.value refl, below c.in-Some.first.now c.args.place (sym c.is_below.ensures ∙ e))

pub returns-in-Some-clause-none : goal.returns-in-Some-clause-none
returns-in-Some-clause-none c =
    λ e q some. not_below_from c.in-Some.first.now q c.args.place (not_below c.in-Some.first.now c.args.place (sym c.is_below.ensures ∙ e))
    (not_above c.in-Some.first.now q (c.in-Some.ensures.least q some))
