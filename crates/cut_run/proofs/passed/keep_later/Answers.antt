use Rattle.std.proofs.Common.{sym, ◌∙◌}
use Rattle.cut_run.proofs.Keeping.{keeps}
use Rattle.cut_run.proofs.passed.keep_later.Goals as goal

pub returns-in-Ok-clause-kept : goal.returns-in-Ok-clause-kept
returns-in-Ok-clause-kept c =
    λ _. keeps c.args.passed.now c.insert.new.self c.args.place c.of-at.result c.args.frame c.of-at.ensures (sym c.is_below.ensures ∙ c.if-not-is_below.false)
    c.in-Ok.ensures.updates
