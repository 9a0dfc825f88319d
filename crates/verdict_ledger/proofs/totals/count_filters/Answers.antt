use Rattle.std.proofs.Common.{sym, ◌∙◌}
use Rattle.verdict_ledger.proofs.Counting.{filters_stay}
use Rattle.verdict_ledger.proofs.totals.count_filters.Goals as goal

pub returns-then-mask-eq0 : goal.returns-then-mask-eq0
returns-then-mask-eq0 c = λ entries e few masked same. same ∙ filters_stay entries e (sym masked ∙ c.if-mask-eq0.true)
