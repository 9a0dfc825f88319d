use Rattle.std.proofs.Common.{◌∙◌, refl, sym}
use Rattle.std.proofs.lemmas.Bool.{true≢false}
use Rattle.std.proofs.lemmas.Bool.Decides.{Decides-eqb}
use Rattle.std.proofs.lemmas.Slice.Eq.{slice_eq-Decides}
use Rattle.ledger_report.proofs.TakeSteps.{unlike}
use Rattle.ledger_report.proofs.counts_lines.CountsLines.compare.Goals as goal

pub returns-else-eq-clause-differs : goal.returns-else-eq-clause-differs
returns-else-eq-clause-differs c = (
  refl,
  unlike c.args.self.now.text.items c.in-Some.text.now c.args.line.now (sym c.deref.ensures.value ∙ c.in-Some.ensures)
      (λ same. true≢false (sym ((slice_eq-Decides Decides-eqb c.in-Some.text.now c.args.line.now c.eq.result c.eq.ensures).1 same) ∙ c.if-eq.false)),
)
