use Rattle.std.proofs.Common.{◌≡◌, ◌∙◌, not, ap}
use Rattle.verdict_ledger.specs.Text.{total_line}
use Rattle.ledger_report.specs.CountsLines.{IsRightLine, taps_in}
use Rattle.ledger_report.specs.Counts.{counts_of}
use Rattle.ledger_text.specs.declared.order.Counts.TheVariants as kinds
use Rattle.ledger_report.proofs.TakeSteps.{both_told, taken_by}
use Rattle.ledger_report.proofs.counts_lines.CountsLines.take_total.Goals as goal

pub returns-clause-right : goal.returns-clause-right
returns-clause-right c = λ table lines are.
    (let made : c.push_total.new.text.items ≡ total_line c.all.result.now = rw c.requires at c.in_ok-push_total.ensures in
    taken_by (IsRightLine table lines c.args.self.now.links c.args.self.now.filters
    (taps_in c.args.self.now.endings) kinds.Total c.args.line.now) c.push_total.new.text.items c.args.line.now
    (total_line (counts_of lines)) c.compare.result c.compare.ensures.same c.compare.ensures.differs (made ∙ ap total_line (c.all.ensures lines are))
    (λ says. record { place = both_told c.args.self.now.endings (c.is_none.ensures ∙ ap not c.if-is_none.false); says = says })
    (λ right. right.says))
