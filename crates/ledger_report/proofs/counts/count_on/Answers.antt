-- The line passes the test of its network, or the counts stay.
use Rattle.std.proofs.Common.{◌∙◌, ap, refl, sym}
use Rattle.std.specs.List.{filter}
use Rattle.verdict_ledger.specs.Tally.{totals_of}
use Rattle.ledger_report.specs.Counts.{entries_of, entry_of, is_on}
use Rattle.ledger_report.proofs.Tallies.{entries_more, few_entries, few_that_pass, others_stay, own_moves}
use Rattle.ledger_report.proofs.counts.count_on.Goals as goal

pub returns-then-is_on : goal.returns-then-is_on
returns-then-is_on c = λ lines few same.
    let line = c.args.line.now in
    let on = filter (is_on c.args.network) lines in
    c.count.ensures (entries_of on) (entry_of line) (few_entries on (few_that_pass (is_on c.args.network) lines few)) refl refl refl same
    ∙ ap totals_of (sym (entries_more on line))
    ∙ sym (own_moves (is_on c.args.network) lines line (sym c.is_on.ensures ∙ c.if-is_on.true))

pub returns-else-is_on : goal.returns-else-is_on
returns-else-is_on c = λ lines few same.
    same ∙ sym (others_stay (is_on c.args.network) lines c.args.line.now (sym c.is_on.ensures ∙ c.if-is_on.false))
