use Rattle.verdict_ledger.proofs.Columns.{links_add_up, totals_add_up}
use Rattle.verdict_ledger.proofs.laws.counts_add_up.Goals as goal

pub returns-clause-totals : goal.returns-clause-totals
returns-clause-totals c = totals_add_up

pub returns-clause-links : goal.returns-clause-links
returns-clause-links c = links_add_up
