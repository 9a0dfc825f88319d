use Rattle.ledger_report.proofs.TapSteps.{after_words}
use Rattle.ledger_report.proofs.counts_lines.after.Goals as goal

pub returns : goal.returns
returns c = after_words c.args.line.now c.args.words.now c.strip_prefix.result (rw c.as_bytes.ensures.value at c.strip_prefix.ensures.cases)
