use Rattle.ledger_report.proofs.counts_lines.CountsLines.take.Goals as goal

pub returns-in-Total-clause-right : goal.returns-in-Total-clause-right
returns-in-Total-clause-right c = λ lines are. rw c.in-Total.is (c.take_total.ensures.right c.args.config.now lines are)
