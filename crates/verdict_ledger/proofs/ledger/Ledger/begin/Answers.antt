use Rattle.verdict_ledger.specs.Text.{ledger_head}
use Rattle.verdict_ledger.proofs.Spooling.{head_some, unappended}
use Rattle.verdict_ledger.proofs.ledger.Ledger.begin.Goals as goal

pub returns-in-Err-clause-written : goal.returns-in-Err-clause-written
returns-in-Err-clause-written g c = unappended _ _ (ledger_head c.args.version) (head_some c.args.version)
