use Rattle.watch_run.proofs.ReadBack.Kept.{run_read}
use Rattle.watch_run.proofs.laws.run_ledger_is_read.Goals as goal

pub returns : goal.returns
returns c = run_read
