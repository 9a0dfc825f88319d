use Rattle.watch_run.proofs.ReadBack.Written.{written}
use Rattle.watch_run.proofs.laws.written_ledger_is_read.Goals as goal

pub returns : goal.returns
returns c = written
