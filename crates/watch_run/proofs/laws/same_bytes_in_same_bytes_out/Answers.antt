use Rattle.watch_run.proofs.SameBytes.{same_bytes_out}
use Rattle.watch_run.proofs.laws.same_bytes_in_same_bytes_out.Goals as goal

pub returns : goal.returns
returns c = same_bytes_out
