use Rattle.watch_run.proofs.ReadBack.OneReading.{first_lines}
use Rattle.watch_run.proofs.laws.reads_first_lines.Goals as goal

pub returns : goal.returns
returns c = first_lines
