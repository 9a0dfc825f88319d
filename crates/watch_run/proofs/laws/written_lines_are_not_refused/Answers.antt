use Rattle.watch_run.proofs.ReadBack.OneReading.{no_end_before, none_refused}
use Rattle.watch_run.proofs.laws.written_lines_are_not_refused.Goals as goal

pub returns-clause-lines : goal.returns-clause-lines
returns-clause-lines c = none_refused

pub returns-clause-end : goal.returns-clause-end
returns-clause-end c = no_end_before
