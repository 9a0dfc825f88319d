use Rattle.watch_run.proofs.ReadBack.Shown.{shown_lines}
use Rattle.watch_run.proofs.laws.verdicts_are_shown.Goals as goal

pub returns : goal.returns
returns c = shown_lines
