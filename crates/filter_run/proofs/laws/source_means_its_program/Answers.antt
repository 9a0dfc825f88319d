use Rattle.filter_run.proofs.SourceRuns.{means_its_program}
use Rattle.filter_run.proofs.laws.source_means_its_program.Goals as goal

pub returns : goal.returns
returns c = means_its_program
