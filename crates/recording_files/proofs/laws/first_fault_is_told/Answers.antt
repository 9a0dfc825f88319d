use Rattle.recording_files.proofs.Joins.{told_fault}
use Rattle.recording_files.proofs.laws.first_fault_is_told.Goals as goal

pub returns-clause-fault : goal.returns-clause-fault
returns-clause-fault c = told_fault
