use Rattle.pcapng.proofs.Reading.{told_fault, told_short}
use Rattle.pcapng.proofs.laws.header_fault_is_told.Goals as goal

pub returns-clause-wrong : goal.returns-clause-wrong
returns-clause-wrong c = told_fault

pub returns-clause-short : goal.returns-clause-short
returns-clause-short c = told_short
