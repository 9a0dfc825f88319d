use Rattle.recording_files.proofs.Joins.{last_read, no_header_ends}
use Rattle.recording_files.proofs.laws.last_file_is_read.Goals as goal

pub returns-clause-read : goal.returns-clause-read
returns-clause-read c = last_read

pub returns-clause-no_header : goal.returns-clause-no_header
returns-clause-no_header c = no_header_ends
