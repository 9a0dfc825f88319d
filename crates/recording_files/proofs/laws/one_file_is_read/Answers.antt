use Rattle.recording_files.proofs.Endings.{file_read}
use Rattle.recording_files.proofs.laws.one_file_is_read.Goals as goal

pub returns : goal.returns
returns c = file_read
