use Rattle.recording_files.proofs.Reading.{files_read}
use Rattle.recording_files.proofs.laws.files_are_read.Goals as goal

pub returns : goal.returns
returns c = files_read
