use Rattle.pcapng.proofs.Reading.{read_file}
use Rattle.pcapng.proofs.laws.file_is_read.Goals as goal

pub returns : goal.returns
returns c = read_file
