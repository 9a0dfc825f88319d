use Rattle.pcapng.proofs.Reading.{reads_first}
use Rattle.pcapng.proofs.laws.block_is_read_first.Goals as goal

pub returns : goal.returns
returns c = reads_first
