use Rattle.pcapng.proofs.Frames.{capture_read, network_read}
use Rattle.pcapng.proofs.read_back.written_capture_is_read.Goals as goal

pub returns-clause-one : goal.returns-clause-one
returns-clause-one c = capture_read

pub returns-clause-networks : goal.returns-clause-networks
returns-clause-networks c = network_read
