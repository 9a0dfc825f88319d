use Rattle.pcapng.proofs.Captures.{capture_given, network_given}
use Rattle.pcapng.proofs.read_back.written_capture_is_given.Goals as goal

pub returns-clause-one : goal.returns-clause-one
returns-clause-one c = capture_given

pub returns-clause-networks : goal.returns-clause-networks
returns-clause-networks c = network_given
