use Rattle.pcap_io.proofs.Bytes.{read_known}
use Rattle.pcap_io.proofs.read_source.ReadSourceTapSource.read.Goals as goal

pub returns-clause-bytes : goal.returns-clause-bytes
returns-clause-bytes g c = read_known _ _ c.read.result _ c.read.new.buf c.read_answer-answer.ensures c.read.ensures.bytes
