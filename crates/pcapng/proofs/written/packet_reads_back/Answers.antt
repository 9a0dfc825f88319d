use Rattle.pcapng.proofs.WrittenReading.{comment_reads_back, fields_read_back}
use Rattle.pcapng.proofs.written.packet_reads_back.Goals as goal

pub returns-clause-fields : goal.returns-clause-fields
returns-clause-fields c = fields_read_back

pub returns-clause-comment : goal.returns-clause-comment
returns-clause-comment c = comment_reads_back
