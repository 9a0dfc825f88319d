use Rattle.pcap_io.proofs.NextFiles.{told}
use Rattle.pcap_io.proofs.laws.file_header_is_told.Goals as goal

pub returns : goal.returns
returns c = λ file layout late high. told file.order file.precision layout.order layout.precision late high
