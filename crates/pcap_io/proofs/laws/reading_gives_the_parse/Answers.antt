use Rattle.pcap_io.proofs.Parse.{reads_prefix, reads_to_end}
use Rattle.pcap_io.proofs.laws.reading_gives_the_parse.Goals as goal

pub returns-clause-all : goal.returns-clause-all
returns-clause-all c = reads_to_end

pub returns-clause-prefix : goal.returns-clause-prefix
returns-clause-prefix c = reads_prefix
