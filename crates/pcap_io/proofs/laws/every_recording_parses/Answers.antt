use Rattle.std.proofs.Common.{length, arith, le_refl}
use Rattle.pcap_io.proofs.Parse.{some_parse}
use Rattle.pcap_io.proofs.laws.every_recording_parses.Goals as goal

pub returns : goal.returns
returns c = λ layout most late told bytes fits. some_parse (length bytes) layout most late told 0 0 bytes (le_refl (length bytes)) fits (omega arith)
