use Rattle.pcap_io.proofs.Captures.{whole_capture}
use Rattle.pcap_io.proofs.laws.capture_is_read.Goals as goal

pub returns : goal.returns
returns c = whole_capture
