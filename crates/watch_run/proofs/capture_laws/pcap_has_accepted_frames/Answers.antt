use Rattle.watch_run.proofs.Accepted.{accepted_frames}
use Rattle.watch_run.proofs.capture_laws.pcap_has_accepted_frames.Goals as goal

pub returns : goal.returns
returns c = accepted_frames
