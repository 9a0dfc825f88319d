use Rattle.pcapng.proofs.Stepping.{whole_capture}
use Rattle.pcapng.proofs.written.capture_is_stepped_over.Goals as goal

pub returns : goal.returns
returns c = whole_capture
