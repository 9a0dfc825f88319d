use Rattle.capture_run.proofs.Accepted.{capture_gives_accepted}
use Rattle.capture_run.proofs.capture_laws.capture_gives_the_accepted_frames.Goals as goal

pub returns : goal.returns
returns c = capture_gives_accepted
