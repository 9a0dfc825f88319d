use Rattle.std.proofs.Common.{◌≡◌}
use Rattle.frame_batch.specs.Round.{draft_frames}
use Rattle.frame_batch.proofs.round.Round.from_frames.Given as goal

abbrev pub invariant-loop-frame : goal.invariant-loop-frame
invariant-loop-frame l = draft_frames l.draft ≡ l.yielded
