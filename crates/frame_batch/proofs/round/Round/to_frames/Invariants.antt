use Rattle.std.proofs.Common.{◌≡◌, take}
use Rattle.frame_batch.proofs.round.Round.to_frames.Given as goal

abbrev pub invariant-loop-index : goal.invariant-loop-index
invariant-loop-index l = l.frames.items ≡ take l.index l.fn.self
