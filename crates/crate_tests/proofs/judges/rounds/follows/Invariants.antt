-- The round follows on where the frames from the index on do.
use Rattle.std.proofs.Common.{drop}
use Rattle.vl_judge.specs.Lanes.{FollowsOn}
use Rattle.crate_tests.proofs.judges.rounds.follows.Given as goal

abbrev pub invariant-loop-index : goal.invariant-loop-index
invariant-loop-index l = FollowsOn l.before (drop l.index l.round) → FollowsOn l.fn.last l.round
