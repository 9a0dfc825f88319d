use Rattle.std.proofs.Common.{take}
use Rattle.vl_judge.specs.Lanes.{AllNew}
use Rattle.vl_judge.proofs.lanes.make_lanes.Given as goal

abbrev pub invariant-loop-link : goal.invariant-loop-link
invariant-loop-link l = AllNew l.lanes.items (take l.link-index l.links)
