use Rattle.std.proofs.Common.{◌≡◌, ◌+◌, ◌≤◌, length, vec_capacity}
use Rattle.bpf_debugger.specs.Walking.{IsOn, position_of}
use Rattle.bpf_debugger.proofs.walk.Walk.forward.Given as goal

abbrev pub invariant-loop-left : goal.invariant-loop-left
invariant-loop-left l =
    IsOn l.program l.frame l.self × (position_of l.self + l.left ≡ position_of l.fn.self + l.count) × (length l.program ≤ vec_capacity l.self.undos)

abbrev pub decreases-loop-left : goal.decreases-loop-left
decreases-loop-left l = l.left
