use Rattle.std.proofs.Common.{◌≡◌, ◌-◌, ◌≤◌, length, vec_capacity}
use Rattle.bpf_debugger.specs.Chain.{chain_of, last_of}
use Rattle.bpf_debugger.specs.Walking.{IsOn, position_of, next_stop}
use Rattle.bpf_debugger.proofs.walk.Walk.run_on.Given as goal

abbrev pub invariant-loop-self : goal.invariant-loop-self
invariant-loop-self l =
    IsOn l.program l.frame l.self
    × (next_stop l.breakpoints (chain_of l.program l.frame) (position_of l.self) ≡ next_stop l.breakpoints (chain_of l.program l.frame) (position_of l.fn.self))
    × (length l.program ≤ vec_capacity l.self.undos)

abbrev pub decreases-loop-self : goal.decreases-loop-self
decreases-loop-self l = last_of (chain_of l.program l.frame) - position_of l.self
