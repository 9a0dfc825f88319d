use Rattle.std.proofs.Common.{◌≡◌, ◌-◌, List}
use Rattle.afdx_frame.specs.Frame.{Frame}
use Rattle.bpf_isa.specs.declared.packed.Packed.{Packed}
use Rattle.bpf_debugger.specs.Walking.{IsOn, position_of}
use Rattle.bpf_debugger.proofs.walk.Walk.back.Given as goal

abbrev pub invariant-loop-left : goal.invariant-loop-left
invariant-loop-left l =
    ((p : List Packed) (frame : Frame) → IsOn p frame l.fn.self → IsOn p frame l.self) × (position_of l.self - l.left ≡ position_of l.fn.self - l.count)

abbrev pub decreases-loop-left : goal.decreases-loop-left
decreases-loop-left l = l.left
