-- Where a walk stands, and where the commands lead from there.
use Rattle.std.specs.Prelude.{ℕ, ℤ, pos, negsuc, ◌+◌, ◌-◌, Bool, false, List, length, drop, min, slice_index_or}
use Rattle.std.specs.List.{position_or_len}
use Rattle.afdx_frame.specs.Frame.{Frame}
use Rattle.bpf_isa.specs.declared.packed.Packed.{Packed}
use Rattle.bpf_isa.specs.declared.state.Outcome.{Outcome}
use Rattle.bpf_isa.specs.declared.state.Outcome.TheVariants.{On, Done}
use Rattle.bpf_debugger.specs.declared.walk.Walk.{Walk}
use Rattle.bpf_debugger.specs.Chain.{chain_of, last_of}
use Rattle.bpf_debugger.specs.Following.{Follows}

-- the walk is on the run of the program on the frame
abbrev pub IsOn : List Packed → Frame → Walk → Type 0
IsOn p frame walk = Follows p (chain_of p frame) walk.undos.items walk.state walk.answer

-- the number of steps that the walk has made
abbrev pub position_of : Walk → ℕ
position_of walk = length walk.undos.items

-- d steps on from position m of a run, or back where d is negative, held within 0 and the last position
abbrev pub moved_by : ℤ → List Outcome → ℕ → ℕ
moved_by (pos d) chain m = min (m + d) (last_of chain)
moved_by (negsuc d) chain m = m - (d + 1)

-- a state whose pc has a breakpoint
abbrev pub stands_at : List Bool → Outcome → Bool
stands_at breakpoints (On s) = slice_index_or breakpoints s.place false
stands_at breakpoints (Done answer) = false

-- the least position after m whose state stands at a breakpoint, or the last position
abbrev pub next_stop : List Bool → List Outcome → ℕ → ℕ
next_stop breakpoints chain m = min (m + 1 + position_or_len (stands_at breakpoints) (drop (m + 1) chain)) (last_of chain)
