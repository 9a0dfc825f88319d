-- The run of a filter on a frame as one list (this project's profile): the start state, each state by the specified step from the one before, and the return
-- value at its end.
use Rattle.std.specs.Prelude.{◌≡◌, ℕ, zero, suc, ◌-◌, List, [], ◌∷◌, ◌++◌, length, map, Option, Some, None}
use Rattle.afdx_frame.specs.Frame.{Frame}
use Rattle.bpf_isa.specs.declared.packed.Packed.{Packed}
use Rattle.bpf_isa.specs.declared.state.State.{State}
use Rattle.bpf_isa.specs.declared.state.Outcome.{Outcome}
use Rattle.bpf_isa.specs.declared.state.Outcome.TheVariants.{On, Done}
use Rattle.bpf_isa.specs.Machine.{start}
use Rattle.bpf_loader.specs.Faults.{IsLoaded}
use Rattle.bpf_machine.specs.Run.{program_step, Runs}

-- an outcome and those after it, at most n of them
abbrev pub chain_from : ℕ → List Packed → Frame → Option Outcome → List Outcome
chain_from n p frame None = []
chain_from n p frame (Some (Done answer)) = Done answer ∷ []
chain_from zero p frame (Some (On s)) = On s ∷ []
chain_from (suc n) p frame (Some (On s)) = On s ∷ chain_from n p frame (program_step p frame.bytes frame.whole s)

-- the run of a program on a frame, from the start state to the return value
unfoldable pub chain_of : List Packed → Frame → List Outcome
chain_of p frame = chain_from (length p) p frame (Some (On start))

-- the last position of a run: the number of its steps
abbrev pub last_of : List Outcome → ℕ
last_of chain = length chain - 1

-- the entries of the run with these states after the first, and this return value
abbrev pub entries_of : List State → ℕ → List Outcome
entries_of states answer = On start ∷ (map (λ s. On s) states ++ Done answer ∷ [])

-- a loaded program's chain on a frame is its one run there
abbrev pub EachChainIsItsRun : Type 0
EachChainIsItsRun =
    (p : List Packed) → IsLoaded p → (frame : Frame) (states : List State) (answer : ℕ)
    → Runs p frame.bytes frame.whole states answer → chain_of p frame ≡ entries_of states answer
