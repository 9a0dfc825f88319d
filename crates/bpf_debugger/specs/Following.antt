-- A walk along a run: the current entry, and the records of the states before it.
use Rattle.std.specs.Prelude.{◌≡◌, ℕ, ◌-◌, ◌<◌, List, [], ◌∷◌, length, Option, Some, None, IfSome, slice_get}
use Rattle.bpf_isa.specs.declared.packed.Packed.{Packed}
use Rattle.bpf_isa.specs.declared.state.State.{State}
use Rattle.bpf_isa.specs.declared.state.Outcome.{Outcome}
use Rattle.bpf_isa.specs.declared.state.Outcome.TheVariants.{On, Done}
use Rattle.bpf_loader.specs.Faults.{IsLoaded}
use Rattle.bpf_debugger.specs.Records.{Record, record_of}

-- each record is that of the chain's state with its index
abbrev pub AreRecords : List Packed → List Outcome → List Record → Type 0
AreRecords p chain [] = Unit {0}
AreRecords p [] (r ∷ rs) = ⊥
AreRecords p (Done answer ∷ chain) (r ∷ rs) = ⊥
AreRecords p (On s ∷ chain) (r ∷ rs) = (r ≡ record_of p s) × AreRecords p chain rs

-- all that is shown of the last state and, at the end, of the return value
abbrev pub shown_of : State → Option ℕ → Outcome
shown_of s None = On s
shown_of s (Some answer) = Done answer

-- the last state before the entry at this position, or the state there
abbrev pub state_position : Option ℕ → ℕ → ℕ
state_position None m = m
state_position (Some answer) m = m - 1

-- The walk stands at the entry of the chain after its records. At the return value it keeps the state before.
pub record Follows (p : List Packed) (chain : List Outcome) (records : List Record) (s : State) (answer : Option ℕ) : Type 0 where
  pub loaded : IsLoaded p
  pub records_are : AreRecords p chain records
  pub entry : slice_get chain (length records) ≡ Some (shown_of s answer)
  pub state : slice_get chain (state_position answer (length records)) ≡ Some (On s)
  pub began : IfSome answer (λ a. 0 < length records)
