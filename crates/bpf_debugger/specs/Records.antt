-- The record of a step, so that it can be undone: the pc, A and X, and of a store the slot's old value.
use Rattle.std.specs.Prelude.{ℕ, List, Option, Some, None, if◌then◌else◌, slice_get, slice_index, slice_set}
use Rattle.bpf_isa.specs.declared.packed.Packed.{Packed}
use Rattle.bpf_isa.specs.declared.state.State.{State}
use Rattle.bpf_isa.specs.Table.{stores_scratch}
use Rattle.bpf_debugger.specs.declared.record.Slot.{Slot}

-- the values before a step
pub record Record : Type 0 where
  pub pc : ℕ
  pub a : ℕ
  pub x : ℕ
  pub slot : Option Slot

-- the scratch memory slot that an instruction stores, with its value in a state
abbrev pub slot_of : State → Option Packed → Option Slot
slot_of s None = None
slot_of s (Some w) = if stores_scratch w.code then Some (record { index = w.k; value = slice_index s.scratch w.k }) else None

-- the record of a state, before the step from it
abbrev pub record_of : List Packed → State → Record
record_of p s = record { pc = s.place; a = s.a; x = s.x; slot = slot_of s (slice_get p s.place) }

-- the scratch memory with the old value in its slot
abbrev pub scratch_before : Option Slot → List ℕ → List ℕ
scratch_before None scratch = scratch
scratch_before (Some slot) scratch = slice_set scratch slot.index slot.value

-- the state before the step
abbrev pub state_before : Record → State → State
state_before r s = record { place = r.pc; a = r.a; x = r.x; scratch = scratch_before r.slot s.scratch }
