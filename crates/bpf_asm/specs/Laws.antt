-- The laws' claims on a text's statements and on their program.
use Rattle.std.specs.Prelude.{◌≡◌, ℕ, List, map, Some, slice_get}
use Rattle.std.specs.Option.{option_and_then}
use Rattle.bpf_isa.specs.declared.packed.Packed.{Packed}
use Rattle.bpf_isa.specs.declared.state.State.{State}
use Rattle.bpf_isa.specs.Table.{canonical_form, step_of}
use Rattle.bpf_text.specs.Grammar.{Statement}
use Rattle.bpf_isa.specs.Numeric.{IsPacked}
use Rattle.bpf_loader.specs.Faults.{IsLoaded}
use Rattle.bpf_asm.specs.Assembly.{Assembles, IsSourceOf}
use Rattle.bpf_asm.specs.Listing.{IsListing}
use Rattle.bpf_asm.specs.Meaning.{source_step}

-- Each statement means its instruction: from each state, on each frame, the step of the statement is that of the instruction
-- at its index, as the loader keeps it.
abbrev pub StepsAlike : Type 0
StepsAlike =
    (ss : List Statement) (p : List Packed) → Assembles ss p → (frame : List ℕ) (whole : ℕ) (s : State) →
    source_step ss frame whole s ≡ option_and_then (λ w. step_of w s frame whole) (slice_get (map canonical_form p) s.place)

-- the numbers of each instruction fit their fields, as in any program that is held in memory
abbrev pub ArePacked : List Packed → Type 0
ArePacked p = (at : ℕ) (w : Packed) → slice_get p at ≡ Some w → IsPacked w

-- The listing of a loaded program is source of that program.
abbrev pub ListingsAssembleAgain : Type 0
ListingsAssembleAgain = (p : List Packed) (text : List ℕ) → IsLoaded p → ArePacked p → IsListing p text → IsSourceOf text p

-- A text is source of one program at most.
abbrev pub OneProgram : Type 0
OneProgram = (text : List ℕ) (p q : List Packed) → IsSourceOf text p → IsSourceOf text q → p ≡ q
