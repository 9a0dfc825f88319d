-- Which program the statements of a text are, and the first fault of statements that are none. The forms are those of Linux's
-- bpf_asm; the limits are BPF_MAXINSNS and the 8 bits of a conditional jump's distance. This project's profile: jumps only go
-- forward to a label that stands once, and the order of the faults.
use Rattle.std.specs.Prelude.{◌≡◌, ℕ, ◌+◌, ◌<◌, ◌≤◌, Bool, true, false, List, length, take, Option, Some, None, is_some, bytes_eq, nat_le, nat_lt, if◌then◌else◌, slice_get}
use Rattle.std.specs.Option.{option_map_or, option_and_then, option_or}
use Rattle.std.specs.List.{position_from}
use Rattle.bpf_isa.specs.declared.packed.Packed.{Packed}
use Rattle.bpf_isa.specs.Families.{packed_k}
use Rattle.bpf_isa.specs.declared.state.TheConstants.{MAX_INSNS}
use Rattle.bpf_text.specs.declared.keyword.Mnemonic.{Mnemonic}
use Rattle.bpf_text.specs.Grammar.{Statement, Operand, Target, Branch}
use Rattle.bpf_text.specs.Meaning.{Sources, FaultFits}
use Rattle.bpf_asm.specs.Rows.{plain_packed, one_way_packed, two_way_packed, jump_code}
use Rattle.bpf_asm.specs.declared.fault.AsmFault.{AsmFault}
use Rattle.bpf_asm.specs.declared.fault.AsmFault.TheVariants.{Text, Empty, TooMany, TwiceLabel, NoLabel, Backward, TooFar, Memory}

-- ---- labels

-- the statement carries the label
abbrev pub carries : List ℕ → Statement → Bool
carries name s = option_map_or (bytes_eq name) s.label false

-- the index of the statement that carries the label
abbrev pub index_of : List Statement → List ℕ → Option ℕ
index_of ss name = position_from (carries name) 0 ss

-- the label of the statement at the index stood before
abbrev pub is_twice : List Statement → ℕ → Bool
is_twice ss at =
    option_map_or (λ name. is_some (index_of (take at ss) name)) (option_and_then (λ s. s.label) (slice_get ss at)) false

-- no label stands twice
abbrev pub HasDistinctLabels : List Statement → Type 0
HasDistinctLabels ss = (at : ℕ) → at < length ss → is_twice ss at ≡ false

-- ---- distances, relative to the next statement

-- from the statement at the index the label is so far
abbrev pub IsAtDistance : List Statement → ℕ → List ℕ → ℕ → Type 0
IsAtDistance ss at name distance = index_of ss name ≡ Some (at + 1 + distance)

-- the greatest distance of a conditional jump
abbrev pub farthest : ℕ
farthest = 255

-- and that is near enough for a conditional jump
abbrev pub IsNear : List Statement → ℕ → List ℕ → ℕ → Type 0
IsNear ss at name distance = IsAtDistance ss at name distance × (distance ≤ farthest)

-- ---- the program of statements

-- the instruction of a statement at the index
abbrev pub IsRow : List Statement → ℕ → Mnemonic → Operand → Packed → Type 0
IsRow ss at m (Target name) w =
    (distance code : ℕ) × IsAtDistance ss at name distance × (jump_code m ≡ Some code) × (w ≡ packed_k code distance)
IsRow ss at m (Branch source first None) w =
    (distance : ℕ) × IsNear ss at first distance × (one_way_packed m source distance ≡ Some w)
IsRow ss at m (Branch source first (Some second)) w =
    (distance other : ℕ) × IsNear ss at first distance × IsNear ss at second other × (two_way_packed m source distance other ≡ Some w)
IsRow ss at m operand w = plain_packed m operand ≡ Some w

-- 1 to 4096 statements
abbrev pub HasCount : List Statement → Type 0
HasCount ss = (1 ≤ length ss) × (length ss ≤ MAX_INSNS)

-- the statements are the program: each is the instruction at its index
pub record Assembles (ss : List Statement) (p : List Packed) : Type 0 where
  pub count : HasCount ss
  pub labels : HasDistinctLabels ss
  pub len : length p ≡ length ss
  pub rows : (at : ℕ) (s : Statement) (w : Packed) → slice_get ss at ≡ Some s → slice_get p at ≡ Some w → IsRow ss at s.mnemonic s.operand w

-- ---- the first fault

-- of a jump's target: there is no such label, or it isn't later
abbrev pub index_fault : ℕ → Option ℕ → Option AsmFault
index_fault at None = Some (NoLabel at)
index_fault at (Some index) = if nat_le index at then Some (Backward at) else None

abbrev pub target_fault : List Statement → ℕ → List ℕ → Option AsmFault
target_fault ss at name = index_fault at (index_of ss name)

-- of a conditional jump's target: it may be too far, too
abbrev pub reach_fault : ℕ → Option ℕ → Option AsmFault
reach_fault at None = None
reach_fault at (Some index) = if nat_lt (at + 1 + farthest) index then Some (TooFar at) else None

abbrev pub near_fault : List Statement → ℕ → List ℕ → Option AsmFault
near_fault ss at name = option_or (target_fault ss at name) (reach_fault at (index_of ss name))

-- of a statement's targets, from left to right
abbrev pub operand_fault : List Statement → ℕ → Operand → Option AsmFault
operand_fault ss at (Target name) = target_fault ss at name
operand_fault ss at (Branch source first None) = near_fault ss at first
operand_fault ss at (Branch source first (Some second)) = option_or (near_fault ss at first) (near_fault ss at second)
operand_fault ss at operand = None

abbrev pub fault_at : List Statement → ℕ → Option AsmFault
fault_at ss at = option_and_then (λ s. operand_fault ss at s.operand) (slice_get ss at)

-- the label at the index is the first that stood before
abbrev pub IsFirstTwice : List Statement → ℕ → Type 0
IsFirstTwice ss at = (is_twice ss at ≡ true) × ((earlier : ℕ) → earlier < at → is_twice ss earlier ≡ false)

-- the first statement that has a fault has this one
abbrev pub IsFirstTargetFault : List Statement → AsmFault → Type 0
IsFirstTargetFault ss fault =
    (at : ℕ) × (fault_at ss at ≡ Some fault) × ((earlier : ℕ) → earlier < at → fault_at ss earlier ≡ None)

-- of the number of statements
abbrev pub IsCountFault : List Statement → AsmFault → Type 0
IsCountFault ss Empty = length ss ≡ 0
IsCountFault ss TooMany = MAX_INSNS < length ss
IsCountFault ss fault = ⊥

-- The first fault of statements: their number; then the first label that stood before; then the first jump that has no target
-- to go to. Memory can only run out where there are 1 to 4096 statements.
abbrev pub IsStatementFault : List Statement → AsmFault → Type 0
IsStatementFault ss (Text fault) = ⊥
IsStatementFault ss Empty = IsCountFault ss Empty
IsStatementFault ss TooMany = IsCountFault ss TooMany
IsStatementFault ss (TwiceLabel at) = HasCount ss × IsFirstTwice ss at
IsStatementFault ss Memory = HasCount ss
IsStatementFault ss fault = HasCount ss × HasDistinctLabels ss × IsFirstTargetFault ss fault

-- The first fault of a text: that of its tokens and forms, or that of its statements.
abbrev pub IsTextFault : List ℕ → AsmFault → Type 0
IsTextFault text (Text fault) = FaultFits text fault
IsTextFault text fault = (ss : List Statement) × Sources text ss × IsStatementFault ss fault

-- the text is source of the program
abbrev pub IsSourceOf : List ℕ → List Packed → Type 0
IsSourceOf text p = (ss : List Statement) × Sources text ss × Assembles ss p
