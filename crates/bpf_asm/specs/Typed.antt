-- The assembler's typed parts, as codes.
use Rattle.std.specs.Prelude.{◌≡◌, ◌⊎◌, ℕ, ◌<◌, true, List, length, Option, Some, None, bytes_eq, slice_get}
use Rattle.std.specs.Borrow.{Bor}
use Rattle.std.specs.Map.{lookup}
use Rattle.bpf_isa.specs.declared.load.Size.{Size}
use Rattle.bpf_isa.specs.declared.load.Size.TheVariants.{Word, Half, Byte}
use Rattle.bpf_isa.specs.declared.source.Source as isa
use Rattle.bpf_isa.specs.declared.source.Source.TheVariants as isa_source
use Rattle.bpf_text.specs.Grammar.{Statement}
use Rattle.bpf_text.specs.declared.statement.Source.{Source}
use Rattle.bpf_text.specs.declared.statement.Source.TheVariants.{K, X}
use Rattle.bpf_isa.specs.declared.packed.Packed.{Packed}
use Rattle.bpf_asm.specs.Rows.{takes}
use Rattle.bpf_asm.specs.Assembly.{index_of, IsFirstTwice, IsRow, IsFirstTargetFault, fault_at}
use Rattle.bpf_asm.specs.declared.fault.AsmFault.{AsmFault}
use Rattle.bpf_asm.specs.declared.fault.AsmFault.TheVariants.{TwiceLabel, Memory}

-- a second operand of the text, as the instruction holds it
abbrev pub source_of : Source → isa.Source
source_of (K k) = isa_source.K k
source_of X = isa_source.X

-- the code of a load of this size at an absolute offset, and at an offset from x
abbrev pub absolute_load_code : Size → ℕ
absolute_load_code Word = 0x20
absolute_load_code Half = 0x28
absolute_load_code Byte = 0x30

abbrev pub indirect_load_code : Size → ℕ
indirect_load_code Word = 0x40
indirect_load_code Half = 0x48
indirect_load_code Byte = 0x50

-- the index of a label in a list of labels with their indices
abbrev pub known_index : List (Bor (List ℕ) × ℕ) → List ℕ → Option ℕ
known_index entries name = lookup (λ label. bytes_eq name label.now) entries

-- the list knows where each label of the statements stands
abbrev pub Knows : List (Bor (List ℕ) × ℕ) → List Statement → Type 0
Knows entries ss = (name : List ℕ) → known_index entries name ≡ index_of ss name

-- why there is no list of the labels
abbrev pub IsLabelFault : List Statement → AsmFault → Type 0
IsLabelFault ss Memory = Unit {0}
IsLabelFault ss (TwiceLabel at) = IsFirstTwice ss at
IsLabelFault ss fault = ⊥

-- each mnemonic takes the operand that it has
abbrev pub AllTake : List Statement → Type 0
AllTake ss = (at : ℕ) (s : Statement) → slice_get ss at ≡ Some s → takes s.mnemonic s.operand ≡ true

-- the instructions are those of the first n statements, none of which has a fault
pub record AreRows (ss : List Statement) (n : ℕ) (p : List Packed) : Type 0 where
  pub len : length p ≡ n
  pub rows : (at : ℕ) (s : Statement) (w : Packed) → slice_get ss at ≡ Some s → slice_get p at ≡ Some w → IsRow ss at s.mnemonic s.operand w
  pub no_fault : (at : ℕ) → at < n → fault_at ss at ≡ None

-- why there are no instructions
abbrev pub IsRowFault : List Statement → AsmFault → Type 0
IsRowFault ss fault = (fault ≡ Memory) ⊎ IsFirstTargetFault ss fault
