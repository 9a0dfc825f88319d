-- The listing of a program: a line for each instruction, as source (Linux's bpf_asm and bpf_dbg write much the same). Numbers are
-- decimal, a label is L and the index of its instruction, and a conditional jump names both targets.
use Rattle.std.specs.Prelude.{◌≡◌, ℕ, ◌+◌, List, [], ◌∷◌, ◌++◌, map, codes, decimal}
use Rattle.bpf_isa.specs.declared.packed.Packed.{Packed}
use Rattle.bpf_isa.specs.declared.source.Source.{Source}
use Rattle.bpf_isa.specs.declared.source.Source.TheVariants.{K, X}
use Rattle.bpf_isa.specs.declared.load.Size.TheVariants.{Word, Half, Byte}
use Rattle.bpf_isa.specs.declared.load.Load.{Load}
use Rattle.bpf_isa.specs.declared.load.Load.TheVariants as load
use Rattle.bpf_isa.specs.declared.load_x.LoadX.{LoadX}
use Rattle.bpf_isa.specs.declared.load_x.LoadX.TheVariants as load_x
use Rattle.bpf_isa.specs.declared.store.Store.{Store}
use Rattle.bpf_isa.specs.declared.store.Store.TheVariants as store
use Rattle.bpf_isa.specs.declared.alu.Operator.{Operator}
use Rattle.bpf_isa.specs.declared.alu.Operator.TheVariants as operator
use Rattle.bpf_isa.specs.declared.alu.Alu.{Alu}
use Rattle.bpf_isa.specs.declared.alu.Alu.TheVariants as alu
use Rattle.bpf_isa.specs.declared.jump.Condition.{Condition}
use Rattle.bpf_isa.specs.declared.jump.Condition.TheVariants as condition
use Rattle.bpf_isa.specs.declared.jump.Jump.{Jump}
use Rattle.bpf_isa.specs.declared.jump.Jump.TheVariants as jump
use Rattle.bpf_isa.specs.declared.returns.Return.{Return}
use Rattle.bpf_isa.specs.declared.returns.Return.TheVariants as return
use Rattle.bpf_isa.specs.declared.moves.Move.{Move}
use Rattle.bpf_isa.specs.declared.moves.Move.TheVariants as move
use Rattle.bpf_isa.specs.declared.insn.Insn.{Insn}
use Rattle.bpf_isa.specs.declared.insn.Insn.TheVariants as insn
use Rattle.bpf_isa.specs.Insns.{packed_insn}

-- the second operand
abbrev pub source_text : Source → List ℕ
source_text (K k) = codes "#" ++ decimal k
source_text X = codes "x"

abbrev pub load_text : Load → List ℕ
load_text (load.Immediate k) = codes "ld #" ++ decimal k
load_text (load.Absolute Word k) = codes "ld [" ++ decimal k ++ codes "]"
load_text (load.Absolute Half k) = codes "ldh [" ++ decimal k ++ codes "]"
load_text (load.Absolute Byte k) = codes "ldb [" ++ decimal k ++ codes "]"
load_text (load.Indirect Word k) = codes "ld [x + " ++ decimal k ++ codes "]"
load_text (load.Indirect Half k) = codes "ldh [x + " ++ decimal k ++ codes "]"
load_text (load.Indirect Byte k) = codes "ldb [x + " ++ decimal k ++ codes "]"
load_text (load.Scratch k) = codes "ld M[" ++ decimal k ++ codes "]"
load_text load.Length = codes "ld len"

abbrev pub load_x_text : LoadX → List ℕ
load_x_text (load_x.Immediate k) = codes "ldx #" ++ decimal k
load_x_text (load_x.Scratch k) = codes "ldx M[" ++ decimal k ++ codes "]"
load_x_text load_x.Length = codes "ldx len"
load_x_text (load_x.HeaderLength k) = codes "ldxb 4*([" ++ decimal k ++ codes "]&0xf)"

abbrev pub store_text : Store → List ℕ
store_text (store.A k) = codes "st M[" ++ decimal k ++ codes "]"
store_text (store.X k) = codes "stx M[" ++ decimal k ++ codes "]"

abbrev pub operator_name : Operator → List ℕ
operator_name operator.Add = codes "add"
operator_name operator.Sub = codes "sub"
operator_name operator.Mul = codes "mul"
operator_name operator.Div = codes "div"
operator_name operator.Or = codes "or"
operator_name operator.And = codes "and"
operator_name operator.Lsh = codes "lsh"
operator_name operator.Rsh = codes "rsh"
operator_name operator.Mod = codes "mod"
operator_name operator.Xor = codes "xor"

abbrev pub alu_text : Alu → List ℕ
alu_text (alu.Binary o source) = operator_name o ++ codes " " ++ source_text source
alu_text alu.Negate = codes "neg"

abbrev pub condition_name : Condition → List ℕ
condition_name condition.Equal = codes "jeq"
condition_name condition.Greater = codes "jgt"
condition_name condition.AtLeast = codes "jge"
condition_name condition.SharesBits = codes "jset"

-- by the index of the instruction
abbrev pub label_text : ℕ → List ℕ
label_text index = codes "L" ++ decimal index

-- of a jump at the index
abbrev pub jump_text : ℕ → Jump → List ℕ
jump_text at (jump.Always k) = codes "ja " ++ label_text (at + 1 + k)
jump_text at (jump.If c source jt jf) =
    condition_name c ++ codes " " ++ source_text source ++ codes ", " ++ label_text (at + 1 + jt) ++ codes ", " ++ label_text (at + 1 + jf)

abbrev pub return_text : Return → List ℕ
return_text (return.K k) = codes "ret #" ++ decimal k
return_text return.A = codes "ret a"

abbrev pub move_text : Move → List ℕ
move_text move.AToX = codes "tax"
move_text move.XToA = codes "txa"

-- of the instruction at the index
abbrev pub insn_text : ℕ → Insn → List ℕ
insn_text at (insn.Load i) = load_text i
insn_text at (insn.LoadX i) = load_x_text i
insn_text at (insn.Store i) = store_text i
insn_text at (insn.Alu i) = alu_text i
insn_text at (insn.Jump i) = jump_text at i
insn_text at (insn.Return i) = return_text i
insn_text at (insn.Move i) = move_text i

abbrev pub line_text : ℕ → Insn → List ℕ
line_text at i = label_text at ++ codes ": " ++ insn_text at i ++ codes "\n"

-- the lines of instructions, the first of which is at the index
abbrev pub lines_text : ℕ → List Insn → List ℕ
lines_text at [] = []
lines_text at (i ∷ is) = line_text at i ++ lines_text (at + 1) is

-- the text is the listing of the program
abbrev pub IsListing : List Packed → List ℕ → Type 0
IsListing p text = (is : List Insn) × (map packed_insn is ≡ p) × (text ≡ lines_text 0 is)
