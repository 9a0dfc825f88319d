-- The instruction of each statement, by its mnemonic and the form of its operand (Linux's tools/bpf/bpf_exp.y). Jumps have
-- their distances from the labels: Assembly.
use Rattle.std.specs.Prelude.{ℕ, ◌+◌, Bool, Option, Some, None, is_some}
use Rattle.std.specs.Option.{option_map, option_map_or}
use Rattle.bpf_isa.specs.declared.packed.Packed.{Packed}
use Rattle.bpf_isa.specs.Families.{packed_k}
use Rattle.bpf_text.specs.declared.keyword.Mnemonic.{Mnemonic}
use Rattle.bpf_text.specs.declared.keyword.Mnemonic.TheVariants.{Ld, Ldi, Ldh, Ldb, Ldx, Ldxi, Ldxb, St, Stx, Jmp, Ja, Jeq, Jneq, Jne, Jlt, Jle, Jgt, Jge, Jset, Add, Sub, Mul, Div, Mod, Neg, And, Or, Xor, Lsh, Rsh, Tax, Txa, Ret}
use Rattle.bpf_text.specs.declared.statement.Source.{Source}
use Rattle.bpf_text.specs.declared.statement.Source.TheVariants.{K, X}
use Rattle.bpf_text.specs.Grammar.{Operand, Nothing, Immediate, Absolute, Indirect, Scratch, HeaderLength, Len, Value, A, Target, Branch}

-- ---- the code of a mnemonic with each form of operand

-- #k
abbrev pub immediate_code : Mnemonic → Option ℕ
immediate_code Ld = Some 0x00
immediate_code Ldi = Some 0x00
immediate_code Ldx = Some 0x01
immediate_code Ldxi = Some 0x01
immediate_code Ret = Some 0x06
immediate_code _ = None

-- [k]
abbrev pub absolute_code : Mnemonic → Option ℕ
absolute_code Ld = Some 0x20
absolute_code Ldh = Some 0x28
absolute_code Ldb = Some 0x30
absolute_code _ = None

-- [x + k]
abbrev pub indirect_code : Mnemonic → Option ℕ
indirect_code Ld = Some 0x40
indirect_code Ldh = Some 0x48
indirect_code Ldb = Some 0x50
indirect_code _ = None

-- M[k]
abbrev pub scratch_code : Mnemonic → Option ℕ
scratch_code Ld = Some 0x60
scratch_code Ldx = Some 0x61
scratch_code St = Some 0x02
scratch_code Stx = Some 0x03
scratch_code _ = None

-- 4*([k]&0xf)
abbrev pub header_length_code : Mnemonic → Option ℕ
header_length_code Ldx = Some 0xb1
header_length_code Ldxb = Some 0xb1
header_length_code _ = None

-- len
abbrev pub len_code : Mnemonic → Option ℕ
len_code Ld = Some 0x80
len_code Ldx = Some 0x81
len_code _ = None

-- #k; with x it is 8 more
abbrev pub alu_code : Mnemonic → Option ℕ
alu_code Add = Some 0x04
alu_code Sub = Some 0x14
alu_code Mul = Some 0x24
alu_code Div = Some 0x34
alu_code Or = Some 0x44
alu_code And = Some 0x54
alu_code Lsh = Some 0x64
alu_code Rsh = Some 0x74
alu_code Mod = Some 0x94
alu_code Xor = Some 0xa4
alu_code _ = None

-- a
abbrev pub a_code : Mnemonic → Option ℕ
a_code Ret = Some 0x16
a_code _ = None

-- no operand
abbrev pub bare_code : Mnemonic → Option ℕ
bare_code Neg = Some 0x84
bare_code Tax = Some 0x07
bare_code Txa = Some 0x87
bare_code _ = None

-- the jump to one target
abbrev pub jump_code : Mnemonic → Option ℕ
jump_code Jmp = Some 0x05
jump_code Ja = Some 0x05
jump_code _ = None

-- a conditional jump to a first target, and to a second one or the next statement; by #k, with x it is 8 more
abbrev pub branch_code : Mnemonic → Option ℕ
branch_code Jeq = Some 0x15
branch_code Jgt = Some 0x25
branch_code Jge = Some 0x35
branch_code Jset = Some 0x45
branch_code _ = None

-- A conditional jump to its target where the comparison of this code fails: not equal is the other way of equal, less of
-- greater or equal, less or equal of greater.
abbrev pub inverse_code : Mnemonic → Option ℕ
inverse_code Jne = Some 0x15
inverse_code Jneq = Some 0x15
inverse_code Jlt = Some 0x35
inverse_code Jle = Some 0x25
inverse_code _ = None

-- ---- the instruction

-- of an operation with k or x
abbrev pub source_packed : ℕ → Source → ℕ → ℕ → Packed
source_packed code (K k) jt jf = record { code = code; jt = jt; jf = jf; k = k }
source_packed code X jt jf = record { code = code + 8; jt = jt; jf = jf; k = 0 }

-- of a statement that is no jump
abbrev pub plain_packed : Mnemonic → Operand → Option Packed
plain_packed m Nothing = option_map (λ code. packed_k code 0) (bare_code m)
plain_packed m (Immediate k) = option_map (λ code. packed_k code k) (immediate_code m)
plain_packed m (Absolute k) = option_map (λ code. packed_k code k) (absolute_code m)
plain_packed m (Indirect k) = option_map (λ code. packed_k code k) (indirect_code m)
plain_packed m (Scratch k) = option_map (λ code. packed_k code k) (scratch_code m)
plain_packed m (HeaderLength k) = option_map (λ code. packed_k code k) (header_length_code m)
plain_packed m Len = option_map (λ code. packed_k code 0) (len_code m)
plain_packed m (Value source) = option_map (λ code. source_packed code source 0 0) (alu_code m)
plain_packed m A = option_map (λ code. packed_k code 0) (a_code m)
plain_packed m (Target name) = None
plain_packed m (Branch source first second) = None

-- of a conditional jump with one target, at this distance
abbrev pub one_way_packed : Mnemonic → Source → ℕ → Option Packed
one_way_packed m source distance =
    option_map_or (λ code. Some (source_packed code source distance 0)) (branch_code m)
    (option_map (λ code. source_packed code source 0 distance) (inverse_code m))

-- of one with two targets, at these distances
abbrev pub two_way_packed : Mnemonic → Source → ℕ → ℕ → Option Packed
two_way_packed m source first second = option_map (λ code. source_packed code source first second) (branch_code m)

-- the mnemonic takes operands of this form
abbrev pub takes : Mnemonic → Operand → Bool
takes m (Target name) = is_some (jump_code m)
takes m (Branch source first None) = is_some (one_way_packed m source 0)
takes m (Branch source first (Some second)) = is_some (branch_code m)
takes m operand = is_some (plain_packed m operand)
