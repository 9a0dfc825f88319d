-- The meaning of statements: a run by statements and labels. No code and no distance occurs. The effects are those of McCanne and
-- Jacobson 1993 and of Linux's Documentation/networking/filter.rst.
use Rattle.std.specs.Prelude.{◌≡◌, ℕ, ◌+◌, ◌%◌, ◌^◌, Bool, not, List, [], ◌∷◌, Option, Some, None, nat_le, nat_lt, if◌then◌else◌, slice_get, slice_index}
use Rattle.std.specs.Option.{option_map, option_and_then}
use Rattle.afdx_frame.specs.Number.{number_at}
use Rattle.bpf_isa.specs.declared.state.State.{State}
use Rattle.bpf_isa.specs.declared.state.Outcome.{Outcome}
use Rattle.bpf_isa.specs.declared.state.Outcome.TheVariants.{On, Done}
use Rattle.bpf_isa.specs.Machine.{start}
use Rattle.bpf_isa.specs.Table.{a_becomes, x_becomes, slot_becomes, or_reject, sum32, difference32, product32, quotient, remainder, either_bits, common_bits, differing_bits, left_shift, right_shift, negation32, header_length, equal, greater, at_least, shares_bits}
use Rattle.bpf_text.specs.declared.keyword.Mnemonic.{Mnemonic}
use Rattle.bpf_text.specs.declared.keyword.Mnemonic.TheVariants.{Ld, Ldi, Ldh, Ldb, Ldx, Ldxi, Ldxb, St, Stx, Jmp, Ja, Jeq, Jneq, Jne, Jlt, Jle, Jgt, Jge, Jset, Add, Sub, Mul, Div, Mod, Neg, And, Or, Xor, Lsh, Rsh, Tax, Txa, Ret}
use Rattle.bpf_text.specs.declared.statement.Source.{Source}
use Rattle.bpf_text.specs.declared.statement.Source.TheVariants.{K, X}
use Rattle.bpf_text.specs.Grammar.{Statement, Operand, Nothing, Immediate, Absolute, Indirect, Scratch, HeaderLength, Len, Value, A, Target, Branch}
use Rattle.bpf_asm.specs.Assembly.{index_of}

-- the second operand of an operation or a comparison
abbrev pub value_of : Source → State → ℕ
value_of (K k) s = k
value_of X s = s.x

-- ---- statements that are no jumps, from a state, on a frame's captured bytes and its length on the wire

-- a register becomes a value, or the frame is rejected where there is none
abbrev pub a_loads : State → Option ℕ → Option Outcome
a_loads s value = Some (or_reject value (a_becomes s))

abbrev pub x_loads : State → Option ℕ → Option Outcome
x_loads s value = Some (or_reject value (x_becomes s))

abbrev pub immediate_effect : Mnemonic → ℕ → State → Option Outcome
immediate_effect Ld k s = a_loads s (Some k)
immediate_effect Ldi k s = a_loads s (Some k)
immediate_effect Ldx k s = x_loads s (Some k)
immediate_effect Ldxi k s = x_loads s (Some k)
immediate_effect Ret k s = Some (Done k)
immediate_effect _ k s = None

-- the bytes at an offset of the packet: 4, 2 or 1
abbrev pub packet_effect : Mnemonic → ℕ → State → List ℕ → Option Outcome
packet_effect Ld offset s frame = a_loads s (number_at offset 4 frame)
packet_effect Ldh offset s frame = a_loads s (number_at offset 2 frame)
packet_effect Ldb offset s frame = a_loads s (number_at offset 1 frame)
packet_effect _ offset s frame = None

abbrev pub scratch_effect : Mnemonic → ℕ → State → Option Outcome
scratch_effect Ld k s = a_loads s (Some (slice_index s.scratch k))
scratch_effect Ldx k s = x_loads s (Some (slice_index s.scratch k))
scratch_effect St k s = Some (slot_becomes s k s.a)
scratch_effect Stx k s = Some (slot_becomes s k s.x)
scratch_effect _ k s = None

abbrev pub header_length_effect : Mnemonic → ℕ → State → List ℕ → Option Outcome
header_length_effect Ldx offset s frame = x_loads s (option_map header_length (number_at offset 1 frame))
header_length_effect Ldxb offset s frame = x_loads s (option_map header_length (number_at offset 1 frame))
header_length_effect _ offset s frame = None

abbrev pub len_effect : Mnemonic → State → ℕ → Option Outcome
len_effect Ld s whole = a_loads s (Some whole)
len_effect Ldx s whole = x_loads s (Some whole)
len_effect _ s whole = None

-- the operation of A and the second operand
abbrev pub operation_of : Mnemonic → Option (ℕ → ℕ → Option ℕ)
operation_of Add = Some sum32
operation_of Sub = Some difference32
operation_of Mul = Some product32
operation_of Div = Some quotient
operation_of Mod = Some remainder
operation_of Or = Some either_bits
operation_of And = Some common_bits
operation_of Xor = Some differing_bits
operation_of Lsh = Some left_shift
operation_of Rsh = Some right_shift
operation_of _ = None

abbrev pub bare_effect : Mnemonic → State → Option Outcome
bare_effect Neg s = a_loads s (Some (negation32 s.a))
bare_effect Tax s = x_loads s (Some s.a)
bare_effect Txa s = a_loads s (Some s.x)
bare_effect _ s = None

abbrev pub a_effect : Mnemonic → State → Option Outcome
a_effect Ret s = Some (Done s.a)
a_effect _ s = None

-- ---- jumps

-- the comparison of A and the second operand
abbrev pub test_of : Mnemonic → Option (ℕ → ℕ → Bool)
test_of Jeq = Some equal
test_of Jneq = Some (λ a value. not (equal a value))
test_of Jne = Some (λ a value. not (equal a value))
test_of Jgt = Some greater
test_of Jge = Some at_least
test_of Jlt = Some (λ a value. nat_lt a value)
test_of Jle = Some (λ a value. nat_le a value)
test_of Jset = Some shares_bits
test_of _ = None

abbrev pub is_jump : Mnemonic → Bool
is_jump Jmp = Bool.true
is_jump Ja = Bool.true
is_jump _ = Bool.false

-- the same registers and scratch memory, at another statement
abbrev pub state_at : State → ℕ → Outcome
state_at s index = On (record { place = index; a = s.a; x = s.x; scratch = s.scratch })

-- goes to the statement that carries the label
abbrev pub goes_to : List Statement → List ℕ → State → Option Outcome
goes_to ss name s = option_map (state_at s) (index_of ss name)

-- to the first target where the comparison holds, else to the second, or to the next statement where there is none
abbrev pub goes_on : List Statement → Option (List ℕ) → State → Option Outcome
goes_on ss None s = Some (state_at s (s.place + 1))
goes_on ss (Some name) s = goes_to ss name s

abbrev pub branch_effect : List Statement → List ℕ → Option (List ℕ) → State → Bool → Option Outcome
branch_effect ss first second s holds = if holds then goes_to ss first s else goes_on ss second s

-- ---- steps and runs

-- the step of a statement; the pc of a state is the index of a statement
abbrev pub statement_step : List Statement → Mnemonic → Operand → State → List ℕ → ℕ → Option Outcome
statement_step ss m Nothing s frame whole = bare_effect m s
statement_step ss m (Immediate k) s frame whole = immediate_effect m k s
statement_step ss m (Absolute k) s frame whole = packet_effect m k s frame
statement_step ss m (Indirect k) s frame whole = packet_effect m ((s.x + k) % 2 ^ 32) s frame
statement_step ss m (Scratch k) s frame whole = scratch_effect m k s
statement_step ss m (HeaderLength k) s frame whole = header_length_effect m k s frame
statement_step ss m Len s frame whole = len_effect m s whole
statement_step ss m (Value source) s frame whole =
    option_and_then (λ operation. a_loads s (operation s.a (value_of source s))) (operation_of m)
statement_step ss m A s frame whole = a_effect m s
statement_step ss m (Target name) s frame whole = if is_jump m then goes_to ss name s else None
statement_step ss m (Branch source first second) s frame whole =
    option_and_then (λ test. branch_effect ss first second s (test s.a (value_of source s))) (test_of m)

abbrev pub source_step : List Statement → List ℕ → ℕ → State → Option Outcome
source_step ss frame whole s = option_and_then (λ st. statement_step ss st.mnemonic st.operand s frame whole) (slice_get ss s.place)

-- from s these states follow, one step each, and the next step returns the answer
abbrev pub SourceRunsFrom : List Statement → List ℕ → ℕ → State → List State → ℕ → Type 0
SourceRunsFrom ss frame whole s [] answer = source_step ss frame whole s ≡ Some (Done answer)
SourceRunsFrom ss frame whole s (t ∷ ts) answer = (source_step ss frame whole s ≡ Some (On t)) × SourceRunsFrom ss frame whole t ts answer

-- the run of the statements on a frame: the first state and these, and the return value
abbrev pub SourceRuns : List Statement → List ℕ → ℕ → List State → ℕ → Type 0
SourceRuns ss frame whole states answer = SourceRunsFrom ss frame whole start states answer
