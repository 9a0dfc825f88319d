-- The reading of each private function of the parser. No public clause cites this page: `Grammar` says what source is, and
-- `proofs/Rules.antt` shows that the two agree.
use Rattle.std.specs.Prelude.{ℕ, ◌-◌, ◌%◌, ◌^◌, Bool, true, false, ◌==◌, List, Option, Some, None, Result, Ok, Err, nat_lt, nat_le, if◌then◌else◌}
use Rattle.bpf_text.specs.declared.fault.TextFault.{TextFault}
use Rattle.bpf_text.specs.declared.fault.TextFault.TheVariants.{Number, Form, ReservedLabel}
use Rattle.bpf_text.specs.declared.keyword.Mnemonic.{Mnemonic}
use Rattle.bpf_text.specs.declared.keyword.Mnemonic.TheVariants.{Ld, Ldi, Ldh, Ldb, Ldx, Ldxi, Ldxb, St, Stx, Jmp, Ja, Jeq, Jneq, Jne, Jlt, Jle, Jgt, Jge, Jset, Add, Sub, Mul, Div, Mod, Neg, And, Or, Xor, Lsh, Rsh, Tax, Txa, Ret}
use Rattle.bpf_text.specs.declared.keyword.Keyword.TheVariants.{Mnemonic as Named, X as WordX, A as WordA, M as WordM, Len as WordLen}
use Rattle.bpf_text.specs.declared.statement.Source.{Source}
use Rattle.bpf_text.specs.declared.statement.Source.TheVariants.{K, X}
use Rattle.bpf_text.specs.Grammar.{Operand, Nothing, Immediate, Absolute, Indirect, Scratch, HeaderLength, Len, Value, A, Target, Branch, Statement}
use Rattle.bpf_text.specs.Tokens.{Token, Word, Name, Num, Mark, Item, next_token, after_mark, is_mark_token}

-- the reading of a rule from the items, and the items after it; or the fault
abbrev pub Read : Type 0 → Type 0
Read T = Result (T × List Item) TextFault

infixl 10 ◌>>=◌
abbrev pub ◌>>=◌ : {A B : Type 0} → Result A TextFault → (A → Result B TextFault) → Result B TextFault
(Ok x) >>= f = f x
(Err fault) >>= f = Err fault

-- ---- Marks and numbers

unfoldable pub mark_rule : ℕ → List Item → Read (Unit {0})
mark_rule mark items = do
  l ← next_token items
  if is_mark_token mark l.0.token then Ok (tt, l.1) else Err (Form l.0.at)

-- a number without a sign or after +, of 32 bits
unfoldable pub positive : ℕ → Token → Result ℕ TextFault
positive at (Num n) = if nat_lt n (2 ^ 32) then Ok n else Err (Number at)
positive at (Word k) = Err (Form at)
positive at (Name name) = Err (Form at)
positive at (Mark b) = Err (Form at)

-- a number after -, of at most 2^31, modulo 2^32
unfoldable pub negative : ℕ → Token → Result ℕ TextFault
negative at (Num n) = if nat_le n (2 ^ 31) then Ok ((2 ^ 32 - n) % 2 ^ 32) else Err (Number at)
negative at (Word k) = Err (Form at)
negative at (Name name) = Err (Form at)
negative at (Mark b) = Err (Form at)

-- a number with at most one sign, whose first token is given
unfoldable pub number_after : ℕ → Token → List Item → Read ℕ
number_after at token items =
    if is_mark_token 43 token then next_token items >>= (λ l. positive l.0.at l.0.token >>= (λ n. Ok (n, l.1)))
    else (if is_mark_token 45 token then next_token items >>= (λ l. negative l.0.at l.0.token >>= (λ n. Ok (n, l.1)))
    else positive at token >>= (λ n. Ok (n, items)))

unfoldable pub number_rule : List Item → Read ℕ
number_rule items = next_token items >>= (λ l. number_after l.0.at l.0.token l.1)

-- the number alone
abbrev pub is_number : ℕ → Token → Bool
is_number n (Num m) = m == n
is_number n (Word k) = false
is_number n (Name name) = false
is_number n (Mark b) = false

unfoldable pub exact_rule : ℕ → List Item → Read (Unit {0})
exact_rule n items = next_token items >>= (λ l. if is_number n l.0.token then Ok (tt, l.1) else Err (Form l.0.at))

-- ---- Parts of operands

-- a register: its name, or % and its name; its first token is given
abbrev pub is_x : Token → Bool
is_x (Word WordX) = true
is_x _ = false

abbrev pub is_a : Token → Bool
is_a (Word WordA) = true
is_a _ = false

unfoldable pub after_percent : (Token → Bool) → List Item → Read (Unit {0})
after_percent is_register items = next_token items >>= (λ l. if is_register l.0.token then Ok (tt, l.1) else Err (Form l.0.at))

-- [n] and [x + n], after the [
unfoldable pub indirect_rule : List Item → Read Operand
indirect_rule items = mark_rule 43 items >>= (λ p. number_rule p.1 >>= (λ n. mark_rule 93 n.1 >>= (λ c. Ok (Indirect n.0, c.1))))

unfoldable pub packet_rule : List Item → Read Operand
packet_rule items = next_token items >>= (λ l.
    if is_x l.0.token then indirect_rule l.1
    else (if is_mark_token 37 l.0.token then after_percent is_x l.1 >>= (λ x. indirect_rule x.1)
    else number_after l.0.at l.0.token l.1 >>= (λ n. mark_rule 93 n.1 >>= (λ c. Ok (Absolute n.0, c.1)))))

-- M[n], after the M
unfoldable pub scratch_rule : List Item → Read Operand
scratch_rule items = mark_rule 91 items >>= (λ o. number_rule o.1 >>= (λ n. mark_rule 93 n.1 >>= (λ c. Ok (Scratch n.0, c.1))))

-- 4*([n]&0xf), after the 4
unfoldable pub header_rule : List Item → Read Operand
header_rule items =
    mark_rule 42 items >>= (λ a. mark_rule 40 a.1 >>= (λ b. mark_rule 91 b.1 >>= (λ o. number_rule o.1 >>= (λ n.
    mark_rule 93 n.1 >>= (λ c. mark_rule 38 c.1 >>= (λ d. exact_rule 15 d.1 >>= (λ e. mark_rule 41 e.1 >>= (λ f. Ok (HeaderLength n.0, f.1)))))))))

-- #n and #len, after the #
abbrev pub is_len : Token → Bool
is_len (Word WordLen) = true
is_len _ = false

unfoldable pub hash_rule : List Item → Read Operand
hash_rule items = next_token items >>= (λ l.
    if is_len l.0.token then Ok (Len, l.1)
    else number_after l.0.at l.0.token l.1 >>= (λ n. Ok (Immediate n.0, n.1)))

unfoldable pub immediate_rule : List Item → Read Operand
immediate_rule items = number_rule items >>= (λ n. Ok (Immediate n.0, n.1))

-- #n, x and %x
unfoldable pub source_rule : List Item → Read Source
source_rule items = next_token items >>= (λ l.
    if is_mark_token 35 l.0.token then number_rule l.1 >>= (λ n. Ok (K n.0, n.1))
    else (if is_x l.0.token then Ok (X, l.1)
    else (if is_mark_token 37 l.0.token then after_percent is_x l.1 >>= (λ x. Ok (X, x.1))
    else Err (Form l.0.at))))

-- the name of a target
unfoldable pub target_at : ℕ → Token → List Item → Read (List ℕ)
target_at at (Name name) items = Ok (name, items)
target_at at (Word k) items = Err (ReservedLabel at)
target_at at (Num n) items = Err (Form at)
target_at at (Mark b) items = Err (Form at)

unfoldable pub target_rule : List Item → Read (List ℕ)
target_rule items = next_token items >>= (λ l. target_at l.0.at l.0.token l.1)

-- ---- Operands

abbrev pub is_m : Token → Bool
is_m (Word WordM) = true
is_m _ = false

unfoldable pub ld_rule : List Item → Read Operand
ld_rule items = next_token items >>= (λ l.
    if is_mark_token 91 l.0.token then packet_rule l.1
    else (if is_mark_token 35 l.0.token then hash_rule l.1
    else (if is_m l.0.token then scratch_rule l.1
    else (if is_len l.0.token then Ok (Len, l.1)
    else Err (Form l.0.at)))))

unfoldable pub ldi_rule : List Item → Read Operand
ldi_rule items = next_token items >>= (λ l.
    if is_mark_token 35 l.0.token then immediate_rule l.1
    else number_after l.0.at l.0.token l.1 >>= (λ n. Ok (Immediate n.0, n.1)))

unfoldable pub ldh_rule : List Item → Read Operand
ldh_rule items = mark_rule 91 items >>= (λ o. packet_rule o.1)

unfoldable pub ldx_rule : List Item → Read Operand
ldx_rule items = next_token items >>= (λ l.
    if is_mark_token 35 l.0.token then hash_rule l.1
    else (if is_m l.0.token then scratch_rule l.1
    else (if is_len l.0.token then Ok (Len, l.1)
    else (if is_number 4 l.0.token then header_rule l.1
    else Err (Form l.0.at)))))

unfoldable pub ldxb_rule : List Item → Read Operand
ldxb_rule items = exact_rule 4 items >>= (λ l. header_rule l.1)

unfoldable pub st_rule : List Item → Read Operand
st_rule items = next_token items >>= (λ l. if is_m l.0.token then scratch_rule l.1 else Err (Form l.0.at))

unfoldable pub jump_rule : List Item → Read Operand
jump_rule items = target_rule items >>= (λ t. Ok (Target t.0, t.1))

-- #n, T and x, T
unfoldable pub branch_rule : List Item → Read (Source × List ℕ)
branch_rule items = source_rule items >>= (λ s. mark_rule 44 s.1 >>= (λ c. target_rule c.1 >>= (λ t. Ok ((s.0, t.0), t.1))))

unfoldable pub one_way_rule : List Item → Read Operand
one_way_rule items = branch_rule items >>= (λ b. Ok (Branch b.0.0 b.0.1 None, b.1))

-- with a second target, where a comma follows
unfoldable pub two_way_rule : List Item → Read Operand
two_way_rule items = branch_rule items >>= (λ b.
    if (after_mark 44 b.1).0 then target_rule (after_mark 44 b.1).1 >>= (λ t. Ok (Branch b.0.0 b.0.1 (Some t.0), t.1))
    else Ok (Branch b.0.0 b.0.1 None, (after_mark 44 b.1).1))

unfoldable pub alu_rule : List Item → Read Operand
alu_rule items = source_rule items >>= (λ s. Ok (Value s.0, s.1))

unfoldable pub ret_rule : List Item → Read Operand
ret_rule items = next_token items >>= (λ l.
    if is_mark_token 35 l.0.token then immediate_rule l.1
    else (if is_a l.0.token then Ok (A, l.1)
    else (if is_mark_token 37 l.0.token then after_percent is_a l.1 >>= (λ x. Ok (A, x.1))
    else Err (Form l.0.at))))

-- the operands of each mnemonic
unfoldable pub operand_rule : Mnemonic → List Item → Read Operand
operand_rule Ld items = ld_rule items
operand_rule Ldi items = ldi_rule items
operand_rule Ldxi items = ldi_rule items
operand_rule Ldh items = ldh_rule items
operand_rule Ldb items = ldh_rule items
operand_rule Ldx items = ldx_rule items
operand_rule Ldxb items = ldxb_rule items
operand_rule St items = st_rule items
operand_rule Stx items = st_rule items
operand_rule Jmp items = jump_rule items
operand_rule Ja items = jump_rule items
operand_rule Jeq items = two_way_rule items
operand_rule Jgt items = two_way_rule items
operand_rule Jge items = two_way_rule items
operand_rule Jset items = two_way_rule items
operand_rule Jneq items = one_way_rule items
operand_rule Jne items = one_way_rule items
operand_rule Jlt items = one_way_rule items
operand_rule Jle items = one_way_rule items
operand_rule Add items = alu_rule items
operand_rule Sub items = alu_rule items
operand_rule Mul items = alu_rule items
operand_rule Div items = alu_rule items
operand_rule Mod items = alu_rule items
operand_rule And items = alu_rule items
operand_rule Or items = alu_rule items
operand_rule Xor items = alu_rule items
operand_rule Lsh items = alu_rule items
operand_rule Rsh items = alu_rule items
operand_rule Neg items = Ok (Nothing, items)
operand_rule Tax items = Ok (Nothing, items)
operand_rule Txa items = Ok (Nothing, items)
operand_rule Ret items = ret_rule items

-- ---- Statements

-- a mnemonic and its operand; at and label are the statement's
unfoldable pub instruction_rule : ℕ → Option (List ℕ) → Mnemonic → List Item → Read Statement
instruction_rule at label m items = operand_rule m items >>= (λ o. Ok (record { at = at; label = label; mnemonic = m; operand = o.0 }, o.1))

-- after a label only a mnemonic goes on
unfoldable pub labelled_at : ℕ → List ℕ → ℕ → Token → List Item → Read Statement
labelled_at at label here (Word (Named m)) items = instruction_rule at (Some label) m items
labelled_at at label here (Word WordX) items = Err (Form here)
labelled_at at label here (Word WordA) items = Err (Form here)
labelled_at at label here (Word WordM) items = Err (Form here)
labelled_at at label here (Word WordLen) items = Err (Form here)
labelled_at at label here (Name name) items = Err (Form here)
labelled_at at label here (Num n) items = Err (Form here)
labelled_at at label here (Mark b) items = Err (Form here)

unfoldable pub labelled_rule : ℕ → List ℕ → List Item → Read Statement
labelled_rule at label items = mark_rule 58 items >>= (λ c. next_token c.1 >>= (λ l. labelled_at at label l.0.at l.0.token l.1))

-- a statement, by its first token: a mnemonic that a colon follows would be a label
unfoldable pub statement_at : ℕ → Token → List Item → Read Statement
statement_at at (Word (Named m)) items = if (after_mark 58 items).0 then Err (ReservedLabel at) else instruction_rule at None m (after_mark 58 items).1
statement_at at (Word WordX) items = Err (ReservedLabel at)
statement_at at (Word WordA) items = Err (ReservedLabel at)
statement_at at (Word WordM) items = Err (ReservedLabel at)
statement_at at (Word WordLen) items = Err (ReservedLabel at)
statement_at at (Name name) items = labelled_rule at name items
statement_at at (Num n) items = Err (Form at)
statement_at at (Mark b) items = Err (Form at)

unfoldable pub statement_rule : List Item → Read Statement
statement_rule items = next_token items >>= (λ l. statement_at l.0.at l.0.token l.1)
