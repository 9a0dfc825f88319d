-- A statement and its instruction have the same step from each state on each frame.
use Rattle.std.proofs.Common.{◌⊎◌, inl, inr, ◌<◌, ◌≤◌, length, map, get_or, slice_get}
use Rattle.std.proofs.lemmas.Option.{slice_get_cases, slice_get_past, slice_get-map}
use Rattle.bpf_isa.proofs.FamilyLaws.{canonical_alike}
use Rattle.std.proofs.Common.{◌≡◌, ℕ, ◌+◌, Bool, true, false, cond, List, Option, Some, None, refl, sym, ap, ◌∙◌, arith}
use Rattle.std.proofs.lemmas.Bool.Decides.{nat_tests}
use Rattle.std.specs.Prelude.{not, nat_lt, nat_le, ◌%◌, ◌^◌}
use Rattle.std.specs.Option.{option_map, option_and_then}
use Rattle.bpf_isa.specs.declared.packed.Packed.{Packed}
use Rattle.bpf_isa.specs.declared.state.State.{State}
use Rattle.bpf_isa.specs.declared.state.Outcome.{Outcome}
use Rattle.bpf_isa.specs.Families.{packed_k}
use Rattle.bpf_isa.specs.Table.{row, table, canonical_form, step_of, skips, equal, greater, at_least, shares_bits}
use Rattle.bpf_text.specs.declared.keyword.Mnemonic.{Mnemonic}
use Rattle.bpf_text.specs.declared.keyword.Mnemonic.TheVariants.{Ld, Ldi, Ldh, Ldb, Ldx, Ldxi, Ldxb, St, Stx, Jmp, Ja, Jeq, Jneq, Jne, Jlt, Jle, Jgt, Jge, Jset, Add, Sub, Mul, Div, Mod, Neg, And, Or, Xor, Lsh, Rsh, Tax, Txa, Ret}
use Rattle.bpf_text.specs.declared.statement.Source.{Source}
use Rattle.bpf_text.specs.declared.statement.Source.TheVariants.{K, X}
use Rattle.bpf_text.specs.Grammar.{Statement, Operand, Nothing, Immediate, Absolute, Indirect, Scratch, HeaderLength, Len, Value, A, Target, Branch}
use Rattle.bpf_asm.specs.Rows.{one_way_packed, two_way_packed, source_packed, immediate_code, absolute_code, indirect_code, scratch_code, header_length_code, len_code, alu_code, a_code, bare_code, jump_code}
use Rattle.bpf_asm.specs.Assembly.{Assembles, IsRow, IsAtDistance}
use Rattle.bpf_asm.specs.Meaning as Meaning
use Rattle.bpf_asm.proofs.Indices.{some_is}

-- ---- statements that are no jumps

-- the step of an instruction that another one is
same_step : (s : State) (frame : List ℕ) (whole : ℕ) (v w : Packed) → Some v ≡ Some w → step_of v s frame whole ≡ step_of w s frame whole
same_step s frame whole v w e = ap (λ insn. step_of insn s frame whole) (some_is v w e)

immediate_step : (m : Mnemonic) (k : ℕ) (w : Packed) (s : State) (frame : List ℕ) (whole : ℕ) →
    option_map (λ code. packed_k code k) (immediate_code m) ≡ Some w → Meaning.immediate_effect m k s ≡ step_of w s frame whole
unfolding row table
immediate_step Ld k w s frame whole e = same_step s frame whole _ w e
immediate_step Ldi k w s frame whole e = same_step s frame whole _ w e
immediate_step Ldx k w s frame whole e = same_step s frame whole _ w e
immediate_step Ldxi k w s frame whole e = same_step s frame whole _ w e
immediate_step Ret k w s frame whole e = same_step s frame whole _ w e
immediate_step _ k w s frame whole e = cc

absolute_step : (m : Mnemonic) (k : ℕ) (w : Packed) (s : State) (frame : List ℕ) (whole : ℕ) →
    option_map (λ code. packed_k code k) (absolute_code m) ≡ Some w → Meaning.packet_effect m k s frame ≡ step_of w s frame whole
unfolding row table
absolute_step Ld k w s frame whole e = same_step s frame whole _ w e
absolute_step Ldh k w s frame whole e = same_step s frame whole _ w e
absolute_step Ldb k w s frame whole e = same_step s frame whole _ w e
absolute_step _ k w s frame whole e = cc

indirect_step : (m : Mnemonic) (k : ℕ) (w : Packed) (s : State) (frame : List ℕ) (whole : ℕ) →
    option_map (λ code. packed_k code k) (indirect_code m) ≡ Some w → Meaning.packet_effect m ((s.x + k) % 2 ^ 32) s frame ≡ step_of w s frame whole
unfolding row table
indirect_step Ld k w s frame whole e = same_step s frame whole _ w e
indirect_step Ldh k w s frame whole e = same_step s frame whole _ w e
indirect_step Ldb k w s frame whole e = same_step s frame whole _ w e
indirect_step _ k w s frame whole e = cc

scratch_step : (m : Mnemonic) (k : ℕ) (w : Packed) (s : State) (frame : List ℕ) (whole : ℕ) →
    option_map (λ code. packed_k code k) (scratch_code m) ≡ Some w → Meaning.scratch_effect m k s ≡ step_of w s frame whole
unfolding row table
scratch_step Ld k w s frame whole e = same_step s frame whole _ w e
scratch_step Ldx k w s frame whole e = same_step s frame whole _ w e
scratch_step St k w s frame whole e = same_step s frame whole _ w e
scratch_step Stx k w s frame whole e = same_step s frame whole _ w e
scratch_step _ k w s frame whole e = cc

header_length_step : (m : Mnemonic) (k : ℕ) (w : Packed) (s : State) (frame : List ℕ) (whole : ℕ) →
    option_map (λ code. packed_k code k) (header_length_code m) ≡ Some w → Meaning.header_length_effect m k s frame ≡ step_of w s frame whole
unfolding row table
header_length_step Ldx k w s frame whole e = same_step s frame whole _ w e
header_length_step Ldxb k w s frame whole e = same_step s frame whole _ w e
header_length_step _ k w s frame whole e = cc

len_step : (m : Mnemonic) (w : Packed) (s : State) (frame : List ℕ) (whole : ℕ) →
    option_map (λ code. packed_k code 0) (len_code m) ≡ Some w → Meaning.len_effect m s whole ≡ step_of w s frame whole
unfolding row table
len_step Ld w s frame whole e = same_step s frame whole _ w e
len_step Ldx w s frame whole e = same_step s frame whole _ w e
len_step _ w s frame whole e = cc

a_step : (m : Mnemonic) (w : Packed) (s : State) (frame : List ℕ) (whole : ℕ) →
    option_map (λ code. packed_k code 0) (a_code m) ≡ Some w → Meaning.a_effect m s ≡ step_of w s frame whole
unfolding row table
a_step Ret w s frame whole e = same_step s frame whole _ w e
a_step _ w s frame whole e = cc

bare_step : (m : Mnemonic) (w : Packed) (s : State) (frame : List ℕ) (whole : ℕ) →
    option_map (λ code. packed_k code 0) (bare_code m) ≡ Some w → Meaning.bare_effect m s ≡ step_of w s frame whole
unfolding row table
bare_step Neg w s frame whole e = same_step s frame whole _ w e
bare_step Tax w s frame whole e = same_step s frame whole _ w e
bare_step Txa w s frame whole e = same_step s frame whole _ w e
bare_step _ w s frame whole e = cc

-- by k and by x
abbrev alu_effect : Mnemonic → Source → State → Option Outcome
alu_effect m source s = option_and_then (λ operation. Meaning.a_loads s (operation s.a (Meaning.value_of source s))) (Meaning.operation_of m)

alu_step : (m : Mnemonic) (source : Source) (w : Packed) (s : State) (frame : List ℕ) (whole : ℕ) →
    option_map (λ code. source_packed code source 0 0) (alu_code m) ≡ Some w → alu_effect m source s ≡ step_of w s frame whole
unfolding row table
alu_step Add (K k) w s frame whole e = same_step s frame whole _ w e
alu_step Add X w s frame whole e = same_step s frame whole _ w e
alu_step Sub (K k) w s frame whole e = same_step s frame whole _ w e
alu_step Sub X w s frame whole e = same_step s frame whole _ w e
alu_step Mul (K k) w s frame whole e = same_step s frame whole _ w e
alu_step Mul X w s frame whole e = same_step s frame whole _ w e
alu_step Div (K k) w s frame whole e = same_step s frame whole _ w e
alu_step Div X w s frame whole e = same_step s frame whole _ w e
alu_step Mod (K k) w s frame whole e = same_step s frame whole _ w e
alu_step Mod X w s frame whole e = same_step s frame whole _ w e
alu_step And (K k) w s frame whole e = same_step s frame whole _ w e
alu_step And X w s frame whole e = same_step s frame whole _ w e
alu_step Or (K k) w s frame whole e = same_step s frame whole _ w e
alu_step Or X w s frame whole e = same_step s frame whole _ w e
alu_step Xor (K k) w s frame whole e = same_step s frame whole _ w e
alu_step Xor X w s frame whole e = same_step s frame whole _ w e
alu_step Lsh (K k) w s frame whole e = same_step s frame whole _ w e
alu_step Lsh X w s frame whole e = same_step s frame whole _ w e
alu_step Rsh (K k) w s frame whole e = same_step s frame whole _ w e
alu_step Rsh X w s frame whole e = same_step s frame whole _ w e
alu_step _ source w s frame whole e = cc

-- ---- jumps

-- by whether a comparison holds: to one state or to another
goes_by : (s : State) (holds : Bool) (there other : ℕ) →
    cond holds (Some (Meaning.state_at s (s.place + 1 + there))) (Some (Meaning.state_at s (s.place + 1 + other))) ≡ Some (skips s (cond holds there other))
goes_by s true there other = refl
goes_by s false there other = refl

goes_against : (s : State) (holds : Bool) (there other : ℕ) →
    cond (not holds) (Some (Meaning.state_at s (s.place + 1 + there))) (Some (Meaning.state_at s (s.place + 1 + other))) ≡ Some (skips s (cond holds other there))
goes_against s true there other = refl
goes_against s false there other = refl

less_is : (a value : ℕ) → nat_lt a value ≡ not (nat_le value a)
less_is a value = grind (arith, nat_tests)

at_most_is : (a value : ℕ) → nat_le a value ≡ not (nat_lt value a)
at_most_is a value = grind (arith, nat_tests)

-- a conditional jump by whether its comparison holds
abbrev branch_by : Mnemonic → Source → State → (Bool → Option Outcome) → Option Outcome
branch_by m source s outcome = option_and_then (λ test. outcome (test s.a (Meaning.value_of source s))) (Meaning.test_of m)

one_way_step : (m : Mnemonic) (source : Source) (distance : ℕ) (w : Packed) (s : State) (frame : List ℕ) (whole : ℕ) →
    one_way_packed m source distance ≡ Some w →
    branch_by m source s (λ holds. cond holds (Some (Meaning.state_at s (s.place + 1 + distance))) (Some (Meaning.state_at s (s.place + 1 + 0)))) ≡ step_of w s frame whole
unfolding row table
one_way_step Jeq (K k) distance w s frame whole e = goes_by s (equal s.a k) distance 0 ∙ same_step s frame whole _ w e
one_way_step Jeq X distance w s frame whole e = goes_by s (equal s.a s.x) distance 0 ∙ same_step s frame whole _ w e
one_way_step Jgt (K k) distance w s frame whole e = goes_by s (greater s.a k) distance 0 ∙ same_step s frame whole _ w e
one_way_step Jgt X distance w s frame whole e = goes_by s (greater s.a s.x) distance 0 ∙ same_step s frame whole _ w e
one_way_step Jge (K k) distance w s frame whole e = goes_by s (at_least s.a k) distance 0 ∙ same_step s frame whole _ w e
one_way_step Jge X distance w s frame whole e = goes_by s (at_least s.a s.x) distance 0 ∙ same_step s frame whole _ w e
one_way_step Jset (K k) distance w s frame whole e = goes_by s (shares_bits s.a k) distance 0 ∙ same_step s frame whole _ w e
one_way_step Jset X distance w s frame whole e = goes_by s (shares_bits s.a s.x) distance 0 ∙ same_step s frame whole _ w e
one_way_step Jne (K k) distance w s frame whole e = goes_against s (equal s.a k) distance 0 ∙ same_step s frame whole _ w e
one_way_step Jne X distance w s frame whole e = goes_against s (equal s.a s.x) distance 0 ∙ same_step s frame whole _ w e
one_way_step Jneq (K k) distance w s frame whole e = goes_against s (equal s.a k) distance 0 ∙ same_step s frame whole _ w e
one_way_step Jneq X distance w s frame whole e = goes_against s (equal s.a s.x) distance 0 ∙ same_step s frame whole _ w e
one_way_step Jlt (K k) distance w s frame whole e =
    ap (λ holds. cond holds (Some (Meaning.state_at s (s.place + 1 + distance))) (Some (Meaning.state_at s (s.place + 1 + 0)))) (less_is s.a k)
    ∙ goes_against s (at_least s.a k) distance 0 ∙ same_step s frame whole _ w e
one_way_step Jlt X distance w s frame whole e =
    ap (λ holds. cond holds (Some (Meaning.state_at s (s.place + 1 + distance))) (Some (Meaning.state_at s (s.place + 1 + 0)))) (less_is s.a s.x)
    ∙ goes_against s (at_least s.a s.x) distance 0 ∙ same_step s frame whole _ w e
one_way_step Jle (K k) distance w s frame whole e =
    ap (λ holds. cond holds (Some (Meaning.state_at s (s.place + 1 + distance))) (Some (Meaning.state_at s (s.place + 1 + 0)))) (at_most_is s.a k)
    ∙ goes_against s (greater s.a k) distance 0 ∙ same_step s frame whole _ w e
one_way_step Jle X distance w s frame whole e =
    ap (λ holds. cond holds (Some (Meaning.state_at s (s.place + 1 + distance))) (Some (Meaning.state_at s (s.place + 1 + 0)))) (at_most_is s.a s.x)
    ∙ goes_against s (greater s.a s.x) distance 0 ∙ same_step s frame whole _ w e
one_way_step _ source distance w s frame whole e = cc

two_way_step : (m : Mnemonic) (source : Source) (there other : ℕ) (w : Packed) (s : State) (frame : List ℕ) (whole : ℕ) →
    two_way_packed m source there other ≡ Some w →
    branch_by m source s (λ holds. cond holds (Some (Meaning.state_at s (s.place + 1 + there))) (Some (Meaning.state_at s (s.place + 1 + other)))) ≡ step_of w s frame whole
unfolding row table
two_way_step Jeq (K k) there other w s frame whole e = goes_by s (equal s.a k) there other ∙ same_step s frame whole _ w e
two_way_step Jeq X there other w s frame whole e = goes_by s (equal s.a s.x) there other ∙ same_step s frame whole _ w e
two_way_step Jgt (K k) there other w s frame whole e = goes_by s (greater s.a k) there other ∙ same_step s frame whole _ w e
two_way_step Jgt X there other w s frame whole e = goes_by s (greater s.a s.x) there other ∙ same_step s frame whole _ w e
two_way_step Jge (K k) there other w s frame whole e = goes_by s (at_least s.a k) there other ∙ same_step s frame whole _ w e
two_way_step Jge X there other w s frame whole e = goes_by s (at_least s.a s.x) there other ∙ same_step s frame whole _ w e
two_way_step Jset (K k) there other w s frame whole e = goes_by s (shares_bits s.a k) there other ∙ same_step s frame whole _ w e
two_way_step Jset X there other w s frame whole e = goes_by s (shares_bits s.a s.x) there other ∙ same_step s frame whole _ w e
two_way_step _ source there other w s frame whole e = cc

jump_step : (m : Mnemonic) (code distance : ℕ) (w : Packed) (s : State) (frame : List ℕ) (whole : ℕ) → jump_code m ≡ Some code → w ≡ packed_k code distance →
    cond (Meaning.is_jump m) (Some (Meaning.state_at s (s.place + 1 + distance))) None ≡ step_of w s frame whole
unfolding row table
jump_step Jmp code distance w s frame whole is word = ap (λ c. step_of (packed_k c distance) s frame whole) (some_is 0x05 code is) ∙ ap (λ v. step_of v s frame whole) (sym word)
jump_step Ja code distance w s frame whole is word = ap (λ c. step_of (packed_k c distance) s frame whole) (some_is 0x05 code is) ∙ ap (λ v. step_of v s frame whole) (sym word)
jump_step _ code distance w s frame whole is word = cc

-- ---- any statement

-- the label at a distance is where the jump goes
goes_there : (ss : List Statement) (s : State) (name : List ℕ) (distance : ℕ) → IsAtDistance ss s.place name distance →
    Meaning.goes_to ss name s ≡ Some (Meaning.state_at s (s.place + 1 + distance))
goes_there ss s name distance is = ap (option_map (Meaning.state_at s)) is

goes_next : (s : State) → Some (Meaning.state_at s (s.place + 1)) ≡ Some (Meaning.state_at s (s.place + 1 + 0))
goes_next s = ap (λ n. Some (Meaning.state_at s n)) (same (s.place + 1))
  where
    same : (n : ℕ) → n ≡ n + 0
    same n = grind arith

pub row_step : (ss : List Statement) (m : Mnemonic) (operand : Operand) (w : Packed) (s : State) (frame : List ℕ) (whole : ℕ) →
    IsRow ss s.place m operand w → Meaning.statement_step ss m operand s frame whole ≡ step_of w s frame whole
row_step ss m Nothing w s frame whole is = bare_step m w s frame whole is
row_step ss m (Immediate k) w s frame whole is = immediate_step m k w s frame whole is
row_step ss m (Absolute k) w s frame whole is = absolute_step m k w s frame whole is
row_step ss m (Indirect k) w s frame whole is = indirect_step m k w s frame whole is
row_step ss m (Scratch k) w s frame whole is = scratch_step m k w s frame whole is
row_step ss m (HeaderLength k) w s frame whole is = header_length_step m k w s frame whole is
row_step ss m Len w s frame whole is = len_step m w s frame whole is
row_step ss m (Value source) w s frame whole is = alu_step m source w s frame whole is
row_step ss m A w s frame whole is = a_step m w s frame whole is
row_step ss m (Target name) w s frame whole (distance, code, there, is, word) =
    ap (λ outcome. cond (Meaning.is_jump m) outcome None) (goes_there ss s name distance there) ∙ jump_step m code distance w s frame whole is word
row_step ss m (Branch source first None) w s frame whole (distance, near, is) =
    ap (λ outcome. branch_by m source s (λ holds. cond holds outcome (Some (Meaning.state_at s (s.place + 1))))) (goes_there ss s first distance near.0)
    ∙ ap (λ outcome. branch_by m source s (λ holds. cond holds (Some (Meaning.state_at s (s.place + 1 + distance))) outcome)) (goes_next s)
    ∙ one_way_step m source distance w s frame whole is
row_step ss m (Branch source first (Some second)) w s frame whole (there, other, near, also, is) =
    ap (λ outcome. branch_by m source s (λ holds. cond holds outcome (Meaning.goes_to ss second s))) (goes_there ss s first there near.0)
    ∙ ap (λ outcome. branch_by m source s (λ holds. cond holds (Some (Meaning.state_at s (s.place + 1 + there))) outcome)) (goes_there ss s second other also.0)
    ∙ two_way_step m source there other w s frame whole is

-- ---- statements and their program

module _ (ss : List Statement) (p : List Packed) (assembled : Assembles ss p) (frame : List ℕ) (whole : ℕ) (s : State) where
  abbrev by_statement : Option Statement → Option Outcome
  by_statement found = option_and_then (λ st. Meaning.statement_step ss st.mnemonic st.operand s frame whole) found

  abbrev by_word : Option Packed → Option Outcome
  by_word found = option_and_then (λ w. step_of w s frame whole) found

  word_there : slice_get (map canonical_form p) s.place ≡ option_map canonical_form (slice_get p s.place)
  word_there = slice_get-map canonical_form p s.place

  pub steps_alike : Meaning.source_step ss frame whole s ≡ by_word (slice_get (map canonical_form p) s.place)
  steps_alike = by (slice_get_cases ss s.place).1
    where
      row : (st : Statement) → slice_get ss s.place ≡ Some st → ((w : Packed) × (s.place < length p) × (slice_get p s.place ≡ Some w) × (get_or p s.place w ≡ w)) ⊎ ((length p ≤ s.place) × (slice_get p s.place ≡ None)) →
          s.place < length ss → by_statement (Some st) ≡ by_word (slice_get (map canonical_form p) s.place)
      row st there (inl (w, within, in_p, get)) less =
          row_step ss st.mnemonic st.operand w s frame whole (assembled.rows s.place st w there in_p)
          ∙ sym (canonical_alike w s frame whole)
          ∙ ap (option_and_then (λ v. step_of v s frame whole)) (ap (option_map canonical_form) (sym in_p) ∙ sym word_there)
      row st there (inr (past, none)) less = absurd (grind (arith, past, less, assembled.len))

      by : ((st : Statement) × (s.place < length ss) × (slice_get ss s.place ≡ Some st) × (get_or ss s.place st ≡ st)) ⊎ ((length ss ≤ s.place) × (slice_get ss s.place ≡ None)) →
          Meaning.source_step ss frame whole s ≡ by_word (slice_get (map canonical_form p) s.place)
      by (inl (st, less, there, get)) = ap by_statement there ∙ row st there (slice_get_cases p s.place).1 less
      by (inr (past, none)) =
          ap by_statement none
          ∙ ap (option_and_then (λ v. step_of v s frame whole)) (sym (word_there ∙ ap (option_map canonical_form) (slice_get_past p s.place (grind (arith, past, assembled.len)))))
