-- A statement takes at least one item.
use Rattle.std.proofs.Common.{◌≡◌, ℕ, ◌<◌, ◌≤◌, Bool, true, false, cond, List, [], ◌∷◌, length, Option, Some, None, Result, Ok, Err, subst, arith}
use Rattle.bpf_text.specs.declared.fault.TextFault.{TextFault}
use Rattle.bpf_text.specs.declared.keyword.Mnemonic.{Mnemonic}
use Rattle.bpf_text.specs.declared.keyword.Mnemonic.TheVariants.{Ld, Ldi, Ldh, Ldb, Ldx, Ldxi, Ldxb, St, Stx, Jmp, Ja, Jeq, Jneq, Jne, Jlt, Jle, Jgt, Jge, Jset, Add, Sub, Mul, Div, Mod, Neg, And, Or, Xor, Lsh, Rsh, Tax, Txa, Ret}
use Rattle.bpf_text.specs.declared.keyword.Keyword.TheVariants.{Mnemonic as Named, X as WordX, A as WordA, M as WordM, Len as WordLen}
use Rattle.bpf_text.specs.Tokens.{Token, Word, Name, Num, Mark, Lexeme, Item, Lexed, Bad, End, next_token, after_mark, begins_with_mark, is_mark_token}
use Rattle.bpf_text.specs.Grammar.{Statement}
use Rattle.bpf_text.specs.Reading.{Read, ◌>>=◌, positive, negative, is_number, is_x, is_a, is_m, is_len, mark_rule, number_after, number_rule, exact_rule, after_percent, indirect_rule, packet_rule, scratch_rule, header_rule, hash_rule, immediate_rule, source_rule, target_at, target_rule, ld_rule, ldi_rule, ldh_rule, ldx_rule, ldxb_rule, st_rule, jump_rule, branch_rule, one_way_rule, two_way_rule, alu_rule, ret_rule, operand_rule, instruction_rule, labelled_at, labelled_rule, statement_at, statement_rule}

-- ---- Each rule leaves no more items than it found

abbrev Shrinks : {T : Type 0} → ℕ → Read T → Type 0
Shrinks n (Ok x) = length x.1 ≤ n
Shrinks n (Err fault) = Unit {0}

after : {S T : Type 0} (r : Read S) (f : S × List Item → Read T) (n : ℕ) → Shrinks n r → ((a : S × List Item) → length a.1 ≤ n → Shrinks n (f a)) → Shrinks n (r >>= f)
after (Ok x) f n h k = k x h
after (Err fault) f n h k = tt

given : {S T : Type 0} (r : Result S TextFault) (f : S → Read T) (n : ℕ) → ((a : S) → Shrinks n (f a)) → Shrinks n (r >>= f)
given (Ok x) f n k = k x
given (Err fault) f n k = tt

pick : {T : Type 0} (b : Bool) (r s : Read T) (n : ℕ) → Shrinks n r → Shrinks n s → Shrinks n (cond b r s)
pick true r s n h k = h
pick false r s n h k = k

next_shrinks : (items : List Item) (n : ℕ) → length items ≤ n → Shrinks n (next_token items)
next_shrinks [] n h = tt
next_shrinks (Lexed l ∷ items) n h = omega arith
next_shrinks (Bad fault ∷ items) n h = tt
next_shrinks (End at ∷ items) n h = tt

next : {T : Type 0} (items : List Item) (f : Lexeme × List Item → Read T) (n : ℕ) → length items ≤ n → ((a : Lexeme × List Item) → length a.1 ≤ n → Shrinks n (f a)) → Shrinks n (next_token items >>= f)
next items f n h k = after (next_token items) f n (next_shrinks items n h) k

mark_s : (mark : ℕ) (items : List Item) (n : ℕ) → length items ≤ n → Shrinks n (mark_rule mark items)
unfolding mark_rule
mark_s mark items n h = next items _ n h (λ l k. pick (is_mark_token mark l.0.token) _ _ n k tt)

number_after_s : (at : ℕ) (token : Token) (items : List Item) (n : ℕ) → length items ≤ n → Shrinks n (number_after at token items)
unfolding number_after
number_after_s at token items n h =
    pick (is_mark_token 43 token) _ _ n (next items _ n h (λ l k. given (positive l.0.at l.0.token) _ n (λ v. k)))
    (pick (is_mark_token 45 token) _ _ n (next items _ n h (λ l k. given (negative l.0.at l.0.token) _ n (λ v. k)))
    (given (positive at token) _ n (λ v. h)))

number_s : (items : List Item) (n : ℕ) → length items ≤ n → Shrinks n (number_rule items)
unfolding number_rule
number_s items n h = next items _ n h (λ l k. number_after_s l.0.at l.0.token l.1 n k)

exact_s : (v : ℕ) (items : List Item) (n : ℕ) → length items ≤ n → Shrinks n (exact_rule v items)
unfolding exact_rule
exact_s v items n h = next items _ n h (λ l k. pick (is_number v l.0.token) _ _ n k tt)

percent_s : (is_register : Token → Bool) (items : List Item) (n : ℕ) → length items ≤ n → Shrinks n (after_percent is_register items)
unfolding after_percent
percent_s is_register items n h = next items _ n h (λ l k. pick (is_register l.0.token) _ _ n k tt)

indirect_s : (items : List Item) (n : ℕ) → length items ≤ n → Shrinks n (indirect_rule items)
unfolding indirect_rule
indirect_s items n h = after (mark_rule 43 items) _ n (mark_s 43 items n h) (λ p h1. after (number_rule p.1) _ n (number_s p.1 n h1) (λ v h2. after (mark_rule 93 v.1) _ n (mark_s 93 v.1 n h2) (λ c h3. h3)))

packet_s : (items : List Item) (n : ℕ) → length items ≤ n → Shrinks n (packet_rule items)
unfolding packet_rule
packet_s items n h = next items _ n h (λ l k.
    pick (is_x l.0.token) _ _ n (indirect_s l.1 n k)
    (pick (is_mark_token 37 l.0.token) _ _ n (after (after_percent is_x l.1) _ n (percent_s is_x l.1 n k) (λ x h1. indirect_s x.1 n h1))
    (after (number_after l.0.at l.0.token l.1) _ n (number_after_s l.0.at l.0.token l.1 n k) (λ v h2. after (mark_rule 93 v.1) _ n (mark_s 93 v.1 n h2) (λ c h3. h3)))))

scratch_s : (items : List Item) (n : ℕ) → length items ≤ n → Shrinks n (scratch_rule items)
unfolding scratch_rule
scratch_s items n h = after (mark_rule 91 items) _ n (mark_s 91 items n h) (λ p h1. after (number_rule p.1) _ n (number_s p.1 n h1) (λ v h2. after (mark_rule 93 v.1) _ n (mark_s 93 v.1 n h2) (λ c h3. h3)))

header_s : (items : List Item) (n : ℕ) → length items ≤ n → Shrinks n (header_rule items)
unfolding header_rule
header_s items n h =
    after (mark_rule 42 items) _ n (mark_s 42 items n h) (λ a h1. after (mark_rule 40 a.1) _ n (mark_s 40 a.1 n h1) (λ b h2. after (mark_rule 91 b.1) _ n (mark_s 91 b.1 n h2)
    (λ o h3. after (number_rule o.1) _ n (number_s o.1 n h3) (λ v h4. after (mark_rule 93 v.1) _ n (mark_s 93 v.1 n h4) (λ c h5. after (mark_rule 38 c.1) _ n (mark_s 38 c.1 n h5)
    (λ d h6. after (exact_rule 15 d.1) _ n (exact_s 15 d.1 n h6) (λ e h7. after (mark_rule 41 e.1) _ n (mark_s 41 e.1 n h7) (λ f h8. h8))))))))

hash_s : (items : List Item) (n : ℕ) → length items ≤ n → Shrinks n (hash_rule items)
unfolding hash_rule
hash_s items n h = next items _ n h (λ l k. pick (is_len l.0.token) _ _ n k (after (number_after l.0.at l.0.token l.1) _ n (number_after_s l.0.at l.0.token l.1 n k) (λ v h1. h1)))

immediate_s : (items : List Item) (n : ℕ) → length items ≤ n → Shrinks n (immediate_rule items)
unfolding immediate_rule
immediate_s items n h = after (number_rule items) _ n (number_s items n h) (λ v h1. h1)

source_s : (items : List Item) (n : ℕ) → length items ≤ n → Shrinks n (source_rule items)
unfolding source_rule
source_s items n h = next items _ n h (λ l k.
    pick (is_mark_token 35 l.0.token) _ _ n (after (number_rule l.1) _ n (number_s l.1 n k) (λ v h1. h1))
    (pick (is_x l.0.token) _ _ n k
    (pick (is_mark_token 37 l.0.token) _ _ n (after (after_percent is_x l.1) _ n (percent_s is_x l.1 n k) (λ x h1. h1)) tt)))

target_at_s : (at : ℕ) (token : Token) (items : List Item) (n : ℕ) → length items ≤ n → Shrinks n (target_at at token items)
unfolding target_at
target_at_s at (Name name) items n h = h
target_at_s at (Word k) items n h = tt
target_at_s at (Num v) items n h = tt
target_at_s at (Mark b) items n h = tt

target_s : (items : List Item) (n : ℕ) → length items ≤ n → Shrinks n (target_rule items)
unfolding target_rule
target_s items n h = next items _ n h (λ l k. target_at_s l.0.at l.0.token l.1 n k)

ld_s : (items : List Item) (n : ℕ) → length items ≤ n → Shrinks n (ld_rule items)
unfolding ld_rule
ld_s items n h = next items _ n h (λ l k.
    pick (is_mark_token 91 l.0.token) _ _ n (packet_s l.1 n k)
    (pick (is_mark_token 35 l.0.token) _ _ n (hash_s l.1 n k)
    (pick (is_m l.0.token) _ _ n (scratch_s l.1 n k)
    (pick (is_len l.0.token) _ _ n k tt))))

ldi_s : (items : List Item) (n : ℕ) → length items ≤ n → Shrinks n (ldi_rule items)
unfolding ldi_rule
ldi_s items n h = next items _ n h (λ l k. pick (is_mark_token 35 l.0.token) _ _ n (immediate_s l.1 n k) (after (number_after l.0.at l.0.token l.1) _ n (number_after_s l.0.at l.0.token l.1 n k) (λ v h1. h1)))

ldh_s : (items : List Item) (n : ℕ) → length items ≤ n → Shrinks n (ldh_rule items)
unfolding ldh_rule
ldh_s items n h = after (mark_rule 91 items) _ n (mark_s 91 items n h) (λ o h1. packet_s o.1 n h1)

ldx_s : (items : List Item) (n : ℕ) → length items ≤ n → Shrinks n (ldx_rule items)
unfolding ldx_rule
ldx_s items n h = next items _ n h (λ l k.
    pick (is_mark_token 35 l.0.token) _ _ n (hash_s l.1 n k)
    (pick (is_m l.0.token) _ _ n (scratch_s l.1 n k)
    (pick (is_len l.0.token) _ _ n k
    (pick (is_number 4 l.0.token) _ _ n (header_s l.1 n k) tt))))

ldxb_s : (items : List Item) (n : ℕ) → length items ≤ n → Shrinks n (ldxb_rule items)
unfolding ldxb_rule
ldxb_s items n h = after (exact_rule 4 items) _ n (exact_s 4 items n h) (λ o h1. header_s o.1 n h1)

st_s : (items : List Item) (n : ℕ) → length items ≤ n → Shrinks n (st_rule items)
unfolding st_rule
st_s items n h = next items _ n h (λ l k. pick (is_m l.0.token) _ _ n (scratch_s l.1 n k) tt)

jump_s : (items : List Item) (n : ℕ) → length items ≤ n → Shrinks n (jump_rule items)
unfolding jump_rule
jump_s items n h = after (target_rule items) _ n (target_s items n h) (λ t h1. h1)

branch_s : (items : List Item) (n : ℕ) → length items ≤ n → Shrinks n (branch_rule items)
unfolding branch_rule
branch_s items n h = after (source_rule items) _ n (source_s items n h) (λ s h1. after (mark_rule 44 s.1) _ n (mark_s 44 s.1 n h1) (λ c h2. after (target_rule c.1) _ n (target_s c.1 n h2) (λ t h3. h3)))

after_mark_s : (mark : ℕ) (items : List Item) (n : ℕ) → length items ≤ n → length (after_mark mark items).1 ≤ n
after_mark_s mark [] n h = h
after_mark_s mark (item ∷ items) n h = go (begins_with_mark mark (item ∷ items))
  where
    go : (b : Bool) → length (cond b (let r : Bool × List Item = (true, items) in r) (false, item ∷ items)).1 ≤ n
    go true = omega arith
    go false = h

one_way_s : (items : List Item) (n : ℕ) → length items ≤ n → Shrinks n (one_way_rule items)
unfolding one_way_rule
one_way_s items n h = after (branch_rule items) _ n (branch_s items n h) (λ b h1. h1)

two_way_s : (items : List Item) (n : ℕ) → length items ≤ n → Shrinks n (two_way_rule items)
unfolding two_way_rule
two_way_s items n h = after (branch_rule items) _ n (branch_s items n h) (λ b h1.
    pick (after_mark 44 b.1).0 _ _ n
    (after (target_rule (after_mark 44 b.1).1) _ n (target_s (after_mark 44 b.1).1 n (after_mark_s 44 b.1 n h1)) (λ t h2. h2))
    (after_mark_s 44 b.1 n h1))

alu_s : (items : List Item) (n : ℕ) → length items ≤ n → Shrinks n (alu_rule items)
unfolding alu_rule
alu_s items n h = after (source_rule items) _ n (source_s items n h) (λ s h1. h1)

ret_s : (items : List Item) (n : ℕ) → length items ≤ n → Shrinks n (ret_rule items)
unfolding ret_rule
ret_s items n h = next items _ n h (λ l k.
    pick (is_mark_token 35 l.0.token) _ _ n (immediate_s l.1 n k)
    (pick (is_a l.0.token) _ _ n k
    (pick (is_mark_token 37 l.0.token) _ _ n (after (after_percent is_a l.1) _ n (percent_s is_a l.1 n k) (λ x h1. h1)) tt)))

operand_s : (m : Mnemonic) (items : List Item) (n : ℕ) → length items ≤ n → Shrinks n (operand_rule m items)
unfolding operand_rule
operand_s Ld items n h = ld_s items n h
operand_s Ldi items n h = ldi_s items n h
operand_s Ldxi items n h = ldi_s items n h
operand_s Ldh items n h = ldh_s items n h
operand_s Ldb items n h = ldh_s items n h
operand_s Ldx items n h = ldx_s items n h
operand_s Ldxb items n h = ldxb_s items n h
operand_s St items n h = st_s items n h
operand_s Stx items n h = st_s items n h
operand_s Jmp items n h = jump_s items n h
operand_s Ja items n h = jump_s items n h
operand_s Jeq items n h = two_way_s items n h
operand_s Jgt items n h = two_way_s items n h
operand_s Jge items n h = two_way_s items n h
operand_s Jset items n h = two_way_s items n h
operand_s Jneq items n h = one_way_s items n h
operand_s Jne items n h = one_way_s items n h
operand_s Jlt items n h = one_way_s items n h
operand_s Jle items n h = one_way_s items n h
operand_s Neg items n h = h
operand_s Tax items n h = h
operand_s Txa items n h = h
operand_s Ret items n h = ret_s items n h
operand_s Add items n h = alu_s items n h
operand_s Sub items n h = alu_s items n h
operand_s Mul items n h = alu_s items n h
operand_s Div items n h = alu_s items n h
operand_s Mod items n h = alu_s items n h
operand_s And items n h = alu_s items n h
operand_s Or items n h = alu_s items n h
operand_s Xor items n h = alu_s items n h
operand_s Lsh items n h = alu_s items n h
operand_s Rsh items n h = alu_s items n h

instruction_s : (at : ℕ) (label : Option (List ℕ)) (m : Mnemonic) (items : List Item) (n : ℕ) → length items ≤ n → Shrinks n (instruction_rule at label m items)
unfolding instruction_rule
instruction_s at label m items n h = after (operand_rule m items) _ n (operand_s m items n h) (λ o h1. h1)

labelled_at_s : (at : ℕ) (label : List ℕ) (here : ℕ) (token : Token) (items : List Item) (n : ℕ) → length items ≤ n → Shrinks n (labelled_at at label here token items)
unfolding labelled_at
labelled_at_s at label here (Word (Named m)) items n h = instruction_s at (Some label) m items n h
labelled_at_s at label here (Word WordX) items n h = tt
labelled_at_s at label here (Word WordA) items n h = tt
labelled_at_s at label here (Word WordM) items n h = tt
labelled_at_s at label here (Word WordLen) items n h = tt
labelled_at_s at label here (Name name) items n h = tt
labelled_at_s at label here (Num v) items n h = tt
labelled_at_s at label here (Mark b) items n h = tt

labelled_s : (at : ℕ) (label : List ℕ) (items : List Item) (n : ℕ) → length items ≤ n → Shrinks n (labelled_rule at label items)
unfolding labelled_rule
labelled_s at label items n h = after (mark_rule 58 items) _ n (mark_s 58 items n h) (λ c h1. next c.1 _ n h1 (λ l k. labelled_at_s at label l.0.at l.0.token l.1 n k))

statement_at_s : (at : ℕ) (token : Token) (items : List Item) (n : ℕ) → length items ≤ n → Shrinks n (statement_at at token items)
unfolding statement_at
statement_at_s at (Word (Named m)) items n h = pick (after_mark 58 items).0 _ _ n tt (instruction_s at None m (after_mark 58 items).1 n (after_mark_s 58 items n h))
statement_at_s at (Word WordX) items n h = tt
statement_at_s at (Word WordA) items n h = tt
statement_at_s at (Word WordM) items n h = tt
statement_at_s at (Word WordLen) items n h = tt
statement_at_s at (Name name) items n h = labelled_s at name items n h
statement_at_s at (Num v) items n h = tt
statement_at_s at (Mark b) items n h = tt

of_ok : {T : Type 0} (r : Read T) (n : ℕ) (x : T × List Item) → Shrinks n r → r ≡ Ok x → length x.1 ≤ n
of_ok {T} r n x h e = subst (λ (q : Read T). Shrinks n q) e h

-- a statement takes at least one item
pub statement_takes : (items : List Item) (s : Statement) (rest : List Item) → statement_rule items ≡ Ok (s, rest) → length rest < length items
unfolding statement_rule
statement_takes [] s rest e = cc
statement_takes (Lexed l ∷ items) s rest e =
    let h : length rest ≤ length items = of_ok (statement_at l.at l.token items) (length items) (s, rest) (statement_at_s l.at l.token items (length items) (omega arith)) e in
    omega arith
statement_takes (Bad fault ∷ items) s rest e = cc
statement_takes (End at ∷ items) s rest e = cc
