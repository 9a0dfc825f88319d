-- A text has one reading: its statements, or one fault.
use Rattle.std.proofs.Common.{◌≡◌, ℕ, zero, suc, ◌+◌, ◌-◌, ◌<◌, ◌≤◌, Bool, true, false, cond, ◌==◌, List, [], ◌∷◌, ◌++◌, length, map, Option, Some, None, Result, Ok, Err, refl, sym, ap, inl, inr, ◌⊎◌, subst, ◌∙◌, arith, nat_lt}
use Rattle.std.specs.Option.{option_map_or}
use Rattle.std.proofs.lemmas.Bool.{true≢false, eqb-true}
use Rattle.bpf_text.specs.declared.fault.TextFault.{TextFault}
use Rattle.bpf_text.specs.declared.keyword.Mnemonic.{Mnemonic}
use Rattle.bpf_text.specs.declared.keyword.Mnemonic.TheVariants.{Ld, Ldi, Ldh, Ldb, Ldx, Ldxi, Ldxb, St, Stx, Jmp, Ja, Jeq, Jneq, Jne, Jlt, Jle, Jgt, Jge, Jset, Add, Sub, Mul, Div, Mod, Neg, And, Or, Xor, Lsh, Rsh, Tax, Txa, Ret}
use Rattle.bpf_text.specs.declared.keyword.Keyword.TheVariants.{Mnemonic as Named, X as WordX, A as WordA, M as WordM, Len as WordLen}
use Rattle.bpf_text.specs.Tokens.{Token, Word, Name, Num, Mark, Lexeme, Item, Lexed, Bad, End, at_end, item_at, items_from, items_at, blank_len, token_len, word_item, word_at, is_word_byte, is_mark, name_token}
use Rattle.bpf_text.specs.declared.fault.TextFault.TheVariants.{Character, Number}
use Rattle.bpf_text.specs.Numbers.{number_of}
use Rattle.std.specs.Char.{is_ascii_digit}
use Rattle.std.specs.Prelude.{slice_index}
use Rattle.bpf_text.specs.Grammar.{Operand, Statement, Sign, AnyName, AnyMnemonic, Form, Gives, fits, Spells, operand, instruction, labelled, statement, token_of, IsStatement, AreStatements, IsSourceOf, after, whole, IsRefused, Leaves, is_colon, form_at, Stops, AreWhole, HasFault, BeginsWithStatement}
use Rattle.bpf_text.specs.Laws.{OneReading, LeavesWhatMayFollow}
use Rattle.bpf_text.specs.Reading.{statement_rule}
use Rattle.bpf_text.proofs.Bits.{has}
use Rattle.bpf_text.proofs.Forms.{spelled_from_left, left_from_spelled, spells_some, refused_never_spelled, Good, read, refuse, finish, Stopped, run, stopped, leaves_spells, spells_leaves, only_marks, token_key, firsts, firsts_have, Step, step}
use Rattle.bpf_text.proofs.Rules.{statement_reads, good_labelled, good_statement, good_operand, made}
use Rattle.bpf_text.proofs.Sequences.{statement_takes}

-- ---- Reading statement by statement

-- statements read one after the other, up to the rest
abbrev pub AreRead : List Item → List Statement → List Item → Type 0
AreRead items [] rest = items ≡ rest
AreRead items (s ∷ ss) rest = (next : List Item) × (statement_rule items ≡ Ok (s, next)) × AreRead next ss rest

abbrev IsWhole : List Item → Statement → List Item → Type 0
IsWhole items s next = (g : Form) × (fault : TextFault) × Stops (form_at items) items g next fault × (whole g ≡ Some s)

-- how a reading ends
finish_ok : (g : Form) (rest : List Item) (s : Statement) (next : List Item) → finish g rest ≡ Ok (s, next) → (whole g ≡ Some s) × (rest ≡ next)
finish_ok g rest s next e = go (whole g) refl
  where
    go : (o : Option Statement) → whole g ≡ o → (whole g ≡ Some s) × (rest ≡ next)
    go None o = let n : ◌≡◌ {A = Result (Statement × List Item) TextFault} (Err (refuse g rest)) (Ok (s, next)) = sym (ap (λ (p : Option Statement). option_map_or (λ t. Ok (t, rest)) p (Err (refuse g rest))) o) ∙ e in absurd (cc)
    go (Some t) o =
        let n : ◌≡◌ {A = Result (Statement × List Item) TextFault} (Ok (t, rest)) (Ok (s, next)) = sym (ap (λ (p : Option Statement). option_map_or (λ t. Ok (t, rest)) p (Err (refuse g rest))) o) ∙ e in
        let pair : ◌≡◌ {A = Statement × List Item} (t, rest) (s, next) = cc in
        let first : t ≡ s = ap (λ (p : Statement × List Item). p.0) pair in
        let second : rest ≡ next = ap (λ (p : Statement × List Item). p.1) pair in
        (o ∙ ap Some first, second)

finish_err : (g : Form) (rest : List Item) (fault : TextFault) → finish g rest ≡ Err fault → (whole g ≡ None) × (refuse g rest ≡ fault)
finish_err g rest fault e = go (whole g) refl
  where
    go : (o : Option Statement) → whole g ≡ o → (whole g ≡ None) × (refuse g rest ≡ fault)
    go None o =
        let n : ◌≡◌ {A = Result (Statement × List Item) TextFault} (Err (refuse g rest)) (Err fault) = sym (ap (λ (p : Option Statement). option_map_or (λ t. Ok (t, rest)) p (Err (refuse g rest))) o) ∙ e in
        (o, cc)
    go (Some t) o = let n : ◌≡◌ {A = Result (Statement × List Item) TextFault} (Ok (t, rest)) (Err fault) = sym (ap (λ (p : Option Statement). option_map_or (λ t. Ok (t, rest)) p (Err (refuse g rest))) o) ∙ e in absurd (cc)

read_whole : (items : List Item) (s : Statement) (next : List Item) → statement_rule items ≡ Ok (s, next) → IsWhole items s next
read_whole items s next e =
    let r : Stopped (form_at items) items = run items (form_at items) in
    let ends : (whole r.0 ≡ Some s) × (r.1 ≡ next) = finish_ok r.0 r.1 s next (sym r.3 ∙ (sym (statement_reads items) ∙ e)) in
    (r.0, refuse r.0 r.1, subst (λ (rest : List Item). Stops (form_at items) items r.0 rest (refuse r.0 r.1)) ends.1 r.2, ends.0)

whole_read : (items : List Item) (s : Statement) (next : List Item) → IsWhole items s next → statement_rule items ≡ Ok (s, next)
whole_read items s next w =
    let r : (read items (form_at items) ≡ finish w.0 next) × (w.1 ≡ refuse w.0 next) = stopped (form_at items) items w.0 next w.1 w.2 in
    statement_reads items ∙ (r.0 ∙ ap (λ (p : Option Statement). option_map_or (λ t. Ok (t, next)) p (Err (refuse w.0 next))) w.3)

pub read_fault : (items : List Item) (ss : List Statement) (begun : List Item) (fault : TextFault) → AreWhole items ss begun → at_end begun ≡ false → statement_rule begun ≡ Err fault → HasFault items fault
read_fault items ss begun fault w at e =
    let r : Stopped (form_at begun) begun = run begun (form_at begun) in
    let ends : (whole r.0 ≡ None) × (refuse r.0 r.1 ≡ fault) = finish_err r.0 r.1 fault (sym r.3 ∙ (sym (statement_reads begun) ∙ e)) in
    (ss, begun, r.0, r.1, w, at, subst (λ (f : TextFault). Stops (form_at begun) begun r.0 r.1 f) ends.1 r.2, ends.0)

fault_read : (begun : List Item) (g : Form) (rest : List Item) (fault : TextFault) → Stops (form_at begun) begun g rest fault → whole g ≡ None → statement_rule begun ≡ Err fault
fault_read begun g rest fault stops w =
    let r : (read begun (form_at begun) ≡ finish g rest) × (fault ≡ refuse g rest) = stopped (form_at begun) begun g rest fault stops in
    statement_reads begun ∙ (r.0 ∙ (ap (λ (p : Option Statement). option_map_or (λ t. Ok (t, rest)) p (Err (refuse g rest))) w ∙ ap Err (sym r.1)))

pub whole_one_more : (items : List Item) (ss : List Statement) (rest : List Item) (s : Statement) (next : List Item) → AreWhole items ss rest → statement_rule rest ≡ Ok (s, next) → AreWhole items (ss ++ s ∷ []) next
whole_one_more items [] rest s next e r =
    let w : IsWhole items s next = read_whole items s next (ap statement_rule e ∙ r) in
    (w.0, next, w.1, w.2, w.3, refl)
whole_one_more items (t ∷ ss) rest s next h r = (h.0, h.1, h.2, h.3, h.4, whole_one_more h.1 ss rest s next h.5 r)

are_read : (items : List Item) (ss : List Statement) (rest : List Item) → AreWhole items ss rest → AreRead items ss rest
are_read items [] rest e = e
are_read items (s ∷ ss) rest h = (h.1, whole_read items s h.1 (h.0, h.2, h.3, h.4), are_read h.1 ss rest h.5)

-- ---- Statements that are read are derived

labelled_or_not : (items : List Item) (first : Lexeme) (rest : List Item) (tokens : List Token) (s : Statement) → items ≡ Lexed first ∷ rest → Spells (form_at items) tokens s → Spells (statement first.at) tokens s
labelled_or_not items first rest tokens s e spells = by_rest rest (subst (λ (is : List Item). Spells (form_at is) tokens s) e spells)
  where
    by_colon : (b : Bool) → Spells (cond b (labelled first.at) (statement first.at)) tokens s → Spells (statement first.at) tokens s
    by_colon true h = inl h
    by_colon false h = h

    by_rest : (rest : List Item) → Spells (form_at (Lexed first ∷ rest)) tokens s → Spells (statement first.at) tokens s
    by_rest [] h = h
    by_rest (Bad fault ∷ rest) h = h
    by_rest (End at ∷ rest) h = h
    by_rest (Lexed second ∷ rest) h = by_colon (is_colon second.token) h

-- a form of statements takes a token
no_form_empty : (items : List Item) (s : Statement) → Spells (form_at items) [] s → ⊥
no_form_empty [] s h = elim h [ inl a ↦ a | inr b ↦ b ]
no_form_empty (Bad fault ∷ items) s h = elim h [ inl a ↦ a | inr b ↦ b ]
no_form_empty (End at ∷ items) s h = elim h [ inl a ↦ a | inr b ↦ b ]
no_form_empty (Lexed first ∷ []) s h = elim h [ inl a ↦ a | inr b ↦ b ]
no_form_empty (Lexed first ∷ Bad fault ∷ items) s h = elim h [ inl a ↦ a | inr b ↦ b ]
no_form_empty (Lexed first ∷ End at ∷ items) s h = elim h [ inl a ↦ a | inr b ↦ b ]
no_form_empty (Lexed first ∷ Lexed second ∷ items) s h = by_colon (is_colon second.token) h
  where
    by_colon : (b : Bool) → Spells (cond b (labelled first.at) (statement first.at)) [] s → ⊥
    by_colon true h = h
    by_colon false h = elim h [ inl a ↦ a | inr b ↦ b ]

abbrev pub Derived : List Item → Statement → List Item → Type 0
Derived items s next = (lexemes : List Lexeme) × (items ≡ map Lexed lexemes ++ next) × IsStatement lexemes s

derived : (items : List Item) (s : Statement) (next : List Item) → IsWhole items s next → Derived items s next
derived items s next w = (w.2.0, w.2.1, by_first w.2.0 w.2.1 (leaves_spells w.2.0 (form_at items) w.0 s w.2.2 w.3))
  where
    by_first : (lexemes : List Lexeme) → items ≡ map Lexed lexemes ++ next → Spells (form_at items) (map token_of lexemes) s → IsStatement lexemes s
    by_first [] e h = no_form_empty items s h
    by_first (first ∷ lexemes) e h = labelled_or_not items first (map Lexed lexemes ++ next) (map token_of (first ∷ lexemes)) s e h

pub begins : (items : List Item) (ss : List Statement) (rest : List Item) (s : Statement) (next : List Item) → AreWhole items ss rest → statement_rule rest ≡ Ok (s, next) → BeginsWithStatement items
begins items [] rest s next e r =
    let d : Derived items s next = derived items s next (read_whole items s next (ap statement_rule e ∙ r)) in
    (s, d.0, next, d.1, d.2)
begins items (t ∷ ss) rest s next h r =
    let d : Derived items t h.1 = derived items t h.1 (h.0, h.2, h.3, h.4) in
    (t, d.0, h.1, d.1, d.2)

-- the items of whole statements, and what follows
append_lexed : (xs ys : List Lexeme) (rest : List Item) → map Lexed xs ++ (map Lexed ys ++ rest) ≡ map Lexed (xs ++ ys) ++ rest
append_lexed [] ys rest = refl
append_lexed (x ∷ xs) ys rest = ap (λ (is : List Item). Lexed x ∷ is) (append_lexed xs ys rest)

all_derived : (items : List Item) (ss : List Statement) (rest : List Item) → AreWhole items ss rest → (lexemes : List Lexeme) × (items ≡ map Lexed lexemes ++ rest) × AreStatements lexemes ss
all_derived items [] rest e = ([], e, refl)
all_derived items (s ∷ ss) rest h =
    let d : Derived items s h.1 = derived items s h.1 (h.0, h.2, h.3, h.4) in
    let later : (lexemes : List Lexeme) × (h.1 ≡ map Lexed lexemes ++ rest) × AreStatements lexemes ss = all_derived h.1 ss rest h.5 in
    (d.0 ++ later.0, d.1 ∙ (ap (λ (is : List Item). map Lexed d.0 ++ is) later.1 ∙ append_lexed d.0 later.0 rest), (d.0, later.0, refl, d.2, later.2))

-- ---- The items of a text end once

abbrev pub EndsOnce : List Item → Type 0
EndsOnce [] = ⊥
EndsOnce (Lexed lexeme ∷ items) = EndsOnce items
EndsOnce (Bad fault ∷ items) = EndsOnce items
EndsOnce (End at ∷ []) = Unit {0}
EndsOnce (End at ∷ item ∷ items) = ⊥

ends_after : (lexemes : List Lexeme) (rest : List Item) → EndsOnce (map Lexed lexemes ++ rest) → EndsOnce rest
ends_after [] rest h = h
ends_after (lexeme ∷ lexemes) rest h = ends_after lexemes rest h

end_alone : (rest : List Item) → EndsOnce rest → at_end rest ≡ true → (at : ℕ) × (rest ≡ End at ∷ [])
end_alone [] h e = absurd h
end_alone (Lexed lexeme ∷ items) h e = absurd (cc)
end_alone (Bad fault ∷ items) h e = absurd (cc)
end_alone (End at ∷ []) h e = (at, refl)
end_alone (End at ∷ item ∷ items) h e = absurd h

pub read_source : (items : List Item) (ss : List Statement) (rest : List Item) → EndsOnce items → AreWhole items ss rest → at_end rest ≡ true → IsSourceOf items ss
read_source items ss rest ends h e =
    let d : (lexemes : List Lexeme) × (items ≡ map Lexed lexemes ++ rest) × AreStatements lexemes ss = all_derived items ss rest h in
    let last : (at : ℕ) × (rest ≡ End at ∷ []) = end_alone rest (ends_after d.0 rest (subst EndsOnce d.1 ends)) e in
    (d.0, last.0, d.1 ∙ ap (λ (is : List Item). map Lexed d.0 ++ is) last.1, d.2)

-- ---- Statements that are derived are read

-- nothing but a comma goes on with a whole statement, and no statement begins with a mark
abbrev Begins : List Item → Type 0
Begins [] = ⊥
Begins (Lexed lexeme ∷ items) = token_key lexeme.token < 7
Begins (Bad fault ∷ items) = ⊥
Begins (End at ∷ items) = Unit {0}

fits_mark : (token : Token) → token_key token < 7 → is_colon token ≡ false
fits_mark (Word k) h = refl
fits_mark (Name name) h = refl
fits_mark (Num n) h = refl
fits_mark (Mark b) h = absurd (omega arith)

-- a statement begins with a word
statement_begins : (first : Lexeme) (lexemes : List Lexeme) (s : Statement) → IsStatement (first ∷ lexemes) s → token_key first.token < 7
statement_begins first lexemes s h = elim h [ inl a ↦ name first.token a.0 a.1 | inr b ↦ word first.token b.0 b.1 ]
  where
    name : (token : Token) (said : List ℕ) → fits AnyName token ≡ Some said → token_key token < 7
    name (Word k) said e = absurd (cc)
    name (Name n) said e = omega arith
    name (Num n) said e = absurd (cc)
    name (Mark b) said e = absurd (cc)

    word : (token : Token) (said : Mnemonic) → fits AnyMnemonic token ≡ Some said → token_key token < 7
    word (Word WordX) said e = absurd (cc)
    word (Word WordA) said e = absurd (cc)
    word (Word WordM) said e = absurd (cc)
    word (Word WordLen) said e = absurd (cc)
    word (Word (Named m)) said e = omega arith
    word (Name n) said e = absurd (cc)
    word (Num n) said e = absurd (cc)
    word (Mark b) said e = absurd (cc)

-- so the form of the items is that of the statement
no_colon : (m : Mnemonic) (w : Operand → Statement) → has 65 (firsts (operand m (λ o. Gives (w o)))) ≡ false
no_colon Ld w = refl
no_colon Ldi w = refl
no_colon Ldxi w = refl
no_colon Ldh w = refl
no_colon Ldb w = refl
no_colon Ldx w = refl
no_colon Ldxb w = refl
no_colon St w = refl
no_colon Stx w = refl
no_colon Jmp w = refl
no_colon Ja w = refl
no_colon Jeq w = refl
no_colon Jgt w = refl
no_colon Jge w = refl
no_colon Jset w = refl
no_colon Jneq w = refl
no_colon Jne w = refl
no_colon Jlt w = refl
no_colon Jle w = refl
no_colon Neg w = refl
no_colon Tax w = refl
no_colon Txa w = refl
no_colon Ret w = refl
no_colon Add w = refl
no_colon Sub w = refl
no_colon Mul w = refl
no_colon Div w = refl
no_colon Mod w = refl
no_colon And w = refl
no_colon Or w = refl
no_colon Xor w = refl
no_colon Lsh w = refl
no_colon Rsh w = refl

colon_mark : (token : Token) → is_colon token ≡ true → token ≡ Mark 58
colon_mark (Word k) e = absurd (cc)
colon_mark (Name name) e = absurd (cc)
colon_mark (Num n) e = absurd (cc)
colon_mark (Mark b) e = ap Mark (eqb-true b 58 e)

-- no operand begins with a colon
operand_no_colon : (m : Mnemonic) (w : Operand → Statement) (token : Token) (tokens : List Token) (s : Statement) → Spells (operand m (λ o. Gives (w o))) (token ∷ tokens) s → is_colon token ≡ false
operand_no_colon m w token tokens s h = by_test (is_colon token) refl
  where
    read_first : (t : Token) → Spells (operand m (λ o. Gives (w o))) (t ∷ tokens) s → (k : Form) × (after (operand m (λ o. Gives (w o))) t ≡ Some k)
    read_first t h = let r : Step (operand m (λ o. Gives (w o))) t tokens s = step (operand m (λ o. Gives (w o))) t tokens s (good_operand m w) h in (r.0, r.1)

    by_test : (b : Bool) → is_colon token ≡ b → is_colon token ≡ false
    by_test false e = e
    by_test true e =
        let r : (k : Form) × (after (operand m (λ o. Gives (w o))) (Mark 58) ≡ Some k) = read_first (Mark 58) (subst (λ (t : Token). Spells (operand m (λ o. Gives (w o))) (t ∷ tokens) s) (colon_mark token e) h) in
        let n : has 65 (firsts (operand m (λ o. Gives (w o)))) ≡ true = firsts_have (operand m (λ o. Gives (w o))) (Mark 58) r.0 r.1 in
        absurd (true≢false (sym n ∙ no_colon m w))

-- a derived statement is whole
abbrev Whole : List Item → Statement → List Item → Type 0
Whole items s next = (g : Form) × (fault : TextFault) × Stops (form_at items) items g next fault × (whole g ≡ Some s)

refused_after : (g : Form) (s : Statement) (next : List Item) → Good g → whole g ≡ Some s → Begins next → IsRefused g next (refuse g next)
refused_after g s [] good w h = absurd h
refused_after g s (Bad fault ∷ next) good w h = absurd h
refused_after g s (End at ∷ next) good w h = refl
refused_after g s (Lexed lexeme ∷ next) good w h = (go (after g lexeme.token) refl, refl)
  where
    go : (o : Option Form) → after g lexeme.token ≡ o → after g lexeme.token ≡ None
    go None e = e
    go (Some k) e = let m : 7 ≤ token_key lexeme.token = only_marks g s lexeme.token k good w e in absurd (omega arith)

sign_colon : (token : Token) (said : Unit {0}) → fits (Sign 58) token ≡ Some said → is_colon token ≡ true
sign_colon (Word k) said e = absurd (cc)
sign_colon (Name name) said e = absurd (cc)
sign_colon (Num n) said e = absurd (cc)
sign_colon (Mark b) said e = go (b == 58) e
  where
    go : (t : Bool) → cond t (Some tt) None ≡ Some said → t ≡ true
    go true e = refl
    go false e = absurd (cc)

form_spelled : (lexemes : List Lexeme) (s : Statement) (next : List Item) → IsStatement lexemes s → Begins next → Good (form_at (map Lexed lexemes ++ next)) × Spells (form_at (map Lexed lexemes ++ next)) (map token_of lexemes) s
form_spelled [] s next h b = absurd h
form_spelled (first ∷ []) s [] h b = absurd b
form_spelled (first ∷ []) s (Bad fault ∷ next) h b = absurd b
form_spelled (first ∷ []) s (End at ∷ next) h b = (good_statement first.at, h)
form_spelled (first ∷ []) s (Lexed second ∷ next) h b =
    subst (λ (c : Bool). Good (cond c (labelled first.at) (statement first.at)) × Spells (cond c (labelled first.at) (statement first.at)) (first.token ∷ []) s) (sym (fits_mark second.token b)) (good_statement first.at, h)
form_spelled (first ∷ second ∷ lexemes) s next h b = elim h [ inl a ↦ with_label a | inr i ↦ without_label i ]
  where
    with_label : Spells (labelled first.at) (map token_of (first ∷ second ∷ lexemes)) s → Good (cond (is_colon second.token) (labelled first.at) (statement first.at)) × Spells (cond (is_colon second.token) (labelled first.at) (statement first.at)) (map token_of (first ∷ second ∷ lexemes)) s
    with_label a =
        let y : is_colon second.token ≡ true = sign_colon second.token a.2.0 a.2.1 in
        subst (λ (c : Bool). Good (cond c (labelled first.at) (statement first.at)) × Spells (cond c (labelled first.at) (statement first.at)) (map token_of (first ∷ second ∷ lexemes)) s) (sym y) (good_labelled first.at, a)

    without_label : Spells (instruction first.at None) (map token_of (first ∷ second ∷ lexemes)) s → Good (cond (is_colon second.token) (labelled first.at) (statement first.at)) × Spells (cond (is_colon second.token) (labelled first.at) (statement first.at)) (map token_of (first ∷ second ∷ lexemes)) s
    without_label i =
        let n : is_colon second.token ≡ false = operand_no_colon i.0 (made first.at None i.0) second.token (map token_of lexemes) s i.2 in
        subst (λ (c : Bool). Good (cond c (labelled first.at) (statement first.at)) × Spells (cond c (labelled first.at) (statement first.at)) (map token_of (first ∷ second ∷ lexemes)) s) (sym n) (good_statement first.at, inr i)

derived_whole : (lexemes : List Lexeme) (s : Statement) (next : List Item) → IsStatement lexemes s → Begins next → Whole (map Lexed lexemes ++ next) s next
derived_whole lexemes s next h b =
    let form : Form = form_at (map Lexed lexemes ++ next) in
    let p : Good form × Spells form (map token_of lexemes) s = form_spelled lexemes s next h b in
    let q : (g : Form) × Leaves form lexemes g × Good g × (whole g ≡ Some s) = spells_leaves lexemes form s p.0 p.1 in
    (q.0, refuse q.0 next, (lexemes, refl, q.1, refused_after q.0 s next q.2 q.3 b), q.3)

begins_all : (lexemes : List Lexeme) (ss : List Statement) (at : ℕ) → AreStatements lexemes ss → Begins (map Lexed lexemes ++ End at ∷ [])
begins_all lexemes [] at e = subst (λ (ls : List Lexeme). Begins (map Lexed ls ++ End at ∷ [])) (sym e) tt
begins_all lexemes (s ∷ ss) at h = subst (λ (ls : List Lexeme). Begins (map Lexed ls ++ End at ∷ [])) (sym h.2) (by_first h.0 h.3)
  where
    by_first : (first : List Lexeme) → IsStatement first s → Begins (map Lexed (first ++ h.1) ++ End at ∷ [])
    by_first [] i = absurd i
    by_first (first ∷ lexemes) i = statement_begins first lexemes s i

statements_whole : (lexemes : List Lexeme) (ss : List Statement) (at : ℕ) → AreStatements lexemes ss → AreWhole (map Lexed lexemes ++ End at ∷ []) ss (End at ∷ [])
statements_whole lexemes [] at e = ap (λ (ls : List Lexeme). map Lexed ls ++ End at ∷ []) e
statements_whole lexemes (s ∷ ss) at h =
    let later : List Item = map Lexed h.1 ++ End at ∷ [] in
    let w : Whole (map Lexed h.0 ++ later) s later = derived_whole h.0 s later h.3 (begins_all h.1 ss at h.4) in
    let same : map Lexed h.0 ++ later ≡ map Lexed lexemes ++ End at ∷ [] = append_lexed h.0 h.1 (End at ∷ []) ∙ ap (λ (ls : List Lexeme). map Lexed ls ++ End at ∷ []) (sym h.2) in
    let w' : Whole (map Lexed lexemes ++ End at ∷ []) s later = subst (λ (is : List Item). Whole is s later) same w in
    (w'.0, later, w'.1, w'.2, w'.3, statements_whole h.1 ss at h.4)

pub source_read : (items : List Item) (ss : List Statement) → IsSourceOf items ss → (rest : List Item) × AreRead items ss rest × (at_end rest ≡ true)
source_read items ss h =
    let w : AreWhole items ss (End h.1 ∷ []) = subst (λ (is : List Item). AreWhole is ss (End h.1 ∷ [])) (sym h.2) (statements_whole h.0 ss h.1 h.3) in
    (End h.1 ∷ [], are_read items ss (End h.1 ∷ []) w, refl)

-- ---- One reading

end_fails : (items : List Item) (x : Statement × List Item) → at_end items ≡ true → statement_rule items ≡ Ok x → ⊥
unfolding statement_rule
end_fails [] x at e = cc
end_fails (Lexed l ∷ items) x at e = cc
end_fails (Bad fault ∷ items) x at e = cc
end_fails (End here ∷ items) x at e = cc

same_step : (items : List Item) (x y : Statement × List Item) → statement_rule items ≡ Ok x → statement_rule items ≡ Ok y → x ≡ y
same_step items x y e f = cc

agree : (items : List Item) (ss ts : List Statement) (r q : List Item) → AreRead items ss r → at_end r ≡ true → AreRead items ts q → at_end q ≡ true → ss ≡ ts
agree items [] [] r q a ra b qb = refl
agree items [] (t ∷ ts) r q a ra b qb = absurd (end_fails items (t, b.0) (ap at_end a ∙ ra) b.1)
agree items (s ∷ ss) [] r q a ra b qb = absurd (end_fails items (s, a.0) (ap at_end b ∙ qb) a.1)
agree items (s ∷ ss) (t ∷ ts) r q a ra b qb =
    let same = same_step items (s, a.0) (t, b.0) a.1 b.1 in
    let first : s ≡ t = ap (λ (p : Statement × List Item). p.0) same in
    let next : a.0 ≡ b.0 = ap (λ (p : Statement × List Item). p.1) same in
    let rest : ss ≡ ts = agree b.0 ss ts r q (subst (λ (is : List Item). AreRead is ss r) next a.2) ra b.2 qb in
    cc

no_fault : (items : List Item) (ss ts : List Statement) (r q : List Item) (fault : TextFault) → AreRead items ss r → at_end r ≡ true → AreRead items ts q → at_end q ≡ false → statement_rule q ≡ Err fault → ⊥
no_fault items [] [] r q fault a ra b qb e = true≢false (sym ra ∙ ap at_end (sym a ∙ b) ∙ qb)
no_fault items [] (t ∷ ts) r q fault a ra b qb e = end_fails items (t, b.0) (ap at_end a ∙ ra) b.1
no_fault items (s ∷ ss) [] r q fault a ra b qb e = let f = ap statement_rule b ∙ e in let g = a.1 in cc
no_fault items (s ∷ ss) (t ∷ ts) r q fault a ra b qb e =
    let same = same_step items (s, a.0) (t, b.0) a.1 b.1 in
    let next : a.0 ≡ b.0 = ap (λ (p : Statement × List Item). p.1) same in
    no_fault b.0 ss ts r q fault (subst (λ (is : List Item). AreRead is ss r) next a.2) ra b.2 qb e

same_fault : (items : List Item) (ss ts : List Statement) (r q : List Item) (fault other : TextFault) → AreRead items ss r → statement_rule r ≡ Err fault → AreRead items ts q → statement_rule q ≡ Err other → fault ≡ other
same_fault items [] [] r q fault other a e b f = let x = ap statement_rule a ∙ e in let y = ap statement_rule b ∙ f in cc
same_fault items [] (t ∷ ts) r q fault other a e b f = let x = ap statement_rule a ∙ e in let y = b.1 in absurd (cc)
same_fault items (s ∷ ss) [] r q fault other a e b f = let x = a.1 in let y = ap statement_rule b ∙ f in absurd (cc)
same_fault items (s ∷ ss) (t ∷ ts) r q fault other a e b f =
    let same = same_step items (s, a.0) (t, b.0) a.1 b.1 in
    let next : a.0 ≡ b.0 = ap (λ (p : Statement × List Item). p.1) same in
    same_fault b.0 ss ts r q fault other (subst (λ (is : List Item). AreRead is ss r) next a.2) e b.2 f

pub one_list : (items : List Item) (ss ts : List Statement) → IsSourceOf items ss → IsSourceOf items ts → ss ≡ ts
one_list items ss ts a b =
    let x : (rest : List Item) × AreRead items ss rest × (at_end rest ≡ true) = source_read items ss a in
    let y : (rest : List Item) × AreRead items ts rest × (at_end rest ≡ true) = source_read items ts b in
    agree items ss ts x.0 y.0 x.1 x.2 y.1 y.2

fault_steps : (items : List Item) (fault : TextFault) → HasFault items fault → (ts : List Statement) × (q : List Item) × AreRead items ts q × (at_end q ≡ false) × (statement_rule q ≡ Err fault)
fault_steps items fault h = (h.0, h.1, are_read items h.0 h.1 h.4, h.5, fault_read h.1 h.2 h.3 fault h.6 h.7)

pub one_fault : (items : List Item) (fault other : TextFault) → HasFault items fault → HasFault items other → fault ≡ other
one_fault items fault other a b =
    let x = fault_steps items fault a in
    let y = fault_steps items other b in
    same_fault items x.0 y.0 x.1 y.1 fault other x.2 x.4 y.2 y.4

pub source_no_fault : (items : List Item) (ss : List Statement) (fault : TextFault) → IsSourceOf items ss → HasFault items fault → ⊥
source_no_fault items ss fault a b =
    let x : (rest : List Item) × AreRead items ss rest × (at_end rest ≡ true) = source_read items ss a in
    let y = fault_steps items fault b in
    no_fault items ss y.0 x.0 y.1 fault x.1 x.2 y.2 y.3 y.4

-- ---- Every text has a reading

abbrev pub HasReading : List Item → Type 0
HasReading items = ((ss : List Statement) × IsSourceOf items ss) ⊎ ((fault : TextFault) × HasFault items fault)

reading_from : (fuel : ℕ) (items : List Item) (ss : List Statement) (rest : List Item) → EndsOnce items → AreWhole items ss rest → length rest ≤ fuel → HasReading items
reading_from zero items ss [] ends w h = inl (ss, read_source items ss [] ends w refl)
reading_from zero items ss (item ∷ rest) ends w h = absurd (omega arith)
reading_from (suc fuel) items ss rest ends w h = by_end (at_end rest) refl (λ s next e. reading_from fuel items (ss ++ s ∷ []) next ends (whole_one_more items ss rest s next w e) (let t : length next < length rest = statement_takes rest s next e in omega arith))
  where
    by_end : (b : Bool) → at_end rest ≡ b → ((s : Statement) (next : List Item) → statement_rule rest ≡ Ok (s, next) → HasReading items) → HasReading items
    by_end true e later = inl (ss, read_source items ss rest ends w e)
    by_end false e later = by_step (statement_rule rest) refl
      where
        by_step : (r : Result (Statement × List Item) TextFault) → statement_rule rest ≡ r → HasReading items
        by_step (Ok x) d = later x.0 x.1 d
        by_step (Err fault) d = inr (fault, read_fault items ss rest fault w e d)

pub has_reading : (items : List Item) → EndsOnce items → HasReading items
has_reading items ends = reading_from (length items) items [] items ends refl (omega arith)

-- ---- The items of a text

abbrev NoEnd : Item → Type 0
NoEnd (Lexed lexeme) = Unit {0}
NoEnd (Bad fault) = Unit {0}
NoEnd (End at) = ⊥

pick : (t : Bool) (i j : Item) → NoEnd i → NoEnd j → NoEnd (cond t i j)
pick true i j a b = a
pick false i j a b = b

word_no_end : (at : ℕ) (word : List ℕ) → NoEnd (word_item at word)
unfolding word_item
word_no_end at word = pick (is_ascii_digit (slice_index word 0)) _ (Lexed (record { at = at; token = name_token word })) (go (number_of word)) tt
  where
    go : (n : Option ℕ) → NoEnd (option_map_or (λ n. Lexed (record { at = at; token = Num n })) n (Bad (Number at)))
    go None = tt
    go (Some n) = tt

item_no_end : (at b : ℕ) (bytes : List ℕ) → NoEnd (item_at at (b ∷ bytes))
item_no_end at b bytes = pick (is_word_byte b) (word_item at (word_at (b ∷ bytes))) _ (word_no_end at (word_at (b ∷ bytes))) (pick (is_mark b) (Lexed (record { at = at; token = Mark b })) (Bad (Character at)) tt tt)

keeps_end : (item : Item) (items : List Item) → NoEnd item → EndsOnce items → EndsOnce (item ∷ items)
keeps_end (Lexed lexeme) items n h = h
keeps_end (Bad fault) items n h = h
keeps_end (End at) items n h = absurd n

pub text_ends : (before skip at : ℕ) (bytes : List ℕ) → EndsOnce (items_from before skip at bytes)
unfolding items_from
text_ends before zero at [] = tt
text_ends before (suc skip) at [] = tt
text_ends before (suc skip) at (b ∷ bytes) = text_ends b skip (at + 1) bytes
text_ends before zero at (b ∷ bytes) = by_blank (nat_lt 0 (blank_len before (b ∷ bytes))) (text_ends b (blank_len before (b ∷ bytes) - 1) (at + 1) bytes) (keeps_end (item_at at (b ∷ bytes)) (items_from b (token_len (b ∷ bytes) - 1) (at + 1) bytes) (item_no_end at b bytes) (text_ends b (token_len (b ∷ bytes) - 1) (at + 1) bytes))
  where
    by_blank : (t : Bool) → EndsOnce (items_from b (blank_len before (b ∷ bytes) - 1) (at + 1) bytes) → EndsOnce (item_at at (b ∷ bytes) ∷ items_from b (token_len (b ∷ bytes) - 1) (at + 1) bytes) → EndsOnce (cond t (items_from b (blank_len before (b ∷ bytes) - 1) (at + 1) bytes) (item_at at (b ∷ bytes) ∷ items_from b (token_len (b ∷ bytes) - 1) (at + 1) bytes))
    by_blank true x y = x
    by_blank false x y = y

pub text_items_end : (text : List ℕ) → EndsOnce (items_at text 0)
unfolding items_at
text_items_end text = text_ends 10 0 0 text

-- ---- The laws

pub one_reading : (text : List ℕ) → OneReading text
one_reading text = (
  (λ ss ts a b. one_list (items_at text 0) ss ts a b),
  (λ fault other a b. one_fault (items_at text 0) fault other a b),
  (λ ss fault a b. source_no_fault (items_at text 0) ss fault a b),
  has_reading (items_at text 0) (text_items_end text),
)

pub may_follow : LeavesWhatMayFollow
may_follow at lexemes left e = (
  (λ tokens s spells. spelled_from_left lexemes (statement at) left tokens s e spells),
  (λ tokens s spells. left_from_spelled lexemes (statement at) left tokens s (good_statement at) e spells),
  spells_some left,
  (λ token tokens s none spells. refused_never_spelled lexemes (statement at) left token tokens s (good_statement at) e none spells),
)
