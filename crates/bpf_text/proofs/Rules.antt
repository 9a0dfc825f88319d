-- The parser's functions read what the forms of the grammar give.
use Rattle.std.proofs.Common.{◌≡◌, ℕ, true, false, cond, ◌==◌, List, [], ◌∷◌, Option, Some, None, refl, ◌∙◌, Ok, Err, nat_lt, nat_le, ◌^◌, ◌%◌, ◌-◌}
use Rattle.bpf_text.specs.declared.keyword.Mnemonic.{Mnemonic}
use Rattle.bpf_text.specs.declared.keyword.Mnemonic.TheVariants.{Ld, Ldi, Ldh, Ldb, Ldx, Ldxi, Ldxb, St, Stx, Jmp, Ja, Jeq, Jneq, Jne, Jlt, Jle, Jgt, Jge, Jset, Add, Sub, Mul, Div, Mod, Neg, And, Or, Xor, Lsh, Rsh, Tax, Txa, Ret}
use Rattle.bpf_text.specs.declared.keyword.Keyword.TheVariants.{Mnemonic as Named, X as WordX, A as WordA, M as WordM, Len as WordLen}
use Rattle.bpf_text.specs.declared.statement.Source.{Source}
use Rattle.bpf_text.specs.declared.statement.Source.TheVariants.{K, X}
use Rattle.bpf_text.specs.Tokens.{Token, Word, Name, Num, Mark, Item, Lexed, Bad, End, next_token, after_mark, begins_with_mark}
use Rattle.bpf_text.specs.Grammar.{Operand, Nothing, Immediate, Absolute, Indirect, Scratch, HeaderLength, Len, Value, A, Target, Branch, Statement, Size, Opposite, TheX, TheA, Exactly, Form, Gives, Then, mark, ◌or◌, number, register, packet, scratch, header_length, immediate, length_word, immediate_or_length, source, target, branch, one_way, two_way, operand, instruction, labelled, statement, form_at}
use Rattle.bpf_text.specs.Reading.{Read, ◌>>=◌, positive, negative, is_x, is_a, mark_rule, number_after, number_rule, exact_rule, after_percent, indirect_rule, packet_rule, scratch_rule, header_rule, hash_rule, immediate_rule, source_rule, target_at, target_rule, ld_rule, ldi_rule, ldh_rule, ldx_rule, ldxb_rule, st_rule, jump_rule, branch_rule, one_way_rule, two_way_rule, alu_rule, ret_rule, operand_rule, instruction_rule, labelled_at, labelled_rule, statement_at, statement_rule}
use Rattle.bpf_text.proofs.Bits.{bool_cases}
use Rattle.bpf_text.proofs.Forms.{Good, read}

-- ---- Every form of the grammar is good

good_number : (f : ℕ → Form) → ((n : ℕ) → Good (f n)) → Good (number f)
good_number f g = (g, ((λ _. g), (λ _. g), refl, refl, refl), refl, refl, refl)

good_register : (f : Form) → Good f → Good (register f)
good_register f g = ((λ _. g), (λ _ _. g), refl, refl, refl)

good_packet : (w : Operand → Statement) → Good (packet (λ o. Gives (w o)))
good_packet w = (good_register (mark 43 (number (λ n. mark 93 (Gives (w (Indirect n)))))) (λ _. good_number (λ n. mark 93 (Gives (w (Indirect n)))) (λ n _. tt)), good_number (λ n. mark 93 (Gives (w (Absolute n)))) (λ n _. tt), refl, refl, refl)

good_immediate : (w : Operand → Statement) → Good (immediate (λ o. Gives (w o)))
good_immediate w = λ _. good_number (λ n. Gives (w (Immediate n))) (λ n. tt)

good_hash : (w : Operand → Statement) → Good (immediate_or_length (λ o. Gives (w o)))
good_hash w = λ _. ((λ _. tt), good_number (λ n. Gives (w (Immediate n))) (λ n. tt), refl, refl, refl)

good_scratch : (w : Operand → Statement) → Good (scratch (λ o. Gives (w o)))
good_scratch w = λ _ _. good_number (λ n. mark 93 (Gives (w (Scratch n)))) (λ n _. tt)

good_header : (w : Operand → Statement) → Good (header_length (λ o. Gives (w o)))
good_header w = λ _ _ _ _. good_number (λ n. mark 93 (mark 38 (Then (Exactly 15) (λ _. mark 41 (Gives (w (HeaderLength n))))))) (λ n _ _ _ _. tt)

good_source : (f : Source → Form) → ((s : Source) → Good (f s)) → Good (source f)
good_source f g = ((λ _. good_number (λ n. f (K n)) (λ n. g (K n))), good_register (f X) (g X), refl, refl, refl)

good_one_way : (w : Operand → Statement) → Good (one_way (λ o. Gives (w o)))
good_one_way w = good_source (λ s. mark 44 (target (λ t. Gives (w (Branch s t None))))) (λ s _ t. tt)

good_two_way : (w : Operand → Statement) → Good (two_way (λ o. Gives (w o)))
good_two_way w = good_source (λ s. mark 44 (target (λ t. mark 44 (target (λ e. Gives (w (Branch s t (Some e))))) or Gives (w (Branch s t None))))) (λ s _ t. ((λ _ e. tt), tt, refl, refl, refl))

good_ldi : (w : Operand → Statement) → Good (operand Ldi (λ o. Gives (w o)))
good_ldi w = (good_immediate w, good_number (λ n. Gives (w (Immediate n))) (λ n. tt), refl, refl, refl)

good_alu : (w : Operand → Statement) → Good (source (λ s. Gives (w (Value s))))
good_alu w = good_source (λ s. Gives (w (Value s))) (λ s. tt)

pub good_operand : (m : Mnemonic) (w : Operand → Statement) → Good (operand m (λ o. Gives (w o)))
good_operand Ld w = ((λ _. good_packet w), (good_hash w, (good_scratch w, (λ _. tt), refl, refl, refl), refl, refl, refl), refl, refl, refl)
good_operand Ldi w = good_ldi w
good_operand Ldxi w = good_ldi w
good_operand Ldh w = λ _. good_packet w
good_operand Ldb w = λ _. good_packet w
good_operand Ldx w = (good_hash w, (good_scratch w, ((λ _. tt), good_header w, refl, refl, refl), refl, refl, refl), refl, refl, refl)
good_operand Ldxb w = good_header w
good_operand St w = good_scratch w
good_operand Stx w = good_scratch w
good_operand Jmp w = λ t. tt
good_operand Ja w = λ t. tt
good_operand Jeq w = good_two_way w
good_operand Jgt w = good_two_way w
good_operand Jge w = good_two_way w
good_operand Jset w = good_two_way w
good_operand Jneq w = good_one_way w
good_operand Jne w = good_one_way w
good_operand Jlt w = good_one_way w
good_operand Jle w = good_one_way w
good_operand Neg w = tt
good_operand Tax w = tt
good_operand Txa w = tt
good_operand Ret w = (good_immediate w, ((λ _. tt), (λ _ _. tt), refl, refl, refl), refl, refl, refl)
good_operand Add w = good_alu w
good_operand Sub w = good_alu w
good_operand Mul w = good_alu w
good_operand Div w = good_alu w
good_operand Mod w = good_alu w
good_operand And w = good_alu w
good_operand Or w = good_alu w
good_operand Xor w = good_alu w
good_operand Lsh w = good_alu w
good_operand Rsh w = good_alu w

pub good_labelled : (at : ℕ) → Good (labelled at)
good_labelled at = λ label _ m. good_operand m _

pub good_statement : (at : ℕ) → Good (statement at)
good_statement at = (good_labelled at, (λ m. good_operand m _), refl, refl, refl)

-- ---- One token

bind_bind : {R S T : Type 0} (r : Read R) (f : R × List Item → Read S) (g : S × List Item → Read T) → ((r >>= f) >>= g) ≡ (r >>= (λ x. f x >>= g))
bind_bind (Ok x) f g = refl
bind_bind (Err fault) f g = refl

abbrev Next : {T : Type 0} → (T × List Item → Read Statement) → (T → Form) → Type 0
Next {T} k f = (v : T) (rest : List Item) → k (v, rest) ≡ read rest (f v)

-- a rule and the form that it reads, whatever follows
abbrev Agree : {T : Type 0} → (List Item → Read T) → ((T → Form) → Form) → Type 0
Agree {T} rule form = (k : T × List Item → Read Statement) (f : T → Form) → Next k f → (items : List Item) → (rule items >>= k) ≡ read items (form f)

mark_reads : (b : ℕ) → Agree (mark_rule b) (λ f. mark b (f tt))
unfolding mark_rule
mark_reads b k f h [] = refl
mark_reads b k f h (Bad fault ∷ items) = refl
mark_reads b k f h (End at ∷ items) = refl
mark_reads b k f h (Lexed lexeme ∷ items) = go lexeme.at lexeme.token
  where
    go : (at : ℕ) (token : Token) → (mark_rule b (Lexed (record { at = at; token = token }) ∷ items) >>= k) ≡ read (Lexed (record { at = at; token = token }) ∷ items) (mark b (f tt))
    go at (Word w) = refl
    go at (Name name) = refl
    go at (Num n) = refl
    go at (Mark c) = bool_cases (c == b) (λ e. rw e (h tt items)) (λ e. rw e refl)

exact_reads : (n : ℕ) → Agree (exact_rule n) (λ f. Then (Exactly n) f)
unfolding exact_rule
exact_reads n k f h [] = refl
exact_reads n k f h (Bad fault ∷ items) = refl
exact_reads n k f h (End at ∷ items) = refl
exact_reads n k f h (Lexed lexeme ∷ items) = go lexeme.at lexeme.token
  where
    go : (at : ℕ) (token : Token) → (exact_rule n (Lexed (record { at = at; token = token }) ∷ items) >>= k) ≡ read (Lexed (record { at = at; token = token }) ∷ items) (Then (Exactly n) f)
    go at (Word w) = refl
    go at (Name name) = refl
    go at (Num m) = bool_cases (m == n) (λ e. rw e (h tt items)) (λ e. rw e refl)
    go at (Mark c) = refl

percent_x_reads : Agree (after_percent is_x) (λ f. Then TheX f)
unfolding after_percent
percent_x_reads k f h [] = refl
percent_x_reads k f h (Bad fault ∷ items) = refl
percent_x_reads k f h (End at ∷ items) = refl
percent_x_reads k f h (Lexed lexeme ∷ items) = go lexeme.at lexeme.token
  where
    go : (at : ℕ) (token : Token) → (after_percent is_x (Lexed (record { at = at; token = token }) ∷ items) >>= k) ≡ read (Lexed (record { at = at; token = token }) ∷ items) (Then TheX f)
    go at (Word WordX) = h tt items
    go at (Word WordA) = refl
    go at (Word WordM) = refl
    go at (Word WordLen) = refl
    go at (Word (Named m)) = refl
    go at (Name name) = refl
    go at (Num m) = refl
    go at (Mark c) = refl

percent_a_reads : Agree (after_percent is_a) (λ f. Then TheA f)
unfolding after_percent
percent_a_reads k f h [] = refl
percent_a_reads k f h (Bad fault ∷ items) = refl
percent_a_reads k f h (End at ∷ items) = refl
percent_a_reads k f h (Lexed lexeme ∷ items) = go lexeme.at lexeme.token
  where
    go : (at : ℕ) (token : Token) → (after_percent is_a (Lexed (record { at = at; token = token }) ∷ items) >>= k) ≡ read (Lexed (record { at = at; token = token }) ∷ items) (Then TheA f)
    go at (Word WordX) = refl
    go at (Word WordA) = h tt items
    go at (Word WordM) = refl
    go at (Word WordLen) = refl
    go at (Word (Named m)) = refl
    go at (Name name) = refl
    go at (Num m) = refl
    go at (Mark c) = refl

target_reads : Agree target_rule target
unfolding target_rule target_at
target_reads k f h [] = refl
target_reads k f h (Bad fault ∷ items) = refl
target_reads k f h (End at ∷ items) = refl
target_reads k f h (Lexed lexeme ∷ items) = go lexeme.at lexeme.token
  where
    go : (at : ℕ) (token : Token) → (target_rule (Lexed (record { at = at; token = token }) ∷ items) >>= k) ≡ read (Lexed (record { at = at; token = token }) ∷ items) (target f)
    go at (Word w) = refl
    go at (Name name) = h name items
    go at (Num m) = refl
    go at (Mark c) = refl

-- ---- Numbers

plus_reads : Agree (λ items. next_token items >>= (λ l. positive l.0.at l.0.token >>= (λ n. Ok (n, l.1)))) (λ f. Then Size f)
unfolding positive
plus_reads k f h [] = refl
plus_reads k f h (Bad fault ∷ items) = refl
plus_reads k f h (End at ∷ items) = refl
plus_reads k f h (Lexed lexeme ∷ items) = go lexeme.at lexeme.token
  where
    go : (at : ℕ) (token : Token) → ((positive at token >>= (λ n. Ok (n, items))) >>= k) ≡ read (Lexed (record { at = at; token = token }) ∷ items) (Then Size f)
    go at (Word w) = refl
    go at (Name name) = refl
    go at (Num n) = bool_cases (nat_lt n (2 ^ 32)) (λ e. rw e (h n items)) (λ e. rw e refl)
    go at (Mark c) = refl

minus_reads : Agree (λ items. next_token items >>= (λ l. negative l.0.at l.0.token >>= (λ n. Ok (n, l.1)))) (λ f. Then Opposite f)
unfolding negative
minus_reads k f h [] = refl
minus_reads k f h (Bad fault ∷ items) = refl
minus_reads k f h (End at ∷ items) = refl
minus_reads k f h (Lexed lexeme ∷ items) = go lexeme.at lexeme.token
  where
    go : (at : ℕ) (token : Token) → ((negative at token >>= (λ n. Ok (n, items))) >>= k) ≡ read (Lexed (record { at = at; token = token }) ∷ items) (Then Opposite f)
    go at (Word w) = refl
    go at (Name name) = refl
    go at (Num n) = bool_cases (nat_le n (2 ^ 31)) (λ e. rw e (h ((2 ^ 32 - n) % 2 ^ 32) items)) (λ e. rw e refl)
    go at (Mark c) = refl

-- the result of reading a form at its first token
abbrev at_token : Form → ℕ → Token → List Item → Read Statement
at_token f at token items = read (Lexed (record { at = at; token = token }) ∷ items) f

number_after_reads : (k : ℕ × List Item → Read Statement) (f : ℕ → Form) → Next k f → (at : ℕ) (token : Token) (items : List Item) → (number_after at token items >>= k) ≡ at_token (number f) at token items
unfolding number_after positive
number_after_reads k f h at (Word w) items = refl
number_after_reads k f h at (Name name) items = refl
number_after_reads k f h at (Num n) items = bool_cases (nat_lt n (2 ^ 32)) (λ e. rw e (h n items)) (λ e. rw e refl)
number_after_reads k f h at (Mark b) items = bool_cases (b == 43) (λ e. rw e (plus_reads k f h items)) (λ e. rw e (bool_cases (b == 45) (λ d. rw d (minus_reads k f h items)) (λ d. rw d refl)))

number_reads : Agree number_rule number
unfolding number_rule
number_reads k f h [] = refl
number_reads k f h (Bad fault ∷ items) = refl
number_reads k f h (End at ∷ items) = refl
number_reads k f h (Lexed lexeme ∷ items) = number_after_reads k f h lexeme.at lexeme.token items

-- ---- Operands

indirect_reads : Agree indirect_rule (λ f. mark 43 (number (λ n. mark 93 (f (Indirect n)))))
unfolding indirect_rule
indirect_reads k f h items =
    bind_bind (mark_rule 43 items) _ k ∙ mark_reads 43 _ (λ _. number (λ n. mark 93 (f (Indirect n)))) (λ _ a.
    bind_bind (number_rule a) _ k ∙ number_reads _ (λ n. mark 93 (f (Indirect n))) (λ n b.
    bind_bind (mark_rule 93 b) _ k ∙ mark_reads 93 _ (λ _. f (Indirect n)) (λ _ c. h (Indirect n) c) b) a) items

scratch_reads : Agree scratch_rule (λ f. mark 91 (number (λ n. mark 93 (f (Scratch n)))))
unfolding scratch_rule
scratch_reads k f h items =
    bind_bind (mark_rule 91 items) _ k ∙ mark_reads 91 _ (λ _. number (λ n. mark 93 (f (Scratch n)))) (λ _ a.
    bind_bind (number_rule a) _ k ∙ number_reads _ (λ n. mark 93 (f (Scratch n))) (λ n b.
    bind_bind (mark_rule 93 b) _ k ∙ mark_reads 93 _ (λ _. f (Scratch n)) (λ _ c. h (Scratch n) c) b) a) items

header_reads : Agree header_rule (λ f. mark 42 (mark 40 (mark 91 (number (λ n. mark 93 (mark 38 (Then (Exactly 15) (λ _. mark 41 (f (HeaderLength n))))))))))
unfolding header_rule
header_reads k f h items =
    bind_bind (mark_rule 42 items) _ k ∙ mark_reads 42 _ (λ _. mark 40 (mark 91 (number (λ n. mark 93 (mark 38 (Then (Exactly 15) (λ _. mark 41 (f (HeaderLength n))))))))) (λ _ a.
    bind_bind (mark_rule 40 a) _ k ∙ mark_reads 40 _ (λ _. mark 91 (number (λ n. mark 93 (mark 38 (Then (Exactly 15) (λ _. mark 41 (f (HeaderLength n)))))))) (λ _ b.
    bind_bind (mark_rule 91 b) _ k ∙ mark_reads 91 _ (λ _. number (λ n. mark 93 (mark 38 (Then (Exactly 15) (λ _. mark 41 (f (HeaderLength n))))))) (λ _ c.
    bind_bind (number_rule c) _ k ∙ number_reads _ (λ n. mark 93 (mark 38 (Then (Exactly 15) (λ _. mark 41 (f (HeaderLength n)))))) (λ n d.
    bind_bind (mark_rule 93 d) _ k ∙ mark_reads 93 _ (λ _. mark 38 (Then (Exactly 15) (λ _. mark 41 (f (HeaderLength n))))) (λ _ e.
    bind_bind (mark_rule 38 e) _ k ∙ mark_reads 38 _ (λ _. Then (Exactly 15) (λ _. mark 41 (f (HeaderLength n)))) (λ _ g.
    bind_bind (exact_rule 15 g) _ k ∙ exact_reads 15 _ (λ _. mark 41 (f (HeaderLength n))) (λ _ i.
    bind_bind (mark_rule 41 i) _ k ∙ mark_reads 41 _ (λ _. f (HeaderLength n)) (λ _ j. h (HeaderLength n) j) i) g) e) d) c) b) a) items

immediate_reads : Agree immediate_rule (λ f. number (λ n. f (Immediate n)))
unfolding immediate_rule
immediate_reads k f h items = bind_bind (number_rule items) _ k ∙ number_reads _ (λ n. f (Immediate n)) (λ n a. h (Immediate n) a) items

packet_reads : Agree packet_rule packet
unfolding packet_rule number_after positive
packet_reads k f h [] = refl
packet_reads k f h (Bad fault ∷ items) = refl
packet_reads k f h (End at ∷ items) = refl
packet_reads k f h (Lexed lexeme ∷ items) = go lexeme.at lexeme.token
  where
    absolute : (at : ℕ) (token : Token) → ((number_after at token items >>= (λ n. mark_rule 93 n.1 >>= (λ c. Ok (Absolute n.0, c.1)))) >>= k) ≡ at_token (number (λ n. mark 93 (f (Absolute n)))) at token items
    absolute at token =
        bind_bind (number_after at token items) _ k ∙ number_after_reads _ (λ n. mark 93 (f (Absolute n))) (λ n a.
        bind_bind (mark_rule 93 a) _ k ∙ mark_reads 93 _ (λ _. f (Absolute n)) (λ _ b. h (Absolute n) b) a) at token items

    percent : ((after_percent is_x items >>= (λ x. indirect_rule x.1)) >>= k) ≡ read items (Then TheX (λ _. mark 43 (number (λ n. mark 93 (f (Indirect n))))))
    percent = bind_bind (after_percent is_x items) _ k ∙ percent_x_reads _ (λ _. mark 43 (number (λ n. mark 93 (f (Indirect n))))) (λ _ a. indirect_reads k f h a) items

    go : (at : ℕ) (token : Token) → (packet_rule (Lexed (record { at = at; token = token }) ∷ items) >>= k) ≡ at_token (packet f) at token items
    go at (Word WordX) = indirect_reads k f h items
    go at (Word WordA) = refl
    go at (Word WordM) = refl
    go at (Word WordLen) = refl
    go at (Word (Named m)) = refl
    go at (Name name) = refl
    go at (Num n) = absolute at (Num n)
    go at (Mark b) = bool_cases (b == 37) (λ e. rw e percent) (λ e. rw e (absolute at (Mark b)))

-- #n, #len and len, and the words that stand alone

hash_reads : Agree hash_rule (λ f. length_word f or number (λ n. f (Immediate n)))
unfolding hash_rule number_after positive
hash_reads k f h [] = refl
hash_reads k f h (Bad fault ∷ items) = refl
hash_reads k f h (End at ∷ items) = refl
hash_reads k f h (Lexed lexeme ∷ items) = go lexeme.at lexeme.token
  where
    value : (at : ℕ) (token : Token) → ((number_after at token items >>= (λ n. Ok (Immediate n.0, n.1))) >>= k) ≡ at_token (number (λ n. f (Immediate n))) at token items
    value at token = bind_bind (number_after at token items) _ k ∙ number_after_reads _ (λ n. f (Immediate n)) (λ n a. h (Immediate n) a) at token items

    go : (at : ℕ) (token : Token) → (hash_rule (Lexed (record { at = at; token = token }) ∷ items) >>= k) ≡ at_token (length_word f or number (λ n. f (Immediate n))) at token items
    go at (Word WordX) = refl
    go at (Word WordA) = refl
    go at (Word WordM) = refl
    go at (Word WordLen) = h Len items
    go at (Word (Named m)) = refl
    go at (Name name) = refl
    go at (Num n) = value at (Num n)
    go at (Mark b) = value at (Mark b)

source_reads : Agree source_rule source
unfolding source_rule
source_reads k f h [] = refl
source_reads k f h (Bad fault ∷ items) = refl
source_reads k f h (End at ∷ items) = refl
source_reads k f h (Lexed lexeme ∷ items) = go lexeme.at lexeme.token
  where
    value : ((number_rule items >>= (λ n. Ok (K n.0, n.1))) >>= k) ≡ read items (number (λ n. f (K n)))
    value = bind_bind (number_rule items) _ k ∙ number_reads _ (λ n. f (K n)) (λ n a. h (K n) a) items

    percent : ((after_percent is_x items >>= (λ x. Ok (X, x.1))) >>= k) ≡ read items (Then TheX (λ _. f X))
    percent = bind_bind (after_percent is_x items) _ k ∙ percent_x_reads _ (λ _. f X) (λ _ a. h X a) items

    go : (at : ℕ) (token : Token) → (source_rule (Lexed (record { at = at; token = token }) ∷ items) >>= k) ≡ at_token (source f) at token items
    go at (Word WordX) = h X items
    go at (Word WordA) = refl
    go at (Word WordM) = refl
    go at (Word WordLen) = refl
    go at (Word (Named m)) = refl
    go at (Name name) = refl
    go at (Num n) = refl
    go at (Mark b) = bool_cases (b == 35) (λ e. rw e value) (λ e. rw e (bool_cases (b == 37) (λ d. rw d percent) (λ d. rw d refl)))

ld_reads : Agree ld_rule (operand Ld)
unfolding ld_rule
ld_reads k f h [] = refl
ld_reads k f h (Bad fault ∷ items) = refl
ld_reads k f h (End at ∷ items) = refl
ld_reads k f h (Lexed lexeme ∷ items) = go lexeme.at lexeme.token
  where
    go : (at : ℕ) (token : Token) → (ld_rule (Lexed (record { at = at; token = token }) ∷ items) >>= k) ≡ at_token (operand Ld f) at token items
    go at (Word WordX) = refl
    go at (Word WordA) = refl
    go at (Word WordM) = scratch_reads k f h items
    go at (Word WordLen) = h Len items
    go at (Word (Named m)) = refl
    go at (Name name) = refl
    go at (Num n) = refl
    go at (Mark b) = bool_cases (b == 91) (λ e. rw e (packet_reads k f h items)) (λ e. rw e (bool_cases (b == 35) (λ d. rw d (hash_reads k f h items)) (λ d. rw d refl)))

ldi_reads : Agree ldi_rule (operand Ldi)
unfolding ldi_rule number_after positive
ldi_reads k f h [] = refl
ldi_reads k f h (Bad fault ∷ items) = refl
ldi_reads k f h (End at ∷ items) = refl
ldi_reads k f h (Lexed lexeme ∷ items) = go lexeme.at lexeme.token
  where
    value : (at : ℕ) (token : Token) → ((number_after at token items >>= (λ n. Ok (Immediate n.0, n.1))) >>= k) ≡ at_token (number (λ n. f (Immediate n))) at token items
    value at token = bind_bind (number_after at token items) _ k ∙ number_after_reads _ (λ n. f (Immediate n)) (λ n a. h (Immediate n) a) at token items

    go : (at : ℕ) (token : Token) → (ldi_rule (Lexed (record { at = at; token = token }) ∷ items) >>= k) ≡ at_token (operand Ldi f) at token items
    go at (Word w) = refl
    go at (Name name) = refl
    go at (Num n) = value at (Num n)
    go at (Mark b) = bool_cases (b == 35) (λ e. rw e (immediate_reads k f h items)) (λ e. rw e (value at (Mark b)))

ldh_reads : Agree ldh_rule (operand Ldh)
unfolding ldh_rule
ldh_reads k f h items = bind_bind (mark_rule 91 items) _ k ∙ mark_reads 91 _ (λ _. packet f) (λ _ a. packet_reads k f h a) items

ldx_reads : Agree ldx_rule (operand Ldx)
unfolding ldx_rule
ldx_reads k f h [] = refl
ldx_reads k f h (Bad fault ∷ items) = refl
ldx_reads k f h (End at ∷ items) = refl
ldx_reads k f h (Lexed lexeme ∷ items) = go lexeme.at lexeme.token
  where
    go : (at : ℕ) (token : Token) → (ldx_rule (Lexed (record { at = at; token = token }) ∷ items) >>= k) ≡ at_token (operand Ldx f) at token items
    go at (Word WordX) = refl
    go at (Word WordA) = refl
    go at (Word WordM) = scratch_reads k f h items
    go at (Word WordLen) = h Len items
    go at (Word (Named m)) = refl
    go at (Name name) = refl
    go at (Num n) = bool_cases (n == 4) (λ e. rw e (header_reads k f h items)) (λ e. rw e refl)
    go at (Mark b) = bool_cases (b == 35) (λ e. rw e (hash_reads k f h items)) (λ e. rw e refl)

ldxb_reads : Agree ldxb_rule (operand Ldxb)
unfolding ldxb_rule
ldxb_reads k f h items = bind_bind (exact_rule 4 items) _ k ∙ exact_reads 4 _ (λ _. mark 42 (mark 40 (mark 91 (number (λ n. mark 93 (mark 38 (Then (Exactly 15) (λ _. mark 41 (f (HeaderLength n)))))))))) (λ _ a. header_reads k f h a) items

st_reads : Agree st_rule (operand St)
unfolding st_rule
st_reads k f h [] = refl
st_reads k f h (Bad fault ∷ items) = refl
st_reads k f h (End at ∷ items) = refl
st_reads k f h (Lexed lexeme ∷ items) = go lexeme.at lexeme.token
  where
    go : (at : ℕ) (token : Token) → (st_rule (Lexed (record { at = at; token = token }) ∷ items) >>= k) ≡ at_token (operand St f) at token items
    go at (Word WordX) = refl
    go at (Word WordA) = refl
    go at (Word WordM) = scratch_reads k f h items
    go at (Word WordLen) = refl
    go at (Word (Named m)) = refl
    go at (Name name) = refl
    go at (Num n) = refl
    go at (Mark b) = refl

jump_reads : Agree jump_rule (operand Jmp)
unfolding jump_rule
jump_reads k f h items = bind_bind (target_rule items) _ k ∙ target_reads _ (λ t. f (Target t)) (λ t a. h (Target t) a) items

branch_reads : Agree branch_rule (λ f. branch (λ s t. f (s, t)))
unfolding branch_rule
branch_reads k f h items =
    bind_bind (source_rule items) _ k ∙ source_reads _ (λ s. mark 44 (target (λ t. f (s, t)))) (λ s a.
    bind_bind (mark_rule 44 a) _ k ∙ mark_reads 44 _ (λ _. target (λ t. f (s, t))) (λ _ b.
    bind_bind (target_rule b) _ k ∙ target_reads _ (λ t. f (s, t)) (λ t c. h (s, t) c) b) a) items

one_way_reads : Agree one_way_rule one_way
unfolding one_way_rule
one_way_reads k f h items = bind_bind (branch_rule items) _ k ∙ branch_reads _ (λ p. f (Branch p.0 p.1 None)) (λ p a. h (Branch p.0 p.1 None) a) items

-- a form that ends here, or goes on with a comma
optional : (k : Operand × List Item → Read Statement) (w : Operand → Statement) → Next k (λ o. Gives (w o)) → (s : Source) (t : List ℕ) (items : List Item) → (cond (after_mark 44 items).0 (target_rule (after_mark 44 items).1 >>= (λ e. Ok (Branch s t (Some e.0), e.1))) (Ok (Branch s t None, (after_mark 44 items).1)) >>= k) ≡ read items (mark 44 (target (λ e. Gives (w (Branch s t (Some e))))) or Gives (w (Branch s t None)))
optional k w h s t [] = h (Branch s t None) []
optional k w h s t (Bad fault ∷ items) = h (Branch s t None) (Bad fault ∷ items)
optional k w h s t (End at ∷ items) = h (Branch s t None) (End at ∷ items)
optional k w h s t (Lexed lexeme ∷ items) = go lexeme.at lexeme.token
  where
    go : (at : ℕ) (token : Token) → (cond (after_mark 44 (Lexed (record { at = at; token = token }) ∷ items)).0 (target_rule (after_mark 44 (Lexed (record { at = at; token = token }) ∷ items)).1 >>= (λ e. Ok (Branch s t (Some e.0), e.1))) (Ok (Branch s t None, (after_mark 44 (Lexed (record { at = at; token = token }) ∷ items)).1)) >>= k) ≡ at_token (mark 44 (target (λ e. Gives (w (Branch s t (Some e))))) or Gives (w (Branch s t None))) at token items
    go at (Word v) = h (Branch s t None) (Lexed (record { at = at; token = Word v }) ∷ items)
    go at (Name name) = h (Branch s t None) (Lexed (record { at = at; token = Name name }) ∷ items)
    go at (Num n) = h (Branch s t None) (Lexed (record { at = at; token = Num n }) ∷ items)
    go at (Mark b) = bool_cases (b == 44)
        (λ e. rw e (bind_bind (target_rule items) _ k ∙ target_reads _ (λ e. Gives (w (Branch s t (Some e)))) (λ e a. h (Branch s t (Some e)) a) items))
        (λ e. rw e (h (Branch s t None) (Lexed (record { at = at; token = Mark b }) ∷ items)))

two_way_reads : (k : Operand × List Item → Read Statement) (w : Operand → Statement) → Next k (λ o. Gives (w o)) → (items : List Item) → (two_way_rule items >>= k) ≡ read items (two_way (λ o. Gives (w o)))
unfolding two_way_rule
two_way_reads k w h items = bind_bind (branch_rule items) _ k ∙ branch_reads _ (λ p. mark 44 (target (λ e. Gives (w (Branch p.0 p.1 (Some e))))) or Gives (w (Branch p.0 p.1 None))) (λ p a. optional k w h p.0 p.1 a) items

alu_reads : Agree alu_rule (λ f. source (λ s. f (Value s)))
unfolding alu_rule
alu_reads k f h items = bind_bind (source_rule items) _ k ∙ source_reads _ (λ s. f (Value s)) (λ s a. h (Value s) a) items

ret_reads : Agree ret_rule (operand Ret)
unfolding ret_rule
ret_reads k f h [] = refl
ret_reads k f h (Bad fault ∷ items) = refl
ret_reads k f h (End at ∷ items) = refl
ret_reads k f h (Lexed lexeme ∷ items) = go lexeme.at lexeme.token
  where
    percent : ((after_percent is_a items >>= (λ x. Ok (A, x.1))) >>= k) ≡ read items (Then TheA (λ _. f A))
    percent = bind_bind (after_percent is_a items) _ k ∙ percent_a_reads _ (λ _. f A) (λ _ a. h A a) items

    go : (at : ℕ) (token : Token) → (ret_rule (Lexed (record { at = at; token = token }) ∷ items) >>= k) ≡ at_token (operand Ret f) at token items
    go at (Word WordX) = refl
    go at (Word WordA) = h A items
    go at (Word WordM) = refl
    go at (Word WordLen) = refl
    go at (Word (Named m)) = refl
    go at (Name name) = refl
    go at (Num n) = refl
    go at (Mark b) = bool_cases (b == 35) (λ e. rw e (immediate_reads k f h items)) (λ e. rw e (bool_cases (b == 37) (λ d. rw d percent) (λ d. rw d refl)))

operand_reads : (m : Mnemonic) (k : Operand × List Item → Read Statement) (w : Operand → Statement) → Next k (λ o. Gives (w o)) → (items : List Item) → (operand_rule m items >>= k) ≡ read items (operand m (λ o. Gives (w o)))
unfolding operand_rule
operand_reads Ld k w h items = ld_reads k _ h items
operand_reads Ldi k w h items = ldi_reads k _ h items
operand_reads Ldxi k w h items = ldi_reads k _ h items
operand_reads Ldh k w h items = ldh_reads k _ h items
operand_reads Ldb k w h items = ldh_reads k _ h items
operand_reads Ldx k w h items = ldx_reads k _ h items
operand_reads Ldxb k w h items = ldxb_reads k _ h items
operand_reads St k w h items = st_reads k _ h items
operand_reads Stx k w h items = st_reads k _ h items
operand_reads Jmp k w h items = jump_reads k _ h items
operand_reads Ja k w h items = jump_reads k _ h items
operand_reads Jeq k w h items = two_way_reads k w h items
operand_reads Jgt k w h items = two_way_reads k w h items
operand_reads Jge k w h items = two_way_reads k w h items
operand_reads Jset k w h items = two_way_reads k w h items
operand_reads Jneq k w h items = one_way_reads k _ h items
operand_reads Jne k w h items = one_way_reads k _ h items
operand_reads Jlt k w h items = one_way_reads k _ h items
operand_reads Jle k w h items = one_way_reads k _ h items
operand_reads Neg k w h items = h Nothing items
operand_reads Tax k w h items = h Nothing items
operand_reads Txa k w h items = h Nothing items
operand_reads Ret k w h items = ret_reads k _ h items
operand_reads Add k w h items = alu_reads k _ h items
operand_reads Sub k w h items = alu_reads k _ h items
operand_reads Mul k w h items = alu_reads k _ h items
operand_reads Div k w h items = alu_reads k _ h items
operand_reads Mod k w h items = alu_reads k _ h items
operand_reads And k w h items = alu_reads k _ h items
operand_reads Or k w h items = alu_reads k _ h items
operand_reads Xor k w h items = alu_reads k _ h items
operand_reads Lsh k w h items = alu_reads k _ h items
operand_reads Rsh k w h items = alu_reads k _ h items

-- ---- Statements

gives_read : (s : Statement) (items : List Item) → Ok (s, items) ≡ read items (Gives s)
gives_read s [] = refl
gives_read s (Lexed lexeme ∷ items) = refl
gives_read s (Bad fault ∷ items) = refl
gives_read s (End at ∷ items) = refl

abbrev pub made : ℕ → Option (List ℕ) → Mnemonic → Operand → Statement
made at label m o = record { at = at; label = label; mnemonic = m; operand = o }

instruction_reads : (at : ℕ) (label : Option (List ℕ)) (m : Mnemonic) (items : List Item) → instruction_rule at label m items ≡ read items (operand m (λ o. Gives (made at label m o)))
unfolding instruction_rule
instruction_reads at label m items = operand_reads m _ (made at label m) (λ o a. gives_read (made at label m o) a) items

labelled_reads : (at : ℕ) (label : List ℕ) (items : List Item) → labelled_rule at label items ≡ read items (mark 58 (instruction at (Some label)))
unfolding labelled_rule labelled_at
labelled_reads at label items = mark_reads 58 _ (λ _. instruction at (Some label)) (λ _ a. after_colon a) items
  where
    after_colon : (a : List Item) → (next_token a >>= (λ l. labelled_at at label l.0.at l.0.token l.1)) ≡ read a (instruction at (Some label))
    after_colon [] = refl
    after_colon (Bad fault ∷ a) = refl
    after_colon (End here ∷ a) = refl
    after_colon (Lexed lexeme ∷ a) = go lexeme.at lexeme.token
      where
        go : (here : ℕ) (token : Token) → labelled_at at label here token a ≡ at_token (instruction at (Some label)) here token a
        go here (Word WordX) = refl
        go here (Word WordA) = refl
        go here (Word WordM) = refl
        go here (Word WordLen) = refl
        go here (Word (Named m)) = instruction_reads at (Some label) m a
        go here (Name name) = refl
        go here (Num n) = refl
        go here (Mark b) = refl

-- no colon follows the first token
without_colon : (at : ℕ) (token : Token) (items : List Item) → begins_with_mark 58 items ≡ false → statement_at at token items ≡ at_token (statement at) at token items
unfolding statement_at
without_colon at (Word WordX) items e = refl
without_colon at (Word WordA) items e = refl
without_colon at (Word WordM) items e = refl
without_colon at (Word WordLen) items e = refl
without_colon at (Word (Named m)) items e = rw e (instruction_reads at None m items)
without_colon at (Name name) items e = labelled_reads at name items
without_colon at (Num n) items e = refl
without_colon at (Mark b) items e = refl

-- one stands there
with_colon : (at : ℕ) (token : Token) (items : List Item) → begins_with_mark 58 items ≡ true → statement_at at token items ≡ at_token (labelled at) at token items
unfolding statement_at
with_colon at (Word WordX) items e = refl
with_colon at (Word WordA) items e = refl
with_colon at (Word WordM) items e = refl
with_colon at (Word WordLen) items e = refl
with_colon at (Word (Named m)) items e = rw e refl
with_colon at (Name name) items e = labelled_reads at name items
with_colon at (Num n) items e = refl
with_colon at (Mark b) items e = refl

pub statement_reads : (items : List Item) → statement_rule items ≡ read items (form_at items)
unfolding statement_rule
statement_reads [] = refl
statement_reads (Bad fault ∷ items) = refl
statement_reads (End at ∷ items) = refl
statement_reads (Lexed first ∷ []) = without_colon first.at first.token [] refl
statement_reads (Lexed first ∷ Bad fault ∷ items) = without_colon first.at first.token (Bad fault ∷ items) refl
statement_reads (Lexed first ∷ End at ∷ items) = without_colon first.at first.token (End at ∷ items) refl
statement_reads (Lexed first ∷ Lexed second ∷ items) = go second.at second.token
  where
    go : (at : ℕ) (token : Token) → statement_at first.at first.token (Lexed (record { at = at; token = token }) ∷ items) ≡ read (Lexed first ∷ Lexed (record { at = at; token = token }) ∷ items) (form_at (Lexed first ∷ Lexed (record { at = at; token = token }) ∷ items))
    go at (Word w) = without_colon first.at first.token (Lexed (record { at = at; token = Word w }) ∷ items) refl
    go at (Name name) = without_colon first.at first.token (Lexed (record { at = at; token = Name name }) ∷ items) refl
    go at (Num n) = without_colon first.at first.token (Lexed (record { at = at; token = Num n }) ∷ items) refl
    go at (Mark b) = bool_cases (b == 58) (λ e. rw e (with_colon first.at first.token (Lexed (record { at = at; token = Mark b }) ∷ items) e)) (λ e. rw e (without_colon first.at first.token (Lexed (record { at = at; token = Mark b }) ∷ items) e))
