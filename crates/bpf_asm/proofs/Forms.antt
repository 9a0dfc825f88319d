-- Each statement of a text has an operand that its mnemonic takes: so has each statement that a form of the grammar gives.
use Rattle.std.proofs.Common.{zero, suc, ◌≡◌, inl, inr, ℕ, true, List, [], ◌∷◌, Option, Some, None, refl, subst, map, slice_get}
use Rattle.bpf_text.specs.declared.keyword.Mnemonic.{Mnemonic}
use Rattle.bpf_text.specs.declared.keyword.Mnemonic.TheVariants.{Ld, Ldi, Ldh, Ldb, Ldx, Ldxi, Ldxb, St, Stx, Jmp, Ja, Jeq, Jneq, Jne, Jlt, Jle, Jgt, Jge, Jset, Add, Sub, Mul, Div, Mod, Neg, And, Or, Xor, Lsh, Rsh, Tax, Txa, Ret}
use Rattle.bpf_text.specs.declared.statement.Source.{Source}
use Rattle.bpf_text.specs.declared.statement.Source.TheVariants.{K, X}
use Rattle.bpf_text.specs.Grammar.{Statement, Operand, Form, Gives, Then, Either, Said, Spells, AreStatements, Immediate, Absolute, Indirect, Scratch, HeaderLength, Len, Value, Branch, operand, number, register, packet, scratch, header_length, immediate, length_word, immediate_or_length, source, one_way, two_way, statement, token_of, mark, target, ◌or◌, IsStatement}
use Rattle.bpf_text.specs.Tokens.{Token, Lexeme}
use Rattle.bpf_text.specs.Meaning.{Sources}
use Rattle.bpf_asm.specs.Rows.{takes}
use Rattle.bpf_asm.specs.Typed.{AllTake}
use Rattle.bpf_asm.proofs.Indices.{some_is}

-- each statement that the form gives has this
abbrev All : (Statement → Type 0) → Form → Type 0
All P (Gives s) = P s
All P (Then s f) = (said : Said s) → All P (f said)
All P (Either f g) = All P f × All P g

spelled : (P : Statement → Type 0) (f : Form) (tokens : List Token) (t : Statement) → All P f → Spells f tokens t → P t
spelled P (Gives s) [] t all is = subst P is all
spelled P (Gives s) (token ∷ tokens) t all is = absurd is
spelled P (Then s f) [] t all is = absurd is
spelled P (Then s f) (token ∷ tokens) t all (said, fit, more) = spelled P (f said) tokens t (all said) more
spelled P (Either f g) tokens t all (inl is) = spelled P f tokens t all.0 is
spelled P (Either f g) tokens t all (inr is) = spelled P g tokens t all.1 is

-- ---- the operands of each mnemonic

module _ (P : Statement → Type 0) where
  numbers : (f : ℕ → Form) → ((n : ℕ) → All P (f n)) → All P (number f)
  numbers f all = (all, (λ _. all, λ _. all))

  registers : (f : Form) → All P f → All P (register f)
  registers f all = (λ _. all, λ _ _. all)

  packets : (f : Operand → Form) → ((n : ℕ) → All P (f (Indirect n))) → ((n : ℕ) → All P (f (Absolute n))) → All P (packet f)
  packets f indirect absolute = ((λ _ _. (λ n _. indirect n, (λ _ n _. indirect n, λ _ n _. indirect n)), λ _ _ _. (λ n _. indirect n, (λ _ n _. indirect n, λ _ n _. indirect n))), (λ n _. absolute n, (λ _ n _. absolute n, λ _ n _. absolute n)))

  scratches : (f : Operand → Form) → ((n : ℕ) → All P (f (Scratch n))) → All P (scratch f)
  scratches f all = λ _ _. (λ n _. all n, (λ _ n _. all n, λ _ n _. all n))

  header_lengths : (f : Operand → Form) → ((n : ℕ) → All P (f (HeaderLength n))) → All P (header_length f)
  header_lengths f all = λ _ _ _ _. (λ n _ _ _ _. all n, (λ _ n _ _ _ _. all n, λ _ n _ _ _ _. all n))

  immediates : (f : Operand → Form) → ((n : ℕ) → All P (f (Immediate n))) → All P (immediate f)
  immediates f all = λ _. (all, (λ _. all, λ _. all))

  lengths : (f : Operand → Form) → All P (f Len) → All P (length_word f)
  lengths f all = λ _. all

  immediates_or_lengths : (f : Operand → Form) → ((n : ℕ) → All P (f (Immediate n))) → All P (f Len) → All P (immediate_or_length f)
  immediates_or_lengths f all len = λ _. (λ _. len, (all, (λ _. all, λ _. all)))

  sources : (f : Source → Form) → ((n : ℕ) → All P (f (K n))) → All P (f X) → All P (source f)
  sources f by_k by_x = (λ _. (by_k, (λ _. by_k, λ _. by_k)), (λ _. by_x, λ _ _. by_x))

  one_ways : (f : Operand → Form) → ((s : Source) (t : List ℕ) → All P (f (Branch s t None))) → All P (one_way f)
  one_ways f all = sources (λ s. mark 44 (target (λ t. f (Branch s t None)))) (λ n _ t. all (K n) t) (λ _ t. all X t)

  two_ways : (f : Operand → Form) → ((s : Source) (t : List ℕ) → All P (f (Branch s t None))) → ((s : Source) (t e : List ℕ) → All P (f (Branch s t (Some e)))) → All P (two_way f)
  two_ways f one two = sources (λ s. mark 44 (target (λ t. mark 44 (target (λ e. f (Branch s t (Some e)))) or f (Branch s t None)))) (λ n _ t. (λ _ e. two (K n) t e, one (K n) t)) (λ _ t. (λ _ e. two X t e, one X t))

-- the mnemonic takes the operand
abbrev Takes : Statement → Type 0
Takes s = takes s.mnemonic s.operand ≡ true

abbrev gives : ℕ → Option (List ℕ) → Mnemonic → Operand → Form
gives at label m o = Gives (record { at = at; label = label; mnemonic = m; operand = o })

source_takes : (at : ℕ) (label : Option (List ℕ)) (m : Mnemonic) → ((s : Source) → takes m (Value s) ≡ true) → All Takes (source (λ s. gives at label m (Value s)))
source_takes at label m all = sources Takes (λ s. gives at label m (Value s)) (λ n. all (K n)) (all X)

operand_takes : (at : ℕ) (label : Option (List ℕ)) (m : Mnemonic) → All Takes (operand m (gives at label m))
operand_takes at label Ld = (λ _. packets Takes (gives at label Ld) (λ n. refl) (λ n. refl), (immediates_or_lengths Takes (gives at label Ld) (λ n. refl) refl, (scratches Takes (gives at label Ld) (λ n. refl), lengths Takes (gives at label Ld) refl)))
operand_takes at label Ldi = (immediates Takes (gives at label Ldi) (λ n. refl), numbers Takes (λ n. gives at label Ldi (Immediate n)) (λ n. refl))
operand_takes at label Ldxi = (immediates Takes (gives at label Ldxi) (λ n. refl), numbers Takes (λ n. gives at label Ldxi (Immediate n)) (λ n. refl))
operand_takes at label Ldh = λ _. packets Takes (gives at label Ldh) (λ n. refl) (λ n. refl)
operand_takes at label Ldb = λ _. packets Takes (gives at label Ldb) (λ n. refl) (λ n. refl)
operand_takes at label Ldx = (immediates_or_lengths Takes (gives at label Ldx) (λ n. refl) refl, (scratches Takes (gives at label Ldx) (λ n. refl), (lengths Takes (gives at label Ldx) refl, header_lengths Takes (gives at label Ldx) (λ n. refl))))
operand_takes at label Ldxb = header_lengths Takes (gives at label Ldxb) (λ n. refl)
operand_takes at label St = scratches Takes (gives at label St) (λ n. refl)
operand_takes at label Stx = scratches Takes (gives at label Stx) (λ n. refl)
operand_takes at label Jmp = λ t. refl
operand_takes at label Ja = λ t. refl
operand_takes at label Jeq = two_ways Takes (gives at label Jeq) (λ s t. refl) (λ s t e. refl)
operand_takes at label Jgt = two_ways Takes (gives at label Jgt) (λ s t. refl) (λ s t e. refl)
operand_takes at label Jge = two_ways Takes (gives at label Jge) (λ s t. refl) (λ s t e. refl)
operand_takes at label Jset = two_ways Takes (gives at label Jset) (λ s t. refl) (λ s t e. refl)
operand_takes at label Jneq = one_ways Takes (gives at label Jneq) (λ s t. refl)
operand_takes at label Jne = one_ways Takes (gives at label Jne) (λ s t. refl)
operand_takes at label Jlt = one_ways Takes (gives at label Jlt) (λ s t. refl)
operand_takes at label Jle = one_ways Takes (gives at label Jle) (λ s t. refl)
operand_takes at label Neg = refl
operand_takes at label Tax = refl
operand_takes at label Txa = refl
operand_takes at label Ret = (immediates Takes (gives at label Ret) (λ n. refl), (λ _. refl, λ _ _. refl))
operand_takes at label Add = source_takes at label Add (λ s. refl)
operand_takes at label Sub = source_takes at label Sub (λ s. refl)
operand_takes at label Mul = source_takes at label Mul (λ s. refl)
operand_takes at label Div = source_takes at label Div (λ s. refl)
operand_takes at label Mod = source_takes at label Mod (λ s. refl)
operand_takes at label And = source_takes at label And (λ s. refl)
operand_takes at label Or = source_takes at label Or (λ s. refl)
operand_takes at label Xor = source_takes at label Xor (λ s. refl)
operand_takes at label Lsh = source_takes at label Lsh (λ s. refl)
operand_takes at label Rsh = source_takes at label Rsh (λ s. refl)

-- ---- statements

statement_takes : (at : ℕ) → All Takes (statement at)
statement_takes at = (λ label _ m. operand_takes at (Some label) m, λ m. operand_takes at None m)

take_each : (lexemes : List Lexeme) (ss : List Statement) → AreStatements lexemes ss → AllTake ss
take_each lexemes [] are at s there = absurd (by there)
  where
    by : {X : Type 0} {x : X} → None ≡ Some x → ⊥
    by e = cc
take_each lexemes (t ∷ ts) (first, rest, split, is, are) at s there = by first is (take_each rest ts are) at there
  where
    head_takes : (ls : List Lexeme) → IsStatement ls t → Takes t
    head_takes [] none = absurd none
    head_takes (l ∷ ls) spells = spelled Takes (statement l.at) (map token_of (l ∷ ls)) t (statement_takes l.at) spells

    by : (ls : List Lexeme) → IsStatement ls t → AllTake ts → (n : ℕ) → slice_get (t ∷ ts) n ≡ Some s → Takes s
    by ls st others zero e = subst Takes (some_is t s e) (head_takes ls st)
    by ls st others (suc n) e = others n s e

pub sources_take : (text : List ℕ) (ss : List Statement) → Sources text ss → AllTake ss
sources_take text ss (lexemes, at, items, are) = take_each lexemes ss are
