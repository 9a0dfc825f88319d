-- Forms are read from items, by the first alternative that goes on. What is read is what the form spells, and what stops the
-- reading is what the form refuses: each both ways.
use Rattle.std.proofs.Common.{◌≡◌, eq-eqb, ℕ, ◌+◌, ◌≤◌, Bool, true, false, cond, not, ◌&&◌, ◌||◌, ◌==◌, List, [], ◌∷◌, ◌++◌, map, Option, Some, None, refl, sym, ap, subst, ◌∙◌, inl, inr, ◌⊎◌, Ok, Err, Result, nat_le}
use Rattle.std.proofs.lemmas.Bool.{eqb-true, leb-true}
use Rattle.std.specs.Option.{option_map_or, option_or}
use Rattle.std.specs.Prelude.{option_map}
use Rattle.bpf_text.specs.declared.fault.TextFault.{TextFault}
use Rattle.bpf_text.specs.declared.fault.TextFault.TheVariants.{Form as FormAt}
use Rattle.bpf_text.specs.declared.keyword.Keyword.TheVariants.{Mnemonic as Named, X as WordX, A as WordA, M as WordM, Len as WordLen}
use Rattle.bpf_text.specs.declared.keyword.Mnemonic.TheVariants.{Neg}
use Rattle.bpf_text.specs.Tokens.{Token, Word, Name, Num, Mark, Lexeme, Item, Lexed, Bad, End}
use Rattle.bpf_text.proofs.Bits.{has, or_left, or_right, and_left, and_right}
use Rattle.bpf_text.specs.Grammar.{Statement, Symbol, Sign, TheX, TheA, TheM, TheLen, Exactly, Size, Opposite, AnyName, AnyMnemonic, Said, fits, Form, Gives, Then, Either, Spells, after, whole, refusal_of, IsRefused, Leaves, Stops, token_of}

-- ---- Reading

abbrev pub refuse : Form → List Item → TextFault
refuse f [] = FormAt 0
refuse f (Lexed lexeme ∷ items) = refusal_of f lexeme.at lexeme.token
refuse f (Bad fault ∷ items) = fault
refuse f (End at ∷ items) = FormAt at

abbrev pub finish : Form → List Item → Result (Statement × List Item) TextFault
finish f items = option_map_or (λ s. Ok (s, items)) (whole f) (Err (refuse f items))

abbrev pub read : List Item → Form → Result (Statement × List Item) TextFault
read [] f = finish f []
read (Lexed lexeme ∷ items) f = option_map_or (λ g. read items g) (after f lexeme.token) (finish f (Lexed lexeme ∷ items))
read (Bad fault ∷ items) f = finish f (Bad fault ∷ items)
read (End at ∷ items) f = finish f (End at ∷ items)

-- where the reading stops
abbrev pub Stopped : Form → List Item → Type 0
Stopped f items = (g : Form) × (rest : List Item) × Stops f items g rest (refuse g rest) × (read items f ≡ finish g rest)

pub run : (items : List Item) (f : Form) → Stopped f items
run [] f = (f, [], ([], refl, refl, refl), refl)
run (Bad fault ∷ items) f = (f, Bad fault ∷ items, ([], refl, refl, refl), refl)
run (End at ∷ items) f = (f, End at ∷ items, ([], refl, refl, refl), refl)
run (Lexed lexeme ∷ items) f = go (run items) (after f lexeme.token) refl
  where
    go : ((h : Form) → Stopped h items) → (o : Option Form) → after f lexeme.token ≡ o → Stopped f (Lexed lexeme ∷ items)
    go later None e = (f, Lexed lexeme ∷ items, ([], refl, refl, (e, refl)), ap (λ (o : Option Form). option_map_or (λ g. read items g) o (finish f (Lexed lexeme ∷ items))) e)
    go runs (Some h) e =
        let later : Stopped h items = runs h in (
          later.0,
          later.1,
          (lexeme ∷ later.2.0, ap (λ (is : List Item). Lexed lexeme ∷ is) later.2.1, (h, e, later.2.2), later.2.3),
          ap (λ (o : Option Form). option_map_or (λ g. read items g) o (finish f (Lexed lexeme ∷ items))) e ∙ later.3,
        )

stop_here : (items : List Item) (g : Form) (fault : TextFault) → IsRefused g items fault → (read items g ≡ finish g items) × (fault ≡ refuse g items)
stop_here [] g fault e = (refl, e)
stop_here (Bad lexical ∷ items) g fault e = (refl, e)
stop_here (End at ∷ items) g fault e = (refl, e)
stop_here (Lexed lexeme ∷ items) g fault e = (ap (λ (o : Option Form). option_map_or (λ h. read items h) o (finish g (Lexed lexeme ∷ items))) e.0, e.1)

stop_after : (lexemes : List Lexeme) (f g : Form) (rest : List Item) → Leaves f lexemes g → read (map Lexed lexemes ++ rest) f ≡ read rest g
stop_after [] f g rest e = ap (read rest) e
stop_after (lexeme ∷ lexemes) f g rest e =
    ap (λ (o : Option Form). option_map_or (λ h. read (map Lexed lexemes ++ rest) h) o (finish f (Lexed lexeme ∷ (map Lexed lexemes ++ rest)))) e.1 ∙ stop_after lexemes e.0 g rest e.2

pub stopped : (f : Form) (items : List Item) (g : Form) (rest : List Item) (fault : TextFault) → Stops f items g rest fault → (read items f ≡ finish g rest) × (fault ≡ refuse g rest)
stopped f items g rest fault s =
    let here : (read rest g ≡ finish g rest) × (fault ≡ refuse g rest) = stop_here rest g fault s.3 in
    (ap (λ (is : List Item). read is f) s.1 ∙ stop_after s.0 f g rest s.2 ∙ here.0, here.1)

-- ---- The rest after tokens were read spells the form after them

after_spells : (f : Form) (token : Token) (h : Form) (tokens : List Token) (s : Statement) → after f token ≡ Some h → Spells h tokens s → Spells f (token ∷ tokens) s
after_spells (Gives t) token h tokens s e spells = absurd (cc)
after_spells (Then symbol f) token h tokens s e spells = go (fits symbol token) refl
  where
    go : (o : Option (Said symbol)) → fits symbol token ≡ o → Spells (Then symbol f) (token ∷ tokens) s
    go None o = let n : None ≡ Some h = ap (option_map f) (sym o) ∙ e in absurd (cc)
    go (Some said) o =
        let same : Some (f said) ≡ Some h = ap (option_map f) (sym o) ∙ e in
        let left : h ≡ f said = cc in
        (said, o, subst (λ (g : Form). Spells g tokens s) left spells)
after_spells (Either f g) token h tokens s e spells = go (λ d. after_spells f token h tokens s d spells) (λ d. after_spells g token h tokens s d spells) (after f token) refl
  where
    go : (after f token ≡ Some h → Spells f (token ∷ tokens) s) → (after g token ≡ Some h → Spells g (token ∷ tokens) s) → (o : Option Form) → after f token ≡ o → Spells f (token ∷ tokens) s ⊎ Spells g (token ∷ tokens) s
    go left right None o = inr (right (ap (λ (p : Option Form). option_or p (after g token)) (sym o) ∙ e))
    go left right (Some k) o = inl (left (o ∙ (ap (λ (p : Option Form). option_or p (after g token)) (sym o) ∙ e)))

whole_spells : (f : Form) (s : Statement) → whole f ≡ Some s → Spells f [] s
whole_spells (Gives t) s e = cc
whole_spells (Then symbol f) s e = absurd (cc)
whole_spells (Either f g) s e = go (whole_spells f s) (whole_spells g s) (whole f) refl
  where
    go : (whole f ≡ Some s → Spells f [] s) → (whole g ≡ Some s → Spells g [] s) → (o : Option Statement) → whole f ≡ o → Spells f [] s ⊎ Spells g [] s
    go left right None o = inr (right (ap (λ (p : Option Statement). option_or p (whole g)) (sym o) ∙ e))
    go left right (Some t) o = inl (left (o ∙ (ap (λ (p : Option Statement). option_or p (whole g)) (sym o) ∙ e)))

pub leaves_spells : (lexemes : List Lexeme) (f g : Form) (s : Statement) → Leaves f lexemes g → whole g ≡ Some s → Spells f (map token_of lexemes) s
leaves_spells [] f g s e w = whole_spells f s (ap whole e ∙ w)
leaves_spells (lexeme ∷ lexemes) f g s e w = after_spells f lexeme.token e.0 (map token_of lexemes) s e.1 (leaves_spells lexemes e.0 g s e.2 w)

-- ---- Alternatives begin with different tokens

-- tokens of one key aren't told apart by their kind
abbrev pub key : Symbol → ℕ
key TheX = 0
key TheA = 1
key TheM = 2
key TheLen = 3
key AnyMnemonic = 4
key AnyName = 5
key (Exactly n) = 6
key Size = 6
key Opposite = 6
key (Sign b) = 7 + b

abbrev pub token_key : Token → ℕ
token_key (Word WordX) = 0
token_key (Word WordA) = 1
token_key (Word WordM) = 2
token_key (Word WordLen) = 3
token_key (Word (Named m)) = 4
token_key (Name name) = 5
token_key (Num n) = 6
token_key (Mark b) = 7 + b

abbrev pub firsts : Form → List ℕ
firsts (Gives s) = []
firsts (Then s f) = key s ∷ []
firsts (Either f g) = firsts f ++ firsts g

abbrev pub apart : List ℕ → List ℕ → Bool
apart [] ys = true
apart (x ∷ xs) ys = not (has x ys) && apart xs ys

abbrev pub marks_alone : List ℕ → Bool
marks_alone [] = true
marks_alone (x ∷ xs) = nat_le 7 x && marks_alone xs

abbrev pub is_none : {T : Type 0} → Option T → Bool
is_none None = true
is_none (Some x) = false

-- alternatives begin with different tokens, the first one never ends, and where the second ends only marks go on
abbrev pub Good : Form → Type 0
Good (Gives s) = Unit {0}
Good (Then s f) = (said : Said s) → Good (f said)
Good (Either f g) = Good f × Good g × (apart (firsts f) (firsts g) ≡ true) × (is_none (whole f) ≡ true) × ((is_none (whole g) || marks_alone (firsts f ++ firsts g)) ≡ true)

-- ---- A form is read as what it spells

fits_key : (s : Symbol) (token : Token) (said : Said s) → fits s token ≡ Some said → key s ≡ token_key token
fits_key (Sign mark) (Mark b) said e = go (b == mark) refl e
  where
    go : (t : Bool) → (b == mark) ≡ t → cond t (Some tt) None ≡ Some said → 7 + mark ≡ 7 + b
    go true o e = ap (λ (n : ℕ). 7 + n) (sym (eqb-true b mark o))
    go false o e = absurd (cc)
fits_key TheX (Word WordX) said e = refl
fits_key TheA (Word WordA) said e = refl
fits_key TheM (Word WordM) said e = refl
fits_key TheLen (Word WordLen) said e = refl
fits_key (Exactly n) (Num m) said e = refl
fits_key Size (Num m) said e = refl
fits_key Opposite (Num m) said e = refl
fits_key AnyName (Name name) said e = refl
fits_key AnyMnemonic (Word (Named m)) said e = refl
fits_key s token said e = absurd (cc)

has-append : (k : ℕ) (xs ys : List ℕ) → has k (xs ++ ys) ≡ (has k xs || has k ys)
has-append k [] ys = refl
has-append k (x ∷ xs) ys = go (has-append k xs ys) (x == k)
  where
    go : has k (xs ++ ys) ≡ (has k xs || has k ys) → (t : Bool) → (t || has k (xs ++ ys)) ≡ ((t || has k xs) || has k ys)
    go e true = refl
    go e false = e

pub firsts_have : (f : Form) (token : Token) (h : Form) → after f token ≡ Some h → has (token_key token) (firsts f) ≡ true
firsts_have (Gives s) token h e = absurd (cc)
firsts_have (Then s f) token h e = go (fits s token) refl
  where
    go : (o : Option (Said s)) → fits s token ≡ o → (key s == token_key token || false) ≡ true
    go None o = let n : None ≡ Some h = ap (option_map f) (sym o) ∙ e in absurd (cc)
    go (Some said) o = or_left (key s == token_key token) false (eq-eqb (key s) (token_key token) (fits_key s token said o))
firsts_have (Either f g) token h e = go (firsts_have f token h) (firsts_have g token h) (after f token) refl
  where
    go : (after f token ≡ Some h → has (token_key token) (firsts f) ≡ true) → (after g token ≡ Some h → has (token_key token) (firsts g) ≡ true) → (o : Option Form) → after f token ≡ o → has (token_key token) (firsts f ++ firsts g) ≡ true
    go left right None o = has-append (token_key token) (firsts f) (firsts g) ∙ or_right (has (token_key token) (firsts f)) (has (token_key token) (firsts g)) (right (ap (λ (p : Option Form). option_or p (after g token)) (sym o) ∙ e))
    go left right (Some k) o = has-append (token_key token) (firsts f) (firsts g) ∙ or_left (has (token_key token) (firsts f)) (has (token_key token) (firsts g)) (left (o ∙ (ap (λ (p : Option Form). option_or p (after g token)) (sym o) ∙ e)))

-- the one list has nothing of the other
apart_lacks : (k : ℕ) (xs ys : List ℕ) → apart xs ys ≡ true → has k xs ≡ true → has k ys ≡ true → ⊥
apart_lacks k [] ys e h g = absurd (cc)
apart_lacks k (x ∷ xs) ys e h g = go (apart_lacks k xs ys (and_right (not (has x ys)) (apart xs ys) e)) (x == k) refl h
  where
    go : (has k xs ≡ true → has k ys ≡ true → ⊥) → (t : Bool) → (x == k) ≡ t → (t || has k xs) ≡ true → ⊥
    go later true o h =
        let n : not (has x ys) ≡ true = and_left (not (has x ys)) (apart xs ys) e in
        let m : has x ys ≡ true = ap (λ (j : ℕ). has j ys) (eqb-true x k o) ∙ g in
        let false_true : not true ≡ true = ap not (sym m) ∙ n in
        cc
    go later false o h = later h g

-- the other alternative can't go on
excludes : (f g : Form) (token : Token) (h k : Form) → apart (firsts f) (firsts g) ≡ true → after f token ≡ Some h → after g token ≡ Some k → ⊥
excludes f g token h k e a b = apart_lacks (token_key token) (firsts f) (firsts g) e (firsts_have f token h a) (firsts_have g token k b)

-- one token of a form read
abbrev pub Step : Form → Token → List Token → Statement → Type 0
Step f token tokens s = (h : Form) × (after f token ≡ Some h) × Good h × Spells h tokens s

pub step : (f : Form) (token : Token) (tokens : List Token) (s : Statement) → Good f → Spells f (token ∷ tokens) s → Step f token tokens s
step (Gives t) token tokens s good spells = absurd spells
step (Then symbol f) token tokens s good spells = (f spells.0, ap (option_map f) spells.1, good spells.0, spells.2)
step (Either f g) token tokens s good spells = elim spells [ inl l ↦ from_left (step f token tokens s good.0 l) | inr r ↦ from_right (step g token tokens s good.1 r) ]
  where
    from_left : Step f token tokens s → Step (Either f g) token tokens s
    from_left l = (l.0, ap (λ (o : Option Form). option_or o (after g token)) l.1, l.2, l.3)

    from_right : Step g token tokens s → Step (Either f g) token tokens s
    from_right r = go (after f token) refl
      where
        go : (o : Option Form) → after f token ≡ o → Step (Either f g) token tokens s
        go None o = (r.0, ap (λ (p : Option Form). option_or p (after g token)) o ∙ r.1, r.2, r.3)
        go (Some k) o = absurd (excludes f g token k r.0 good.2 o r.1)

spells_whole : (f : Form) (s : Statement) → Good f → Spells f [] s → whole f ≡ Some s
spells_whole (Gives t) s good e = ap Some e
spells_whole (Then symbol f) s good e = absurd e
spells_whole (Either f g) s good spells = elim spells [ inl l ↦ ap (λ (o : Option Statement). option_or o (whole g)) (spells_whole f s good.0 l) | inr r ↦ from_right (whole f) refl (spells_whole g s good.1 r) ]
  where
    from_right : (o : Option Statement) → whole f ≡ o → whole g ≡ Some s → option_or (whole f) (whole g) ≡ Some s
    from_right None o e = ap (λ (p : Option Statement). option_or p (whole g)) o ∙ e
    from_right (Some t) o e = let n : is_none (Some t) ≡ true = ap is_none (sym o) ∙ good.3 in absurd (cc)

pub spells_leaves : (lexemes : List Lexeme) (f : Form) (s : Statement) → Good f → Spells f (map token_of lexemes) s → (g : Form) × Leaves f lexemes g × Good g × (whole g ≡ Some s)
spells_leaves [] f s good spells = (f, refl, good, spells_whole f s good spells)
spells_leaves (lexeme ∷ lexemes) f s good spells =
    let first : Step f lexeme.token (map token_of lexemes) s = step f lexeme.token (map token_of lexemes) s good spells in
    let later : (g : Form) × Leaves first.0 lexemes g × Good g × (whole g ≡ Some s) = spells_leaves lexemes first.0 s first.2 first.3 in
    (later.0, (first.0, first.1, later.1), later.2, later.3)

-- where a form is whole, only a mark goes on
has_marks : (k : ℕ) (xs : List ℕ) → marks_alone xs ≡ true → has k xs ≡ true → 7 ≤ k
has_marks k [] e h = absurd (cc)
has_marks k (x ∷ xs) e h = go (has_marks k xs (and_right (nat_le 7 x) (marks_alone xs) e)) (x == k) refl h
  where
    go : (has k xs ≡ true → 7 ≤ k) → (t : Bool) → (x == k) ≡ t → (t || has k xs) ≡ true → 7 ≤ k
    go later true o h = subst (λ (j : ℕ). 7 ≤ j) (eqb-true x k o) (leb-true 7 x (and_left (nat_le 7 x) (marks_alone xs) e))
    go later false o h = later h

pub only_marks : (f : Form) (s : Statement) (token : Token) (h : Form) → Good f → whole f ≡ Some s → after f token ≡ Some h → 7 ≤ token_key token
only_marks (Gives t) s token h good w e = absurd (cc)
only_marks (Then symbol f) s token h good w e = absurd (cc)
only_marks (Either f g) s token h good w e = go (whole g) refl good.4
  where
    go : (o : Option Statement) → whole g ≡ o → (is_none o || marks_alone (firsts f ++ firsts g)) ≡ true → 7 ≤ token_key token
    go None o m = neither (whole f) refl
      where
        neither : (p : Option Statement) → whole f ≡ p → 7 ≤ token_key token
        neither None p = let n : None ≡ Some s = sym (ap (λ (q : Option Statement). option_or q (whole g)) p ∙ o) ∙ w in absurd (cc)
        neither (Some t) p = let n : is_none (Some t) ≡ true = ap is_none (sym p) ∙ good.3 in absurd (cc)
    go (Some t) o m = has_marks (token_key token) (firsts f ++ firsts g) m (firsts_have (Either f g) token h e)

-- ---- The rest of a form is what may follow

good_after : (f : Form) (token : Token) (h : Form) → Good f → after f token ≡ Some h → Good h
good_after (Gives t) token h good e = absurd (cc)
good_after (Then symbol f) token h good e = go (fits symbol token) refl
  where
    go : (o : Option (Said symbol)) → fits symbol token ≡ o → Good h
    go None o = let n : None ≡ Some h = ap (option_map f) (sym o) ∙ e in absurd (cc)
    go (Some said) o =
        let same : Some (f said) ≡ Some h = ap (option_map f) (sym o) ∙ e in
        let left : f said ≡ h = cc in
        subst Good left (good said)
good_after (Either f g) token h good e = go (good_after f token h good.0) (good_after g token h good.1) (after f token) refl
  where
    go : (after f token ≡ Some h → Good h) → (after g token ≡ Some h → Good h) → (o : Option Form) → after f token ≡ o → Good h
    go left right None o = right (ap (λ (p : Option Form). option_or p (after g token)) (sym o) ∙ e)
    go left right (Some k) o = left (o ∙ (ap (λ (p : Option Form). option_or p (after g token)) (sym o) ∙ e))

good_left : (lexemes : List Lexeme) (f g : Form) → Good f → Leaves f lexemes g → Good g
good_left [] f g good e = subst Good e good
good_left (lexeme ∷ lexemes) f g good e = good_left lexemes e.0 g (good_after f lexeme.token e.0 good e.1) e.2

pub spelled_from_left : (lexemes : List Lexeme) (f g : Form) (tokens : List Token) (s : Statement) → Leaves f lexemes g → Spells g tokens s → Spells f (map token_of lexemes ++ tokens) s
spelled_from_left [] f g tokens s e spells = subst (λ (h : Form). Spells h tokens s) (sym e) spells
spelled_from_left (lexeme ∷ lexemes) f g tokens s e spells = after_spells f lexeme.token e.0 (map token_of lexemes ++ tokens) s e.1 (spelled_from_left lexemes e.0 g tokens s e.2 spells)

pub left_from_spelled : (lexemes : List Lexeme) (f g : Form) (tokens : List Token) (s : Statement) → Good f → Leaves f lexemes g → Spells f (map token_of lexemes ++ tokens) s → Spells g tokens s
left_from_spelled [] f g tokens s good e spells = subst (λ (h : Form). Spells h tokens s) e spells
left_from_spelled (lexeme ∷ lexemes) f g tokens s good e spells =
    let r : Step f lexeme.token (map token_of lexemes ++ tokens) s = step f lexeme.token (map token_of lexemes ++ tokens) s good spells in
    let both : Some r.0 ≡ Some e.0 = sym r.1 ∙ e.1 in
    let same : r.0 ≡ e.0 = cc in
    left_from_spelled lexemes e.0 g tokens s (good_after f lexeme.token e.0 good e.1) e.2 (subst (λ (h : Form). Spells h (map token_of lexemes ++ tokens) s) same r.3)

pub refused_never_spelled : (lexemes : List Lexeme) (f g : Form) (token : Token) (tokens : List Token) (s : Statement) → Good f → Leaves f lexemes g → after g token ≡ None → Spells g (token ∷ tokens) s → ⊥
refused_never_spelled lexemes f g token tokens s good e none spells =
    let r : Step g token tokens s = step g token tokens s (good_left lexemes f g good e) spells in
    let both : None ≡ Some r.0 = sym none ∙ r.1 in
    absurd (cc)

-- each symbol has a token
a_token : (symbol : Symbol) → (token : Token) × (said : Said symbol) × (fits symbol token ≡ Some said)
a_token (Sign b) = (Mark b, tt, ap (λ (t : Bool). cond t (Some tt) None) (eq-eqb b b refl))
a_token TheX = (Word WordX, tt, refl)
a_token TheA = (Word WordA, tt, refl)
a_token TheM = (Word WordM, tt, refl)
a_token TheLen = (Word WordLen, tt, refl)
a_token (Exactly n) = (Num n, tt, ap (λ (t : Bool). cond t (Some tt) None) (eq-eqb n n refl))
a_token Size = (Num 0, 0, refl)
a_token Opposite = (Num 0, 0, refl)
a_token AnyName = (Name [], [], refl)
a_token AnyMnemonic = (Word (Named Neg), Neg, refl)

-- so each form spells something
pub spells_some : (f : Form) → (tokens : List Token) × (s : Statement) × Spells f tokens s
spells_some (Gives s) = ([], s, refl)
spells_some (Then symbol f) = let t = a_token symbol in let later = spells_some (f t.1) in (t.0 ∷ later.0, later.1, (t.1, t.2, later.2))
spells_some (Either f g) = let left = spells_some f in (left.0, left.1, inl left.2)
