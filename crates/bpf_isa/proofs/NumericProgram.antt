-- The whole text: which of its faults comes first.
use Rattle.std.proofs.Common.{◌≡◌, ℕ, ◌<◌, Bool, true, false, cond, ltb, not, List, [], ◌∷◌, length, Option, Some, None, Result, Ok, Err, refl, sym, ap, ◌∙◌}
use Rattle.std.specs.Prelude.{position}
use Rattle.bpf_isa.specs.declared.numeric.fault.NumericFault.{NumericFault}
use Rattle.bpf_isa.specs.declared.numeric.fault.NumericFault.TheVariants.{Character, Number, Form, TooMany, Memory}
use Rattle.bpf_isa.specs.Numeric.{◌>>=◌, Part, Item, value_of, number_of, HasCount, is_allowed, items_in, count_of, packed_of, counted_insns, program_of, unless_at, numeric_of, IsFault}
use Rattle.bpf_isa.proofs.NumericInsns.{is_fault}

pub foreign : (text : List ℕ) (at : ℕ) → Some at ≡ position (λ b. not (is_allowed b)) text → numeric_of text ≡ Err (Character at)
unfolding numeric_of
foreign text at h = ap (λ (o : Option ℕ). unless_at o (program_of (length text) (items_in 0 text))) (sym h)

pub known : (text : List ℕ) → None ≡ position (λ b. not (is_allowed b)) text → numeric_of text ≡ program_of (length text) (items_in 0 text)
unfolding numeric_of
known text h = ap (λ (o : Option ℕ). unless_at o (program_of (length text) (items_in 0 text))) (sym h)

pub no_item : (text : List ℕ) → None ≡ position (λ b. not (is_allowed b)) text → items_in 0 text ≡ [] → numeric_of text ≡ Err (Form (length text))
unfolding program_of
no_item text h e = known text h ∙ ap (program_of (length text)) e

pub counted : (end : ℕ) (first : Item) (others : List Item) (count : ℕ) → count_of first.0 first.1 ≡ Ok count
    → program_of end (first ∷ others) ≡ counted_insns end count others
unfolding program_of
counted end first others count h = rw h refl

uncounted : (end : ℕ) (first : Item) (others : List Item) (e : NumericFault) → count_of first.0 first.1 ≡ Err e → program_of end (first ∷ others) ≡ Err e
unfolding program_of
uncounted end first others e h = rw h refl

-- all that is known once the first item stands
pub record Begins (text : List ℕ) (first : Item) (others : List Item) : Type 0 where
  pub known : None ≡ position (λ b. not (is_allowed b)) text
  pub items : items_in 0 text ≡ first ∷ others

begin : (text : List ℕ) (first : Item) (others : List Item) → Begins text first others → numeric_of text ≡ program_of (length text) (first ∷ others)
begin text first others b = known text b.known ∙ ap (program_of (length text)) b.items

pub bad_count : (text : List ℕ) (first : Item) (others : List Item) (e : NumericFault) → Begins text first others → Err e ≡ count_of first.0 first.1 → IsFault e (numeric_of text)
bad_count text first others e b h = is_fault e (numeric_of text) (begin text first others b ∙ uncounted (length text) first others e (sym h))

-- the text is what its insns are
pub words_are : (text : List ℕ) (first : Item) (others : List Item) (count : ℕ) → Begins text first others → Ok count ≡ count_of first.0 first.1
    → numeric_of text ≡ counted_insns (length text) count others
words_are text first others count b h = begin text first others b ∙ counted (length text) first others count (sym h)

-- ---- memory is no fault of a text

abbrev answered : Result ℕ NumericFault → Result ℕ NumericFault
answered r = r

bind_no_memory : {A B : Type 0} (r : Result A NumericFault) (f : A → Result B NumericFault) → (r ≡ Err Memory → ⊥) → ((a : A) → f a ≡ Err Memory → ⊥) → (r >>= f) ≡ Err Memory → ⊥
bind_no_memory (Ok a) f h k e = k a e
bind_no_memory (Err x) f h k e = let same : x ≡ Memory = cc in h (ap (λ (y : NumericFault). Err y) same)

unless_memory : (b : Bool) (fault : NumericFault) (n : ℕ) → (fault ≡ Memory → ⊥) → answered (cond b (Err fault) (Ok n)) ≡ Err Memory → ⊥
unless_memory true fault n other e = let same : fault ≡ Memory = cc in other same
unless_memory false fault n other e = cc

number_no_memory : (most : ℕ) (number : Part) → number_of most number ≡ Err Memory → ⊥
unfolding number_of
number_no_memory most number e = unless_memory (ltb most (value_of number.1)) (Number number.0) (value_of number.1) (λ h. cc) e

pub count_no_memory : (first : Part) (others : List Part) → count_of first others ≡ Err Memory → ⊥
unfolding count_of
count_no_memory first [] e = bind_no_memory (number_of 0xffff_ffff first) (λ n. cond (ltb 4096 n) (Err (TooMany first.0)) (Ok n)) (number_no_memory 0xffff_ffff first) (λ n. unless_memory (ltb 4096 n) (TooMany first.0) n (λ h. cc)) e
count_no_memory first (_ ∷ _) e = cc

pub word_no_memory : (code : Part) (others : List Part) → packed_of code others ≡ Err Memory → ⊥
unfolding packed_of
word_no_memory code [] e = cc
word_no_memory code (_ ∷ []) e = cc
word_no_memory code (_ ∷ _ ∷ []) e = cc
word_no_memory code (jt ∷ jf ∷ k ∷ []) e =
    bind_no_memory (number_of 0xffff code) _ (number_no_memory 0xffff code) (λ c. bind_no_memory (number_of 0xff jt) _ (number_no_memory 0xff jt)
    (λ t. bind_no_memory (number_of 0xff jf) _ (number_no_memory 0xff jf) (λ f. bind_no_memory (number_of 0xffff_ffff k) _ (number_no_memory 0xffff_ffff k) (λ n h. cc)))) e
word_no_memory code (_ ∷ _ ∷ _ ∷ _ ∷ _) e = cc

pub has_count : (text : List ℕ) (first : Item) (others : List Item) (count : ℕ) → Begins text first others → Ok count ≡ count_of first.0 first.1 → 0 < count → HasCount text
has_count text first others count b h some = record { known = sym b.known; first = first; others = others; items = b.items; count = count; counted = sym h; positive = some }
