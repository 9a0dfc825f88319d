-- Written instructions are read as the same ones.
use Rattle.std.proofs.Common.{◌≡◌, ℕ, suc, ◌+◌, ◌^◌, ◌<◌, ◌≤◌, Bool, true, false, not, leb, eqb, List, [], ◌∷◌, ◌++◌, length, All, None, Ok, refl, ap, ◌∙◌, append_assoc, arith, rules, eq-eqb, lit<}
use Rattle.std.specs.Prelude.{fold, decimal, position, ◌||◌}
use Rattle.std.specs.Char.{is_ascii_digit}
use Rattle.std.specs.Str.{all_ascii_digits}
use Rattle.std.specs.List.{flat_map, cons_option, position_or_len, AllByRecursion}
use Rattle.std.proofs.Math.Numerals.{one-add}
use Rattle.std.proofs.lemmas.Bool.{and_parts, or_from, ne_eqb, leb-true, le-ltb}
use Rattle.std.proofs.lemmas.Fmt.{digits_decimal, digits_value-decimal, decimal_nonempty}
use Rattle.std.proofs.lemmas.Str.Parse.{IsNumeralModel, numerals_by_fold}
use Rattle.std.proofs.lemmas.List.Elements.{All-from_recursion}
use Rattle.std.proofs.lemmas.List.Splits.{slice_split_none, slice_split_at}
use Rattle.std.proofs.lemmas.List.Concat.{flat_map-cons}
use Rattle.bpf_isa.specs.declared.packed.Packed.{Packed}
use Rattle.bpf_isa.specs.Numeric.{Part, Item, packed_text, numeric_text, IsPacked, with_offsets, parts, is_blank, is_separator, is_allowed, numbers_in, item_of, items_in, value_of, number_of, count_of, packed_of, insns_of, counted_insns, program_of, numeric_of}
use Rattle.bpf_isa.proofs.NumericParts.{numbers_of, items_of, kept, items_none}
use Rattle.bpf_isa.proofs.NumericValues.{next_value}
use Rattle.bpf_isa.proofs.NumericProgram.{known, counted}

-- ---- no element passes p

abbrev Free : (ℕ → Bool) → List ℕ → Type 0
Free p xs = AllByRecursion (λ x. p x ≡ false) xs

Free-append : (p : ℕ → Bool) (xs ys : List ℕ) → Free p xs → Free p ys → Free p (xs ++ ys)
Free-append p [] ys f g = g
Free-append p (x ∷ xs) ys f g = (f.0, Free-append p xs ys f.1 g)

Free-all : (p : ℕ → Bool) (xs : List ℕ) → Free p xs → All (λ x. p x ≡ false) xs
Free-all p xs f = All-from_recursion (λ x. p x ≡ false) xs f

free_len : (p : ℕ → Bool) (xs : List ℕ) → Free p xs → position_or_len p xs ≡ length xs
free_len p [] f = refl
free_len p (x ∷ xs) f = rw (f.0, free_len p xs f.1) (one-add (length xs))

position_free : (p : ℕ → Bool) (xs : List ℕ) → Free p xs → None ≡ position p xs
position_free p xs f = rw (free_len p xs f, le-ltb (length xs) (length xs) (omega arith)) refl

Free-digits : (p : ℕ → Bool) → ((c : ℕ) → is_ascii_digit c ≡ true → p c ≡ false) → (ds : List ℕ) → all_ascii_digits ds ≡ true → Free p ds
Free-digits p none [] h = tt
Free-digits p none (c ∷ cs) h =
    let two = and_parts (is_ascii_digit c) (all_ascii_digits cs) h in
    (none c two.0, Free-digits p none cs two.1)

-- ---- a number that is written

own : IsNumeralModel (λ ds. all_ascii_digits ds ≡ true) (fold next_value 0)
own = numerals_by_fold _ (search rules) (fold next_value) (search rules)

decimal_digits : (n : ℕ) → n < 2 ^ 64 → all_ascii_digits (decimal n) ≡ true
decimal_digits n lt = digits_decimal own n lt

decimal_value : (n : ℕ) → n < 2 ^ 64 → value_of (decimal n) ≡ n
unfolding value_of
decimal_value n lt = digits_value-decimal own n lt

digit_is : (c : ℕ) → is_ascii_digit c ≡ true → (48 ≤ c) × (c ≤ 57)
digit_is c h =
    let two = and_parts (leb 48 c) (leb c 57) h in
    (leb-true 48 c two.0, leb-true c 57 two.1)

no_blank : (c : ℕ) → is_ascii_digit c ≡ true → is_blank c ≡ false
no_blank c h =
    let d = digit_is c h in
    or_from (eqb c 32 || eqb c 9) (eqb c 13) (or_from (eqb c 32) (eqb c 9) (ne_eqb c 32 (λ e. omega arith)) (ne_eqb c 9 (λ e. omega arith))) (ne_eqb c 13 (λ e. omega arith))

no_separator : (c : ℕ) → is_ascii_digit c ≡ true → is_separator c ≡ false
no_separator c h =
    let d = digit_is c h in
    or_from (eqb c 44) (eqb c 10) (ne_eqb c 44 (λ e. omega arith)) (ne_eqb c 10 (λ e. omega arith))

no_stranger : (c : ℕ) → is_ascii_digit c ≡ true → not (is_allowed c) ≡ false
no_stranger c h = rw h refl

Free-decimal : (p : ℕ → Bool) → ((c : ℕ) → is_ascii_digit c ≡ true → p c ≡ false) → (n : ℕ) → n < 2 ^ 64 → Free p (decimal n)
Free-decimal p none n lt = Free-digits p none (decimal n) (decimal_digits n lt)

number_reads : (most at n : ℕ) → n ≤ most → most < 2 ^ 64 → number_of most (at, decimal n) ≡ Ok n
unfolding number_of
number_reads most at n le small =
    let value : value_of (decimal n) ≡ n = decimal_value n (omega arith) in
    rw (value, le-ltb most n le) refl

-- ---- the numbers of an item

numbers_more : (at n : ℕ) (rest : List ℕ) → n < 2 ^ 64 → numbers_in at (decimal n ++ 32 ∷ rest) ≡ (at, decimal n) ∷ numbers_in (at + length (decimal n) + 1) rest
unfolding numbers_in
numbers_more at n rest lt =
    ap (λ (pieces : List (List ℕ)). numbers_of (with_offsets at pieces)) (slice_split_at is_blank (decimal n) 32 rest (Free-all is_blank (decimal n) (Free-decimal is_blank no_blank n lt)) refl)
    ∙ kept (at, decimal n) (parts is_blank (at + length (decimal n) + 1) rest) (decimal_nonempty n lt)

numbers_last : (at n : ℕ) → n < 2 ^ 64 → numbers_in at (decimal n) ≡ (at, decimal n) ∷ []
unfolding numbers_in
numbers_last at n lt =
    ap (λ (pieces : List (List ℕ)). numbers_of (with_offsets at pieces)) (slice_split_none is_blank (decimal n) (Free-all is_blank (decimal n) (Free-decimal is_blank no_blank n lt)))
    ∙ kept (at, decimal n) [] (decimal_nonempty n lt)

-- ---- the items of a text

items_more : (at : ℕ) (body rest : List ℕ) → Free is_separator body → items_in at (body ++ 44 ∷ rest) ≡ cons_option (item_of (numbers_in at body)) (items_in (at + length body + 1) rest)
unfolding items_in
items_more at body rest free = ap (λ (pieces : List (List ℕ)). items_of (with_offsets at pieces)) (slice_split_at is_separator body 44 rest (Free-all is_separator body free) refl)

-- ---- an instruction

abbrev body : Packed → List ℕ
body w = decimal w.code ++ (32 ∷ (decimal w.jt ++ (32 ∷ (decimal w.jf ++ (32 ∷ decimal w.k)))))

word_text_is : (w : Packed) (rest : List ℕ) → packed_text w ++ rest ≡ body w ++ 44 ∷ rest
word_text_is w rest = simp append_assoc

Free-body : (p : ℕ → Bool) → ((c : ℕ) → is_ascii_digit c ≡ true → p c ≡ false) → p 32 ≡ false → (w : Packed) → IsPacked w → Free p (body w)
Free-body p none space w fits =
    let number : (n : ℕ) → n < 2 ^ 64 → Free p (decimal n) = Free-decimal p none in
    Free-append p (decimal w.code) _ (number w.code (omega (arith, fits.code))) (
      space,
      Free-append p (decimal w.jt) _ (number w.jt (omega (arith, fits.jt))) (
        space,
        Free-append p (decimal w.jf) _ (number w.jf (omega (arith, fits.jf))) (space, number w.k (omega (arith, fits.k))),
      ),
    )

body_numbers : (w : Packed) (at : ℕ) → IsPacked w
    → let jt_at = at + length (decimal w.code) + 1 in let jf_at = jt_at + length (decimal w.jt) + 1 in let k_at = jf_at + length (decimal w.jf) + 1 in
    numbers_in at (body w) ≡ (at, decimal w.code) ∷ (jt_at, decimal w.jt) ∷ (jf_at, decimal w.jf) ∷ (k_at, decimal w.k) ∷ []
body_numbers w at fits =
    let jt_at = at + length (decimal w.code) + 1 in
    let jf_at = jt_at + length (decimal w.jt) + 1 in
    let k_at = jf_at + length (decimal w.jf) + 1 in
    numbers_more at w.code _ (omega (arith, fits.code))
    ∙ ap (λ (ps : List Part). (at, decimal w.code) ∷ ps) (numbers_more jt_at w.jt _ (omega (arith, fits.jt))
    ∙ ap (λ (ps : List Part). (jt_at, decimal w.jt) ∷ ps) (numbers_more jf_at w.jf _ (omega (arith, fits.jf))
    ∙ ap (λ (ps : List Part). (jf_at, decimal w.jf) ∷ ps) (numbers_last k_at w.k (omega (arith, fits.k)))))

word_is : (w : Packed) (a b c d : ℕ) → IsPacked w → packed_of (a, decimal w.code) ((b, decimal w.jt) ∷ (c, decimal w.jf) ∷ (d, decimal w.k) ∷ []) ≡ Ok w
unfolding packed_of
word_is w a b c d fits =
    rw (number_reads 0xffff a w.code (omega (arith, fits.code)) (lit< tt), number_reads 0xff b w.jt (omega (arith, fits.jt)) (lit< tt), number_reads 0xff c w.jf (omega (arith, fits.jf)) (lit< tt), number_reads 0xffff_ffff d w.k (omega (arith, fits.k)) (lit< tt)) refl

word_item : (w : Packed) (at : ℕ) (rest : List ℕ) → IsPacked w
    → let jt_at = at + length (decimal w.code) + 1 in let jf_at = jt_at + length (decimal w.jt) + 1 in let k_at = jf_at + length (decimal w.jf) + 1 in
    items_in at (packed_text w ++ rest) ≡ ((at, decimal w.code), (jt_at, decimal w.jt) ∷ (jf_at, decimal w.jf) ∷ (k_at, decimal w.k) ∷ []) ∷ items_in (at + length (body w) + 1) rest
word_item w at rest fits =
    ap (items_in at) (word_text_is w rest) ∙ items_more at (body w) rest (Free-body is_separator no_separator refl w fits)
    ∙ ap (λ (ps : List Part). cons_option (item_of ps) (items_in (at + length (body w) + 1) rest)) (body_numbers w at fits)

insns_read : (ws : List Packed) (at : ℕ) → AllByRecursion IsPacked ws → insns_of (items_in at (flat_map packed_text ws)) ≡ Ok ws
unfolding insns_of
insns_read [] at fits = rw (items_none at) refl
insns_read (w ∷ ws) at fits =
    let rest = flat_map packed_text ws in
    ap insns_of (ap (items_in at) (flat_map-cons packed_text w ws) ∙ word_item w at rest fits.0)
    ∙ rw (word_is w at _ _ _ fits.0, insns_read ws (at + length (body w) + 1) fits.1) refl

Free-insns : (p : ℕ → Bool) → ((c : ℕ) → is_ascii_digit c ≡ true → p c ≡ false) → p 32 ≡ false → p 44 ≡ false → (ws : List Packed) → AllByRecursion IsPacked ws → Free p (flat_map packed_text ws)
Free-insns p none space comma [] fits = tt
Free-insns p none space comma (w ∷ ws) fits =
    let one : Free p (body w ++ 44 ∷ flat_map packed_text ws) = Free-append p (body w) (44 ∷ flat_map packed_text ws) (Free-body p none space w fits.0) (comma, Free-insns p none space comma ws fits.1) in
    rw (flat_map-cons, word_text_is) one

counts : (n at : ℕ) → n ≤ 4096 → count_of (at, decimal n) [] ≡ Ok n
unfolding count_of
counts n at few = rw (number_reads 0xffff_ffff at n (omega arith) (lit< tt), le-ltb 4096 n few) refl

each_fits : (ws : List Packed) → All IsPacked ws → AllByRecursion IsPacked ws
each_fits [] h = tt
each_fits (w ∷ ws) h = (h 0 w (omega arith), each_fits ws (λ k d lt. h (suc k) d (omega arith)))

as_counted : (end : ℕ) (ws : List Packed) (items : List Item) → insns_of items ≡ Ok ws → counted_insns end (length ws) items ≡ Ok ws
unfolding counted_insns
as_counted end ws items h = rw (h, eq-eqb (length ws) (length ws) refl) refl

pub reads_back : (ws : List Packed) → length ws ≤ 4096 → All IsPacked ws → numeric_of (numeric_text ws) ≡ Ok ws
reads_back ws few packed =
    let fits = each_fits ws packed in
    let n = length ws in
    let small : n < 2 ^ 64 = omega arith in
    let rest = flat_map packed_text ws in
    let text = decimal n ++ 44 ∷ rest in
    let written : numeric_text ws ≡ text = append_assoc (decimal n) (44 ∷ []) rest in
    let free : Free (λ b. not (is_allowed b)) text =
    Free-append (λ b. not (is_allowed b)) (decimal n) (44 ∷ rest) (Free-decimal (λ b. not (is_allowed b)) no_stranger n small)
    (refl, Free-insns (λ b. not (is_allowed b)) no_stranger refl refl ws fits) in
    let items : items_in 0 text ≡ ((0, decimal n), []) ∷ items_in (0 + length (decimal n) + 1) rest =
    items_more 0 (decimal n) rest (Free-decimal is_separator no_separator n small)
    ∙ ap (λ (ps : List Part). cons_option (item_of ps) (items_in (0 + length (decimal n) + 1) rest)) (numbers_last 0 n small) in
    ap numeric_of written ∙ known text (position_free (λ b. not (is_allowed b)) text free) ∙ ap (program_of (length text)) items
    ∙ counted (length text) ((0, decimal n), []) (items_in (0 + length (decimal n) + 1) rest) n (counts n 0 few)
    ∙ as_counted (length text) ws (items_in (0 + length (decimal n) + 1) rest) (insns_read ws (0 + length (decimal n) + 1) fits)
