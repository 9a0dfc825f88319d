-- Cutting a text: what is left of the items and the numbers after a step of the reader.
use Rattle.std.proofs.Common.{◌≡◌, ℕ, suc, ◌+◌, ◌<◌, ◌≤◌, Bool, true, false, not, ltb, List, [], ◌∷◌, length, get_or, take, drop, Option, refl, sym, ap, ◌∙◌, arith, inl, inr}
use Rattle.std.specs.List.{slice_split, onto_first, prefix_len, position_or_len, filter, filter_map, cons_option}
use Rattle.std.proofs.Math.Numerals.{one-add}
use Rattle.std.proofs.Math.Nat.{add-zero}
use Rattle.std.proofs.lemmas.Bool.{cases_lt, cases_Bool, lt-ltb, or_cases, or_parts}
use Rattle.std.proofs.lemmas.List.Splits.{slice_split-cons_yes, slice_split-cons_no, slice_split_none, slice_split_first}
use Rattle.std.proofs.lemmas.List.Sums.{prefix_len-le-length, prefix_len_stops, fails_before_first, passes_at_first}
use Rattle.std.proofs.lemmas.List.{take_all, drop_all, drop_more, length-take, length-drop, get_or-take, get_or-drop, nil_from_length}
use Rattle.bpf_isa.specs.Numeric.{Part, Item, with_offsets, parts, is_blank, is_separator, is_space, numbers_in, item_of, items_in}

abbrev pub numbers_of : List Part → List Part
numbers_of ps = filter (λ p. ltb 0 (length p.1)) ps

abbrev pub item_at : Part → Option Item
item_at p = item_of (numbers_in p.0 p.1)

abbrev pub items_of : List Part → List Item
items_of ps = filter_map item_at ps

-- ---- the first part

parts_cons : (ends : ℕ → Bool) (at c : ℕ) (cs : List ℕ) → ends c ≡ true → parts ends at (c ∷ cs) ≡ (at, []) ∷ parts ends (at + 1) cs
parts_cons ends at c cs h =
    let e : at + 0 + 1 ≡ at + 1 = omega arith in
    rw (slice_split-cons_yes ends c cs h, e) refl

parts_first : (ends : ℕ → Bool) (at : ℕ) (bs : List ℕ) → position_or_len ends bs < length bs
    → parts ends at bs ≡ (at, take (position_or_len ends bs) bs) ∷ parts ends (at + position_or_len ends bs + 1) (drop (position_or_len ends bs + 1) bs)
parts_first ends at bs lt =
    let e : length (take (position_or_len ends bs) bs) ≡ position_or_len ends bs = omega (arith, length-take (position_or_len ends bs) bs) in
    ap (with_offsets at) (slice_split_first ends bs 0 lt) ∙ ap (λ (n : ℕ). (at, take (position_or_len ends bs) bs) ∷ parts ends (at + n + 1) (drop (position_or_len ends bs + 1) bs)) e

parts_only : (ends : ℕ → Bool) (at : ℕ) (bs : List ℕ) → length bs ≤ position_or_len ends bs → parts ends at bs ≡ (at, bs) ∷ []
parts_only ends at bs le = rw (slice_split_none ends bs (λ k d lt. fails_before_first ends bs k d (omega arith))) refl

-- F skips one such byte, and so each of those in prefix
skip_all : {X : Type 0} (F : ℕ → List ℕ → X) (p : ℕ → Bool) → ((at c : ℕ) (cs : List ℕ) → p c ≡ true → F at (c ∷ cs) ≡ F (at + 1) cs)
    → (at : ℕ) (bs : List ℕ) → F at bs ≡ F (at + prefix_len p bs) (drop (prefix_len p bs) bs)
skip_all F p step at [] = ap (λ n. F n []) (sym (add-zero at))
skip_all F p step at (c ∷ cs) =
    elim (cases_Bool (p c)) [
      | inl ends_here ↦
          let m : prefix_len p (c ∷ cs) ≡ suc (prefix_len p cs) = rw ends_here (one-add (prefix_len p cs)) in
          let e : at + 1 + prefix_len p cs ≡ at + suc (prefix_len p cs) = omega arith in
          step at c cs ends_here ∙ skip_all F p step (at + 1) cs ∙ ap (λ n. F n (drop (prefix_len p cs) cs)) e ∙ ap (λ n. F (at + n) (drop n (c ∷ cs))) (sym m)
      | inr goes_on ↦
          let m : prefix_len p (c ∷ cs) ≡ 0 = rw goes_on refl in
          ap (λ n. F n (c ∷ cs)) (sym (add-zero at)) ∙ ap (λ n. F (at + n) (drop n (c ∷ cs))) (sym m)
    ]

-- F of what stands behind a part is F from the byte on that ended it
from_end : {X : Type 0} (F : ℕ → List ℕ → X) (p : ℕ → Bool) → ((at c : ℕ) (cs : List ℕ) → p c ≡ true → F at (c ∷ cs) ≡ F (at + 1) cs)
    → (at : ℕ) (bs : List ℕ) → position_or_len p bs < length bs
    → F (at + position_or_len p bs + 1) (drop (position_or_len p bs + 1) bs) ≡ F (at + position_or_len p bs) (drop (position_or_len p bs) bs)
from_end F p step at bs lt =
    let n = position_or_len p bs in
    sym (step (at + n) (get_or bs n 0) (drop (n + 1) bs) (passes_at_first p bs 0 lt)) ∙ ap (F (at + n)) (sym (drop_more bs n 0 lt))

first_within : (p : ℕ → Bool) (bs : List ℕ) → 0 < length bs → p (get_or bs 0 0) ≡ false → 0 < position_or_len p bs
first_within p [] lt h = absurd (omega arith)
first_within p (c ∷ cs) lt h = rw h (omega arith)

-- ---- numbers

numbers_none : (at : ℕ) → numbers_in at [] ≡ []
unfolding numbers_in
numbers_none at = refl

numbers_skip : (at c : ℕ) (cs : List ℕ) → is_blank c ≡ true → numbers_in at (c ∷ cs) ≡ numbers_in (at + 1) cs
unfolding numbers_in
numbers_skip at c cs h = ap numbers_of (parts_cons is_blank at c cs h)

pub kept : (p : Part) (ps : List Part) → 0 < length p.1 → numbers_of (p ∷ ps) ≡ p ∷ numbers_of ps
kept p ps lt = rw (lt-ltb 0 (length p.1) lt) refl

numbers_take : (at : ℕ) (bs : List ℕ) → 0 < length bs → is_blank (get_or bs 0 0) ≡ false
    → numbers_in at bs ≡ (at, take (position_or_len is_blank bs) bs) ∷ numbers_in (at + position_or_len is_blank bs) (drop (position_or_len is_blank bs) bs)
unfolding numbers_in
numbers_take at bs some first =
    let n = position_or_len is_blank bs in
    let pos : 0 < n = first_within is_blank bs some first in
    let le : n ≤ length bs = prefix_len-le-length (λ x. not (is_blank x)) bs in
    let long : 0 < length (take n bs) = omega (arith, length-take n bs) in
    elim (cases_lt n (length bs)) [
      | inl lt ↦
          ap numbers_of (parts_first is_blank at bs lt) ∙ kept (at, take n bs) (parts is_blank (at + n + 1) (drop (n + 1) bs)) long
          ∙ ap (λ (ps : List Part). (at, take n bs) ∷ ps) (from_end numbers_in is_blank numbers_skip at bs lt)
      | inr ge ↦
          let whole : take n bs ≡ bs = take_all n bs ge in
          let none : drop n bs ≡ [] = drop_all n bs ge in
          ap numbers_of (parts_only is_blank at bs ge) ∙ kept (at, bs) [] some
          ∙ ap (λ (x : List ℕ). (at, x) ∷ []) (sym whole)
          ∙ ap (λ (ps : List Part). (at, take n bs) ∷ ps) (sym (ap (numbers_in (at + n)) none ∙ numbers_none (at + n)))
    ]

-- ---- items

pub items_none : (at : ℕ) → items_in at [] ≡ []
unfolding items_in
items_none at = rw (numbers_none at) refl

items_of_blank : (at c : ℕ) (pieces : List (List ℕ)) → is_blank c ≡ true → items_of (with_offsets at (onto_first c pieces)) ≡ items_of (with_offsets (at + 1) pieces)
items_of_blank at c [] h = rw (numbers_skip at c [] h, numbers_none (at + 1)) refl
items_of_blank at c (w ∷ ws) h =
    let e : at + suc (length w) + 1 ≡ at + 1 + length w + 1 = omega arith in
    rw (numbers_skip at c w h, e) refl

items_skip : (at c : ℕ) (cs : List ℕ) → is_space c ≡ true → items_in at (c ∷ cs) ≡ items_in (at + 1) cs
unfolding items_in
items_skip at c cs h =
    elim (cases_Bool (is_separator c)) [
      | inl ends_here ↦ ap items_of (parts_cons is_separator at c cs ends_here) ∙ rw (numbers_none at) refl
      | inr goes_on ↦ elim (or_cases (is_blank c) (is_separator c) h) [
        | inl blank ↦ ap (λ (pieces : List (List ℕ)). items_of (with_offsets at pieces)) (slice_split-cons_no is_separator c cs goes_on) ∙ items_of_blank at c (slice_split is_separator cs) blank
        | inr ends_here ↦ absurd cc
      ]
    ]

items_skip_end : (at c : ℕ) (cs : List ℕ) → is_separator c ≡ true → items_in at (c ∷ cs) ≡ items_in (at + 1) cs
unfolding items_in
items_skip_end at c cs ends_here = ap items_of (parts_cons is_separator at c cs ends_here) ∙ rw (numbers_none at) refl

items_take : (at : ℕ) (bs : List ℕ)
    → items_in at bs ≡ cons_option (item_of (numbers_in at (take (position_or_len is_separator bs) bs))) (items_in (at + position_or_len is_separator bs) (drop (position_or_len is_separator bs) bs))
unfolding items_in
items_take at bs =
    let n = position_or_len is_separator bs in
    let le : n ≤ length bs = prefix_len-le-length (λ x. not (is_separator x)) bs in
    elim (cases_lt n (length bs)) [
      | inl lt ↦
          ap items_of (parts_first is_separator at bs lt) ∙ ap (cons_option (item_of (numbers_in at (take n bs)))) (from_end items_in is_separator items_skip_end at bs lt)
      | inr ge ↦
          let whole : take n bs ≡ bs = take_all n bs ge in
          let none : drop n bs ≡ [] = drop_all n bs ge in
          ap items_of (parts_only is_separator at bs ge)
          ∙ ap (λ (x : List ℕ). cons_option (item_of (numbers_in at x)) []) (sym whole)
          ∙ ap (cons_option (item_of (numbers_in at (take n bs)))) (sym (ap (items_in (at + n)) none ∙ items_none (at + n)))
    ]

-- ---- all that the reader does

-- rest is what follows the bytes in prefix that p passes: there are no others, or its first isn't one
stops : (p : ℕ → Bool) (bs rest : List ℕ) → rest ≡ drop (prefix_len p bs) bs → 0 < length rest → p (get_or rest 0 0) ≡ false
stops p bs rest e lt =
    let n = prefix_len p bs in
    let within : n < length bs = omega (arith, length-drop n bs, ap length e) in
    let at : get_or rest 0 0 ≡ get_or bs n 0 = ap (λ (x : List ℕ). get_or x 0 0) e ∙ get_or-drop n bs 0 0 ∙ ap (λ (i : ℕ). get_or bs i 0) (add-zero n) in
    ap p at ∙ prefix_len_stops p bs 0 within

pub numbers_end : (at : ℕ) (bs rest : List ℕ) → rest ≡ drop (prefix_len is_blank bs) bs → length rest ≡ 0 → numbers_in at bs ≡ []
numbers_end at bs rest e none =
    skip_all numbers_in is_blank numbers_skip at bs ∙ ap (numbers_in (at + prefix_len is_blank bs)) (sym e ∙ nil_from_length rest none) ∙ numbers_none (at + prefix_len is_blank bs)

pub numbers_next : (at : ℕ) (bs rest : List ℕ) → rest ≡ drop (prefix_len is_blank bs) bs → 0 < length rest
    → numbers_in at bs ≡ (at + prefix_len is_blank bs, take (position_or_len is_blank rest) rest) ∷ numbers_in (at + prefix_len is_blank bs + position_or_len is_blank rest) (drop (position_or_len is_blank rest) rest)
numbers_next at bs rest e some =
    skip_all numbers_in is_blank numbers_skip at bs ∙ ap (numbers_in (at + prefix_len is_blank bs)) (sym e)
    ∙ numbers_take (at + prefix_len is_blank bs) rest some (stops is_blank bs rest e some)

pub items_end : (at : ℕ) (bs rest : List ℕ) → rest ≡ drop (prefix_len is_space bs) bs → length rest ≡ 0 → items_in at bs ≡ []
items_end at bs rest e none =
    skip_all items_in is_space items_skip at bs ∙ ap (items_in (at + prefix_len is_space bs)) (sym e ∙ nil_from_length rest none) ∙ items_none (at + prefix_len is_space bs)

-- the item in prefix isn't empty
pub item_long : (bs rest : List ℕ) → rest ≡ drop (prefix_len is_space bs) bs → 0 < length rest → 0 < position_or_len is_separator rest
item_long bs rest e some =
    first_within is_separator rest some (or_parts (is_blank (get_or rest 0 0)) (is_separator (get_or rest 0 0)) (stops is_space bs rest e some)).1

pub items_next : (at : ℕ) (bs rest item : List ℕ) → rest ≡ drop (prefix_len is_space bs) bs → item ≡ take (position_or_len is_separator rest) rest → 0 < length rest
    → items_in at bs ≡ ((at + prefix_len is_space bs, take (position_or_len is_blank item) item), numbers_in (at + prefix_len is_space bs + position_or_len is_blank item) (drop (position_or_len is_blank item) item))
    ∷ items_in (at + prefix_len is_space bs + position_or_len is_separator rest) (drop (position_or_len is_separator rest) rest)
items_next at bs rest item e cut some =
    let s = at + prefix_len is_space bs in
    let i = position_or_len is_separator rest in
    let long : 0 < i = item_long bs rest e some in
    let within : i ≤ length rest = prefix_len-le-length (λ x. not (is_separator x)) rest in
    let item_some : 0 < length item = omega (arith, ap length cut, length-take i rest) in
    let same : get_or item 0 0 ≡ get_or rest 0 0 = ap (λ (x : List ℕ). get_or x 0 0) cut ∙ get_or-take i rest 0 0 long in
    let first : is_blank (get_or item 0 0) ≡ false = ap is_blank same ∙ (or_parts (is_blank (get_or rest 0 0)) (is_separator (get_or rest 0 0)) (stops is_space bs rest e some)).0 in
    skip_all items_in is_space items_skip at bs ∙ ap (items_in s) (sym e) ∙ items_take s rest
    ∙ ap (λ (x : List ℕ). cons_option (item_of (numbers_in s x)) (items_in (s + i) (drop i rest))) (sym cut)
    ∙ ap (λ (ps : List Part). cons_option (item_of ps) (items_in (s + i) (drop i rest))) (numbers_take s item item_some first)
