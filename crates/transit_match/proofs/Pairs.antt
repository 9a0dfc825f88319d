-- A frame that comes out, and one that goes in, keep the pairing.
use Rattle.std.proofs.Common.{◌≡◌, ℕ, zero, suc, ◌<◌, ◌≤◌, Bool, true, false, not, ◌⊎◌, inl, inr, List, [], ◌∷◌, ◌++◌, Option, Some, None, is_some, length, get_or, refl, sym, ◌∙◌, ap, subst, slice_get, arith, le-ltb, lt-ltb, leb-true}
use Rattle.std.proofs.lemmas.Bool.{and_parts, both_ways, cond_both, false≢true, true≢false}
use Rattle.std.proofs.lemmas.Option.{none-some, same_Some, slice_get_within, slice_get-get_or}
use Rattle.transit_match.specs.Pairing.{Row, Arrival, IsFirst, IsPairing, may_be, came_before}
use Rattle.transit_match.specs.Waiting.{IsAfter, entered, entry_of, may_take, paired}
use Rattle.transit_match.proofs.Lists.{all_at, get_cases, get_last, get_left, left_false}

-- ---- all that a frame that comes out does to each row

abbrev pub given : {K : Type 0} → ℕ → Row K → Row K
given n row = record row { partner = Some n }

abbrev pub NoneBefore : {K : Type 0} → (K → K → Bool) → ℕ → Arrival K → List (Row K) → ℕ → Type 0
NoneBefore {K} same window a rows place = (earlier : ℕ) (other : Row K) → earlier < place → slice_get rows earlier ≡ Some other →
    may_take same window a (entry_of other) ≡ false

-- an earlier row has it
abbrev pub Earlier : {K : Type 0} → (K → K → Bool) → ℕ → Arrival K → ℕ → List (Row K) → ℕ → Type 0
Earlier {K} same window a n after place = (earlier : ℕ) × (other : Row K) × (earlier < place) × (slice_get after earlier ≡ Some other)
    × (may_be same window other a ≡ true) × (other.partner ≡ Some n)

-- the first row that may take it does, and no other changes
abbrev pub Turned : {K : Type 0} → (K → K → Bool) → ℕ → Arrival K → ℕ → List (Row K) → List (Row K) → ℕ → Row K → Row K → Type 0
Turned same window a n rows after place row new =
    ((new ≡ given n row) × (may_take same window a (entry_of row) ≡ true) × NoneBefore same window a rows place)
    ⊎ ((new ≡ row) × ((may_take same window a (entry_of row) ≡ false) ⊎ Earlier same window a n after place))

abbrev pub Kept : {K : Type 0} → (K → K → Bool) → ℕ → Arrival K → ℕ → List (Row K) → List (Row K) → ℕ → Row K → Type 0
Kept {K} same window a n rows after place row =
    (new : Row K) × (slice_get after place ≡ Some new) × Turned same window a n rows after place row new

turned_here : {K : Type 0} (same : K → K → Bool) (window : ℕ) (a : Arrival K) (n : ℕ) (x : Row K) (xs : List (Row K)) →
    may_take same window a (entry_of x) ≡ true → (place : ℕ) (row : Row K) → slice_get (x ∷ xs) place ≡ Some row →
    Kept same window a n (x ∷ xs) (given n x ∷ xs) place row
turned_here {K} same window a n x xs t zero row e =
    let it : x ≡ row = same_Some x row e in (
      given n row,
      ap (λ (y : Row K). Some (given n y)) it,
      inl (refl, subst (λ (y : Row K). may_take same window a (entry_of y) ≡ true) it t, λ earlier other h g. absurd (omega arith)),
    )
turned_here {K} same window a n x xs t (suc place) row e =
    (row, e, inr (refl, inr (0, given n x, omega arith, refl, (and_parts _ _ t).1, refl)))

none_past : {K : Type 0} (same : K → K → Bool) (window : ℕ) (a : Arrival K) (x : Row K) (xs : List (Row K)) (place : ℕ) →
    may_take same window a (entry_of x) ≡ false → NoneBefore same window a xs place →
    (earlier : ℕ) (other : Row K) → earlier < suc place → slice_get (x ∷ xs) earlier ≡ Some other →
    may_take same window a (entry_of other) ≡ false
none_past {K} same window a x xs place f none zero other h e =
    subst (λ (y : Row K). may_take same window a (entry_of y) ≡ false) (same_Some x other e) f
none_past same window a x xs place f none (suc earlier) other h e = none earlier other (omega arith) e

turned_past : {K : Type 0} (same : K → K → Bool) (window : ℕ) (a : Arrival K) (n : ℕ) (x : Row K) (xs after : List (Row K)) →
    may_take same window a (entry_of x) ≡ false →
    ((place : ℕ) (row : Row K) → slice_get xs place ≡ Some row → Kept same window a n xs after place row) →
    (place : ℕ) (row : Row K) → slice_get (x ∷ xs) place ≡ Some row → Kept same window a n (x ∷ xs) (x ∷ after) place row
turned_past {K} same window a n x xs after f rest zero row e =
    (row, e, inr (refl, inl (subst (λ (y : Row K). may_take same window a (entry_of y) ≡ false) (same_Some x row e) f)))
turned_past {K} same window a n x xs after f rest (suc place) row e =
    let kept = rest place row e in (
      kept.0,
      kept.1,
      elim kept.2 as (λ _. Turned same window a n (x ∷ xs) (x ∷ after) (suc place) row kept.0) [
        | inl t ↦ inl (t.0, t.1, none_past same window a x xs place f t.2)
        | inr t ↦ inr (
          t.0,
          elim t.1 as (λ _. (may_take same window a (entry_of row) ≡ false) ⊎ Earlier same window a n (x ∷ after) (suc place)) [
            | inl g ↦ inl g
            | inr g ↦ inr (suc g.0, g.1, omega (arith, g.2), g.3, g.4, g.5)
          ],
        )
      ],
    )

pub turned : {K : Type 0} (same : K → K → Bool) (window : ℕ) (a : Arrival K) (n : ℕ) (rows : List (Row K)) (place : ℕ) (row : Row K) →
    slice_get rows place ≡ Some row → Kept same window a n rows (paired same window a n rows) place row
turned same window a n [] place row e = absurd (none-some row e)
turned {K} same window a n (x ∷ xs) place row e =
    cond_both (may_take same window a (entry_of x)) (given n x ∷ xs) (x ∷ paired same window a n xs)
    (λ (after : List (Row K)). Kept same window a n (x ∷ xs) after place row)
    (λ t. turned_here same window a n x xs t place row e)
    (λ f. turned_past same window a n x xs (paired same window a n xs) f (turned same window a n xs) place row e)

pub length-paired : {K : Type 0} (same : K → K → Bool) (window : ℕ) (a : Arrival K) (n : ℕ) (rows : List (Row K)) →
    length (paired same window a n rows) ≡ length rows
length-paired same window a n [] = refl
length-paired {K} same window a n (x ∷ xs) =
    cond_both (may_take same window a (entry_of x)) (given n x ∷ xs) (x ∷ paired same window a n xs)
    (λ (after : List (Row K)). length after ≡ suc (length xs)) (λ _. refl) (λ _. ap suc (length-paired same window a n xs))

-- the row as it was
pub was : {K : Type 0} (same : K → K → Bool) (window : ℕ) (a : Arrival K) (n : ℕ) (rows : List (Row K)) (place : ℕ) (new : Row K) →
    slice_get (paired same window a n rows) place ≡ Some new →
    (row : Row K) × (slice_get rows place ≡ Some row) × Turned same window a n rows (paired same window a n rows) place row new
was {K} same window a n rows place new e =
    let h : place < length rows = omega (arith, length-paired same window a n rows, slice_get_within (paired same window a n rows) place new e) in
    let row : Row K = get_or rows place new in
    let at : slice_get rows place ≡ Some row = slice_get-get_or rows place new h in
    let kept = turned same window a n rows place row at in
    let it : kept.0 ≡ new = same_Some kept.0 new (sym kept.1 ∙ e) in
    (row, at, subst (λ (y : Row K). Turned same window a n rows (paired same window a n rows) place row y) it kept.2)

-- ---- the pairing after a frame that comes out

pub free_none : (o : Option ℕ) → not (is_some o) ≡ true → o ≡ None
free_none None e = refl
free_none (Some x) e = absurd (false≢true e)

taken_before : (o : Option ℕ) (n : ℕ) → not (is_some o) ≡ false → ((j : ℕ) → o ≡ Some j → j < n) → came_before o n ≡ true
taken_before None n e below = absurd (true≢false e)
taken_before (Some j) n e below = lt-ltb j n (below j refl)

partner_below : {K : Type 0} (same : K → K → Bool) (window : ℕ) (rows : List (Row K)) (arrivals : List (Arrival K)) →
    IsPairing same window rows arrivals → (i : ℕ) (row : Row K) → slice_get rows i ≡ Some row →
    (j : ℕ) → row.partner ≡ Some j → j < length arrivals
partner_below same window rows arrivals pairing i row at j e =
    let p = (pairing i j row at).0 e in slice_get_within arrivals j p.0 p.1

-- a row that doesn't take one that it may be has come out
has_come : {K : Type 0} (same : K → K → Bool) (window : ℕ) (a : Arrival K) (rows : List (Row K)) (arrivals : List (Arrival K)) →
    IsPairing same window rows arrivals → (i : ℕ) (row : Row K) → slice_get rows i ≡ Some row →
    may_take same window a (entry_of row) ≡ false → may_be same window row a ≡ true → came_before row.partner (length arrivals) ≡ true
has_come same window a rows arrivals pairing i row at f may =
    taken_before row.partner (length arrivals) (left_false (not (is_some row.partner)) (may_be same window row a) f may)
    (partner_below same window rows arrivals pairing i row at)

first_new : {K : Type 0} (same : K → K → Bool) (window : ℕ) (a : Arrival K) (rows : List (Row K)) (arrivals : List (Arrival K)) →
    IsPairing same window rows arrivals → (i : ℕ) (row : Row K) →
    may_take same window a (entry_of row) ≡ true → NoneBefore same window a rows i →
    IsFirst same window (paired same window a (length arrivals) rows) (given (length arrivals) row) i a (length arrivals)
first_new {K} same window a rows arrivals pairing i row t none =
    let n : ℕ = length arrivals in
    record {
      may = (and_parts _ _ t).1;
      free = le-ltb n n (omega arith);
      first = λ earlier new h e may.
          let old = was same window a n rows earlier new e in
          elim old.2 as (λ _. came_before new.partner n ≡ true) [
            | inl u ↦ absurd (both_ways _ (none earlier old.0 h old.1) u.1)
            | inr u ↦ subst (λ (o : Row K). came_before o.partner n ≡ true) (sym u.0)
                (has_come same window a rows arrivals pairing earlier old.0 old.1 (none earlier old.0 h old.1)
                (subst (λ (o : Row K). may_be same window o a ≡ true) u.0 may))
          ];
    }

first_old : {K : Type 0} (same : K → K → Bool) (window : ℕ) (a : Arrival K) (n : ℕ) (rows : List (Row K)) (i j : ℕ) (row : Row K)
    (arrival : Arrival K) → IsFirst same window rows row i arrival j →
    IsFirst same window (paired same window a n rows) row i arrival j
first_old {K} same window a n rows i j row arrival f = record {
  may = f.may;
  free = f.free;
  first = λ earlier new h e may.
      let old = was same window a n rows earlier new e in
      elim old.2 as (λ _. came_before new.partner j ≡ true) [
        | inl u ↦
            let none : old.0.partner ≡ None = free_none old.0.partner (and_parts _ _ u.1).0 in
            let come = f.first earlier old.0 h old.1 (subst (λ (o : Row K). may_be same window o arrival ≡ true) u.0 may) in
            absurd (both_ways _ (ap (λ (o : Option ℕ). came_before o j) none) come)
        | inr u ↦ subst (λ (o : Row K). came_before o.partner j ≡ true) (sym u.0)
            (f.first earlier old.0 h old.1 (subst (λ (o : Row K). may_be same window o arrival ≡ true) u.0 may))
      ];
}

first_back : {K : Type 0} (same : K → K → Bool) (window : ℕ) (a : Arrival K) (n : ℕ) (rows : List (Row K)) (i j : ℕ) (row new : Row K)
    (arrival : Arrival K) → j < n → IsFirst same window (paired same window a n rows) new i arrival j →
    may_be same window row arrival ≡ true → came_before row.partner j ≡ false → IsFirst same window rows row i arrival j
first_back {K} same window a n rows i j row new arrival below f may free = record {
  may = may;
  free = free;
  first = λ earlier other h e may_other.
      let kept = turned same window a n rows earlier other e in
      elim kept.2 as (λ _. came_before other.partner j ≡ true) [
        | inl u ↦
            let come = f.first earlier kept.0 h kept.1 (subst (λ (o : Row K). may_be same window o arrival ≡ true) (sym u.0) may_other) in
            absurd (both_ways _ (le-ltb n j (omega arith)) (subst (λ (o : Row K). came_before o.partner j ≡ true) u.0 come))
        | inr u ↦ subst (λ (o : Row K). came_before o.partner j ≡ true) u.0
            (f.first earlier kept.0 h kept.1 (subst (λ (o : Row K). may_be same window o arrival ≡ true) (sym u.0) may_other))
      ];
}

abbrev pub IsPair : {K : Type 0} → (K → K → Bool) → ℕ → List (Row K) → List (Arrival K) → ℕ → ℕ → Row K → Type 0
IsPair {K} same window rows arrivals i j row =
    (arrival : Arrival K) × (slice_get arrivals j ≡ Some arrival) × IsFirst same window rows row i arrival j

forward : {K : Type 0} (same : K → K → Bool) (window : ℕ) (a : Arrival K) (rows : List (Row K)) (arrivals : List (Arrival K)) →
    IsPairing same window rows arrivals → (i j : ℕ) (new : Row K) →
    slice_get (paired same window a (length arrivals) rows) i ≡ Some new → new.partner ≡ Some j →
    IsPair same window (paired same window a (length arrivals) rows) (arrivals ++ a ∷ []) i j new
forward {K} same window a rows arrivals pairing i j new at e =
    let n : ℕ = length arrivals in
    let after : List (Row K) = paired same window a n rows in
    let old = was same window a n rows i new at in
    elim old.2 as (λ _. IsPair same window after (arrivals ++ a ∷ []) i j new) [
      | inl t ↦
          let it : n ≡ j = same_Some n j (sym (ap (λ (o : Row K). o.partner) t.0) ∙ e) in
          subst (λ (m : ℕ). IsPair same window after (arrivals ++ a ∷ []) i m new) it (
            a,
            get_last arrivals a,
            subst (λ (o : Row K). IsFirst same window after o i a n) (sym t.0)
                (first_new same window a rows arrivals pairing i old.0 t.1 t.2),
          )
      | inr t ↦
          let pair = (pairing i j old.0 old.1).0 (sym (ap (λ (o : Row K). o.partner) t.0) ∙ e) in
          let below : j < n = slice_get_within arrivals j pair.0 pair.1 in (
            pair.0,
            get_left arrivals (a ∷ []) j below ∙ pair.1,
            subst (λ (o : Row K). IsFirst same window after o i pair.0 j) (sym t.0)
                (first_old same window a n rows i j old.0 pair.0 pair.2),
          )
    ]

back_old : {K : Type 0} (same : K → K → Bool) (window : ℕ) (a : Arrival K) (rows : List (Row K)) (arrivals : List (Arrival K)) →
    IsPairing same window rows arrivals → (i j : ℕ) (new : Row K) →
    slice_get (paired same window a (length arrivals) rows) i ≡ Some new →
    (arrival : Arrival K) → slice_get arrivals j ≡ Some arrival → j < length arrivals →
    IsFirst same window (paired same window a (length arrivals) rows) new i arrival j → new.partner ≡ Some j
back_old {K} same window a rows arrivals pairing i j new at arrival at_j below f =
    let n : ℕ = length arrivals in
    let old = was same window a n rows i new at in
    elim old.2 as (λ _. new.partner ≡ Some j) [
      | inl t ↦
          let none : old.0.partner ≡ None = free_none old.0.partner (and_parts _ _ t.1).0 in
          let was_first = first_back same window a n rows i j old.0 new arrival below f
          (subst (λ (o : Row K). may_be same window o arrival ≡ true) t.0 f.may) (ap (λ (o : Option ℕ). came_before o j) none) in
          absurd (none-some j (sym none ∙ (pairing i j old.0 old.1).1 (arrival, at_j, was_first)))
      | inr t ↦
          let was_first = first_back same window a n rows i j old.0 new arrival below f
          (subst (λ (o : Row K). may_be same window o arrival ≡ true) t.0 f.may)
          (subst (λ (o : Row K). came_before o.partner j ≡ false) t.0 f.free) in
          ap (λ (o : Row K). o.partner) t.0 ∙ (pairing i j old.0 old.1).1 (arrival, at_j, was_first)
    ]

back_new : {K : Type 0} (same : K → K → Bool) (window : ℕ) (a : Arrival K) (rows : List (Row K)) (arrivals : List (Arrival K)) →
    IsPairing same window rows arrivals → (i : ℕ) (new : Row K) →
    slice_get (paired same window a (length arrivals) rows) i ≡ Some new →
    IsFirst same window (paired same window a (length arrivals) rows) new i a (length arrivals) → new.partner ≡ Some (length arrivals)
back_new {K} same window a rows arrivals pairing i new at f =
    let n : ℕ = length arrivals in
    let old = was same window a n rows i new at in
    elim old.2 as (λ _. new.partner ≡ Some n) [
      | inl t ↦ ap (λ (o : Row K). o.partner) t.0
      | inr t ↦ elim t.1 as (λ _. new.partner ≡ Some n) [
        | inl not_taken ↦
            let come = has_come same window a rows arrivals pairing i old.0 old.1 not_taken
            (subst (λ (o : Row K). may_be same window o a ≡ true) t.0 f.may) in
            absurd (both_ways _ (subst (λ (o : Row K). came_before o.partner n ≡ false) t.0 f.free) come)
        | inr g ↦
            let come = f.first g.0 g.1 g.2 g.3 g.4 in
            absurd (both_ways _ (le-ltb n n (omega arith)) (subst (λ (o : Option ℕ). came_before o n ≡ true) g.5 come))
      ]
    ]

backward : {K : Type 0} (same : K → K → Bool) (window : ℕ) (a : Arrival K) (rows : List (Row K)) (arrivals : List (Arrival K)) →
    IsPairing same window rows arrivals → (i j : ℕ) (new : Row K) →
    slice_get (paired same window a (length arrivals) rows) i ≡ Some new →
    IsPair same window (paired same window a (length arrivals) rows) (arrivals ++ a ∷ []) i j new → new.partner ≡ Some j
backward {K} same window a rows arrivals pairing i j new at pair =
    let n : ℕ = length arrivals in
    let after : List (Row K) = paired same window a n rows in
    elim (get_cases arrivals a pair.0 j pair.1) as (λ _. new.partner ≡ Some j) [
      | inl p ↦ back_old same window a rows arrivals pairing i j new at pair.0 p.1 p.0 pair.2
      | inr p ↦
          let first : IsFirst same window after new i a n = subst (λ (m : ℕ). IsFirst same window after new i a m) p.0
          (subst (λ (x : Arrival K). IsFirst same window after new i x j) (sym p.1) pair.2) in
          back_new same window a rows arrivals pairing i new at first ∙ ap Some (sym p.0)
    ]

pub pairing_out : {K : Type 0} (same : K → K → Bool) (window : ℕ) (a : Arrival K) (rows : List (Row K)) (arrivals : List (Arrival K)) →
    IsPairing same window rows arrivals → IsPairing same window (paired same window a (length arrivals) rows) (arrivals ++ a ∷ [])
pairing_out same window a rows arrivals pairing = λ i j new at.
    (forward same window a rows arrivals pairing i j new at, backward same window a rows arrivals pairing i j new at)

-- ---- the pairing after a frame that goes in

first_more : {K : Type 0} (same : K → K → Bool) (window : ℕ) (rows : List (Row K)) (x row : Row K) (i j : ℕ) (arrival : Arrival K) →
    i < length rows → IsFirst same window rows row i arrival j → IsFirst same window (rows ++ x ∷ []) row i arrival j
first_more same window rows x row i j arrival h f = record {
  may = f.may;
  free = f.free;
  first = λ earlier other below e may.
      let inside : earlier < length rows = omega arith in
      f.first earlier other below (sym (get_left rows (x ∷ []) earlier inside) ∙ e) may;
}

first_less : {K : Type 0} (same : K → K → Bool) (window : ℕ) (rows : List (Row K)) (x row : Row K) (i j : ℕ) (arrival : Arrival K) →
    i < length rows → IsFirst same window (rows ++ x ∷ []) row i arrival j → IsFirst same window rows row i arrival j
first_less same window rows x row i j arrival h f = record {
  may = f.may;
  free = f.free;
  first = λ earlier other below e may.
      let inside : earlier < length rows = omega arith in
      f.first earlier other below (get_left rows (x ∷ []) earlier inside ∙ e) may;
}

-- a frame that goes in after one came out isn't that one
not_yet : {K : Type 0} (same : K → K → Bool) (window moment place : ℕ) (key : K) (arrivals : List (Arrival K)) (j : ℕ) (arrival : Arrival K) →
    IsAfter moment arrivals → slice_get arrivals j ≡ Some arrival → may_be same window (entered moment place key) arrival ≡ true → ⊥
not_yet {K} same window moment place key arrivals j arrival later at may =
    let before : arrival.moment < moment = all_at (λ (x : Arrival K). x.moment < moment) arrivals j arrival later at in
    let within = (and_parts _ _ may).0 in
    let after : moment ≤ arrival.moment = leb-true moment arrival.moment (and_parts _ _ within).0 in
    omega arith

pub pairing_in : {K : Type 0} (same : K → K → Bool) (window moment place : ℕ) (key : K) (rows : List (Row K)) (arrivals : List (Arrival K)) →
    IsPairing same window rows arrivals → IsAfter moment arrivals →
    IsPairing same window (rows ++ entered moment place key ∷ []) arrivals
pairing_in {K} same window moment place key rows arrivals pairing later = λ i j row at.
    let x : Row K = entered moment place key in
    elim (get_cases rows x row i at) as
    (λ _. (row.partner ≡ Some j → IsPair same window (rows ++ x ∷ []) arrivals i j row)
    × (IsPair same window (rows ++ x ∷ []) arrivals i j row → row.partner ≡ Some j)) [
      | inl p ↦ (
        λ e. let pair = (pairing i j row p.1).0 e in
            (pair.0, pair.1, first_more same window rows x row i j pair.0 p.0 pair.2),
        λ pair. (pairing i j row p.1).1 (pair.0, pair.1, first_less same window rows x row i j pair.0 p.0 pair.2),
      )
      | inr p ↦ (
        λ e. absurd (none-some j (ap (λ (o : Row K). o.partner) p.1 ∙ e)),
        λ pair. absurd (not_yet same window moment place key arrivals j pair.0 later pair.1
            (subst (λ (o : Row K). may_be same window o pair.0 ≡ true) (sym p.1) pair.2.may)),
      )
    ]
