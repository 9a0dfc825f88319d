-- The frames that are kept stand for those that went in.
use Rattle.std.proofs.Common.{◌≡◌, ℕ, zero, suc, ◌-◌, ◌<◌, ◌≤◌, Bool, true, false, not, List, [], ◌∷◌, ◌++◌, Some, None, is_some, ◌||◌, Option, length, map, get_or, slice_get, set, drop, nat_le, nat_lt, cond, refl, sym, ◌∙◌, ap, subst, append_assoc, inl, inr, find, option_map, arith, ltb-true, lt-ltb, ltb-false, position}
use Rattle.std.proofs.lemmas.Bool.{and_left, and_right, cond-true, cond-false, cases_Bool, lt-leb, false≢true}
use Rattle.std.proofs.lemmas.List.{map-append, length-map}
use Rattle.std.specs.List.{AllByRecursion, list_any, position_or_len}
use Rattle.std.proofs.lemmas.List.Folds.{find_at}
use Rattle.std.proofs.lemmas.List.Sums.{fails_before_first}
use Rattle.std.proofs.lemmas.List.Quantifiers.{position-Some}
use Rattle.std.proofs.lemmas.Option.{cond_some, none-some, slice_get_past, slice_get_read}
use Rattle.transit_match.specs.declared.waiting.Entry.{Entry}
use Rattle.transit_match.specs.Pairing.{Row, Arrival, IsPairing, is_within}
use Rattle.transit_match.specs.Waiting.{IsAfter, StandsAfter, entered, entry_of, first_free, fits, is_over, may_take, paired, starts_over, with_taken}
use Rattle.transit_match.proofs.Lists.{all_by, all_more}
use Rattle.transit_match.proofs.Pairs.{given, pairing_in, pairing_out}

-- ---- windows that are over

pub over_not_within : (window floor moment in_moment : ℕ) → is_over window floor in_moment ≡ true → floor ≤ moment →
    is_within window in_moment moment ≡ false
over_not_within window floor moment in_moment e h =
    let over : window < floor - in_moment = ltb-true window (floor - in_moment) e in
    and_right (nat_le in_moment moment) (nat_le (moment - in_moment) window) (lt-leb (moment - in_moment) window (omega arith))

pub over_later : (window floor moment in_moment : ℕ) → is_over window floor in_moment ≡ true → floor ≤ moment →
    is_over window moment in_moment ≡ true
over_later window floor moment in_moment e h =
    let over : window < floor - in_moment = ltb-true window (floor - in_moment) e in
    lt-ltb window (moment - in_moment) (omega arith)

pub paired_past : {K : Type 0} (same : K → K → Bool) (window floor : ℕ) (a : Arrival K) (n : ℕ) (gone kept : List (Row K)) →
    AllByRecursion (λ row. is_over window floor row.moment ≡ true) gone → floor ≤ a.moment →
    paired same window a n (gone ++ kept) ≡ gone ++ paired same window a n kept
paired_past same window floor a n [] kept over h = refl
paired_past {K} same window floor a n (x ∷ gone) kept over h =
    let outside : is_within window x.moment a.moment ≡ false = over_not_within window floor a.moment x.moment over.0 h in
    let f : may_take same window a (entry_of x) ≡ false = and_right (not (is_some x.partner)) _
    (and_left (is_within window x.moment a.moment) (same x.key a.key) outside) in
    cond-false (may_take same window a (entry_of x)) (given n x ∷ (gone ++ kept)) (x ∷ paired same window a n (gone ++ kept)) f
    ∙ ap (λ (l : List (Row K)). x ∷ l) (paired_past same window floor a n gone kept over.1 h)

-- ---- the entry that is taken

marked_at : {K : Type 0} (same : K → K → Bool) (window : ℕ) (a : Arrival K) (n : ℕ) (rows : List (Row K)) (i : ℕ) (e : Entry K) →
    i < length rows → e ≡ get_or (map entry_of rows) i e → may_take same window a (get_or (map entry_of rows) i e) ≡ true →
    ((k : ℕ) → k < i → may_take same window a (get_or (map entry_of rows) k e) ≡ false) →
    set (map entry_of rows) i (record e { taken = true }) ≡ map entry_of (paired same window a n rows)
marked_at same window a n [] i e h g t none = absurd (omega arith)
marked_at {K} same window a n (x ∷ xs) zero e h g t none =
    ap (λ (y : Entry K). record y { taken = true } ∷ map entry_of xs) g
    ∙ ap (λ (l : List (Row K)). map entry_of l)
    (sym (cond-true (may_take same window a (entry_of x)) (given n x ∷ xs) (x ∷ paired same window a n xs) t))
marked_at {K} same window a n (x ∷ xs) (suc i) e h g t none =
    ap (λ (l : List (Entry K)). entry_of x ∷ l)
    (marked_at same window a n xs i e (omega arith) g t (λ k below. none (suc k) (omega arith)))
    ∙ ap (λ (l : List (Row K)). map entry_of l)
    (sym (cond-false (may_take same window a (entry_of x)) (given n x ∷ xs) (x ∷ paired same window a n xs) (none 0 (omega arith))))

pub marked : {K : Type 0} (same : K → K → Bool) (window : ℕ) (a : Arrival K) (n : ℕ) (rows : List (Row K)) (i : ℕ) (e : Entry K) →
    position (may_take same window a) (map entry_of rows) ≡ Some i → e ≡ get_or (map entry_of rows) i e →
    set (map entry_of rows) i (record e { taken = true }) ≡ map entry_of (paired same window a n rows)
marked same window a n rows i e found g =
    let at = position-Some (may_take same window a) (map entry_of rows) i e found in
    marked_at same window a n rows i e (omega (arith, at.0, length-map rows entry_of)) g at.1 at.2

unmarked_at : {K : Type 0} (same : K → K → Bool) (window : ℕ) (a : Arrival K) (n : ℕ) (rows : List (Row K)) →
    ((k : ℕ) (d : Entry K) → k < length rows → may_take same window a (get_or (map entry_of rows) k d) ≡ false) →
    paired same window a n rows ≡ rows
unmarked_at same window a n [] none = refl
unmarked_at {K} same window a n (x ∷ xs) none =
    cond-false (may_take same window a (entry_of x)) (given n x ∷ xs) (x ∷ paired same window a n xs) (none 0 (entry_of x) (omega arith))
    ∙ ap (λ (l : List (Row K)). x ∷ l) (unmarked_at same window a n xs (λ k d h. none (suc k) d (omega arith)))

none_at : {X : Type 0} (p : X → Bool) (xs : List X) → position p xs ≡ None → length xs ≤ position_or_len p xs
none_at p xs e = elim (cases_Bool (nat_lt (position_or_len p xs) (length xs))) as (λ _. length xs ≤ position_or_len p xs) [
  | inl t ↦ absurd (none-some (position_or_len p xs) (sym e ∙ cond-true (nat_lt (position_or_len p xs) (length xs)) (Some (position_or_len p xs)) None t))
  | inr f ↦ ltb-false _ _ f
]

pub unmarked : {K : Type 0} (same : K → K → Bool) (window : ℕ) (a : Arrival K) (n : ℕ) (rows : List (Row K)) →
    position (may_take same window a) (map entry_of rows) ≡ None → paired same window a n rows ≡ rows
unmarked same window a n rows e =
    let all = none_at (may_take same window a) (map entry_of rows) e in
    unmarked_at same window a n rows (λ k d h.
    fails_before_first (may_take same window a) (map entry_of rows) k d (omega (arith, all, h, length-map rows entry_of)))

-- ---- the steps

pub stands_new : {K : Type 0} (same : K → K → Bool) (window : ℕ) → StandsAfter same window 0 [] [] []
stands_new same window = record {
  pairing = λ i j row at. absurd (none-some row at);
  forgotten = [];
  kept = [];
  all = refl;
  over = tt;
  entries_are = refl;
}

pub stands_in : {K : Type 0} (same : K → K → Bool) (window floor : ℕ) (entries : List (Entry K)) (rows : List (Row K)) (arrivals : List (Arrival K))
    (moment place : ℕ) (key : K) → StandsAfter same window floor entries rows arrivals → IsAfter moment arrivals →
    StandsAfter same window floor (entries ++ record { moment = moment; place = place; key = key; taken = false } ∷ [])
    (rows ++ entered moment place key ∷ []) arrivals
stands_in {K} same window floor entries rows arrivals moment place key s later =
    let x : Row K = entered moment place key in
    record {
      pairing = pairing_in same window moment place key rows arrivals s.pairing later;
      forgotten = s.forgotten;
      kept = s.kept ++ x ∷ [];
      all = ap (λ (l : List (Row K)). l ++ x ∷ []) s.all ∙ append_assoc s.forgotten s.kept (x ∷ []);
      over = s.over;
      entries_are = ap (λ (l : List (Entry K)). l ++ entry_of x ∷ []) s.entries_are ∙ sym (map-append entry_of s.kept (x ∷ []));
    }

-- a frame comes out, and what is kept has changed as the rows have
stands_out : {K : Type 0} (same : K → K → Bool) (window floor : ℕ) (entries after : List (Entry K)) (rows : List (Row K))
    (arrivals : List (Arrival K)) (a : Arrival K) (s : StandsAfter same window floor entries rows arrivals) → floor ≤ a.moment →
    after ≡ map entry_of (paired same window a (length arrivals) s.kept) →
    StandsAfter same window floor after (paired same window a (length arrivals) rows) (arrivals ++ a ∷ [])
stands_out {K} same window floor entries after rows arrivals a s h e =
    let n : ℕ = length arrivals in
    record {
      pairing = pairing_out same window a rows arrivals s.pairing;
      forgotten = s.forgotten;
      kept = paired same window a n s.kept;
      all = ap (λ (l : List (Row K)). paired same window a n l) s.all ∙ paired_past same window floor a n s.forgotten s.kept s.over h;
      over = s.over;
      entries_are = e;
    }

pub stands_taken : {K : Type 0} (same : K → K → Bool) (window floor : ℕ) (entries : List (Entry K)) (rows : List (Row K))
    (arrivals : List (Arrival K)) (a : Arrival K) (i : ℕ) (e : Entry K) → position (may_take same window a) entries ≡ Some i →
    e ≡ get_or entries i e → StandsAfter same window floor entries rows arrivals → floor ≤ a.moment →
    StandsAfter same window floor (set entries i (record e { taken = true })) (paired same window a (length arrivals) rows) (arrivals ++ a ∷ [])
stands_taken {K} same window floor entries rows arrivals a i e found g s h =
    stands_out same window floor entries (set entries i (record e { taken = true })) rows arrivals a s h
    (ap (λ (l : List (Entry K)). set l i (record e { taken = true })) s.entries_are
    ∙ marked same window a (length arrivals) s.kept i e
    (subst (λ (l : List (Entry K)). position (may_take same window a) l ≡ Some i) s.entries_are found)
    (subst (λ (l : List (Entry K)). e ≡ get_or l i e) s.entries_are g))

pub stands_missed : {K : Type 0} (same : K → K → Bool) (window floor : ℕ) (entries : List (Entry K)) (rows : List (Row K))
    (arrivals : List (Arrival K)) (a : Arrival K) → position (may_take same window a) entries ≡ None →
    StandsAfter same window floor entries rows arrivals → floor ≤ a.moment →
    StandsAfter same window floor entries (paired same window a (length arrivals) rows) (arrivals ++ a ∷ [])
stands_missed {K} same window floor entries rows arrivals a none s h =
    stands_out same window floor entries entries rows arrivals a s h
    (s.entries_are ∙ ap (λ (l : List (Row K)). map entry_of l)
    (sym (unmarked same window a (length arrivals) s.kept
    (subst (λ (l : List (Entry K)). position (may_take same window a) l ≡ None) s.entries_are none))))

pub stands_later : {K : Type 0} (same : K → K → Bool) (window floor moment : ℕ) (entries : List (Entry K)) (rows : List (Row K))
    (arrivals : List (Arrival K)) → StandsAfter same window floor entries rows arrivals → floor ≤ moment →
    StandsAfter same window moment entries rows arrivals
stands_later {K} same window floor moment entries rows arrivals s h = record {
  pairing = s.pairing;
  forgotten = s.forgotten;
  kept = s.kept;
  all = s.all;
  over = all_by (λ (row : Row K). is_over window floor row.moment ≡ true) (λ (row : Row K). is_over window moment row.moment ≡ true)
      s.forgotten (λ row e. over_later window floor moment row.moment e h) s.over;
  entries_are = s.entries_are;
}

-- the rows of what is kept, of which the first goes
first_of : {K : Type 0} (same : K → K → Bool) (window moment : ℕ) (e : Entry K) (entries : List (Entry K)) (rows : List (Row K))
    (arrivals : List (Arrival K)) (gone kept : List (Row K)) → IsPairing same window rows arrivals → rows ≡ gone ++ kept →
    AllByRecursion (λ row. is_over window moment row.moment ≡ true) gone → e ∷ entries ≡ map entry_of kept →
    is_over window moment e.moment ≡ true → StandsAfter same window moment entries rows arrivals
first_of same window moment e entries rows arrivals gone [] pairing all over es h = cc
first_of {K} same window moment e entries rows arrivals gone (x ∷ kept) pairing all over es h =
    let it : e ≡ entry_of x = cc in
    let rest : entries ≡ map entry_of kept = cc in
    record {
      pairing = pairing;
      forgotten = gone ++ x ∷ [];
      kept = kept;
      all = all ∙ sym (append_assoc gone (x ∷ []) kept);
      over = all_more (λ (row : Row K). is_over window moment row.moment ≡ true) gone x over
          (subst (λ (y : Entry K). is_over window moment y.moment ≡ true) it h);
      entries_are = rest;
    }

pub stands_forgotten : {K : Type 0} (same : K → K → Bool) (window floor moment : ℕ) (e : Entry K) (before entries : List (Entry K))
    (rows : List (Row K)) (arrivals : List (Arrival K)) → before ≡ e ∷ entries → is_over window moment e.moment ≡ true →
    StandsAfter same window floor before rows arrivals → floor ≤ moment → StandsAfter same window moment entries rows arrivals
stands_forgotten {K} same window floor moment e before entries rows arrivals eq h s below =
    let t = stands_later same window floor moment before rows arrivals s below in
    first_of same window moment e entries rows arrivals t.forgotten t.kept t.pairing t.all t.over (sym eq ∙ t.entries_are) h

-- ---- a question about the kept frames is one about all that went in

fits_past : {K : Type 0} (same : K → K → Bool) (window floor : ℕ) (a : Arrival K) (x : Row K) →
    is_over window floor x.moment ≡ true → floor ≤ a.moment → fits same window a (entry_of x) ≡ false
fits_past same window floor a x over h =
    and_left (is_within window x.moment a.moment) (same x.key a.key) (over_not_within window floor a.moment x.moment over h)

any_past : {X : Type 0} (p : X → Bool) (gone kept : List X) → AllByRecursion (λ x. p x ≡ false) gone →
    list_any p (gone ++ kept) ≡ list_any p kept
any_past p [] kept none = refl
any_past p (x ∷ gone) kept none = ap (λ (b : Bool). b || list_any p (gone ++ kept)) none.0 ∙ any_past p gone kept none.1

any_map : {K : Type 0} (p : Entry K → Bool) (rows : List (Row K)) → list_any p (map entry_of rows) ≡ list_any (λ row. p (entry_of row)) rows
any_map p [] = refl
any_map p (x ∷ rows) = ap (λ (b : Bool). p (entry_of x) || b) (any_map p rows)

find_past : {X : Type 0} (p : X → Bool) (gone kept : List X) → AllByRecursion (λ x. p x ≡ false) gone → find p (gone ++ kept) ≡ find p kept
find_past p [] kept none = refl
find_past p (x ∷ gone) kept none = cond-false (p x) (Some x) (find p (gone ++ kept)) none.0 ∙ find_past p gone kept none.1

find_map : {K : Type 0} (p : Entry K → Bool) (rows : List (Row K)) →
    option_map (λ entry. entry.place) (find p (map entry_of rows)) ≡ option_map (λ row. row.place) (find (λ row. p (entry_of row)) rows)
find_map p [] = refl
find_map {K} p (x ∷ rows) =
    elim (cases_Bool (p (entry_of x))) as (λ _. option_map (λ (entry : Entry K). entry.place) (cond (p (entry_of x)) (Some (entry_of x)) (find p (map entry_of rows)))
    ≡ option_map (λ (row : Row K). row.place) (cond (p (entry_of x)) (Some x) (find (λ row. p (entry_of row)) rows))) [
      | inl t ↦ rw t refl
      | inr f ↦ rw f (find_map p rows)
    ]

pub any_kept : {K : Type 0} (same : K → K → Bool) (window floor : ℕ) (entries : List (Entry K)) (rows : List (Row K))
    (arrivals : List (Arrival K)) (a : Arrival K) → StandsAfter same window floor entries rows arrivals → floor ≤ a.moment →
    list_any (fits same window a) entries ≡ list_any (λ row. fits same window a (entry_of row)) rows
any_kept {K} same window floor entries rows arrivals a s h =
    let p : Row K → Bool = λ row. fits same window a (entry_of row) in
    ap (λ (l : List (Entry K)). list_any (fits same window a) l) s.entries_are ∙ any_map (fits same window a) s.kept
    ∙ sym (any_past p s.forgotten s.kept (all_by (λ (row : Row K). is_over window floor row.moment ≡ true) (λ (row : Row K). p row ≡ false)
    s.forgotten (λ row over. fits_past same window floor a row over h) s.over))
    ∙ sym (ap (λ (l : List (Row K)). list_any p l) s.all)

none_free : {K : Type 0} (same : K → K → Bool) (window floor : ℕ) (a : Arrival K) (gone : List (Row K)) →
    AllByRecursion (λ row. is_over window floor row.moment ≡ true) gone → floor ≤ a.moment →
    AllByRecursion (λ row. may_take same window a (entry_of row) ≡ false) gone
none_free {K} same window floor a gone over h =
    all_by (λ (row : Row K). is_over window floor row.moment ≡ true) (λ (row : Row K). may_take same window a (entry_of row) ≡ false)
    gone (λ row e. and_right (not (is_some row.partner)) _ (fits_past same window floor a row e h)) over

pub free_kept : {K : Type 0} (same : K → K → Bool) (window floor : ℕ) (entries : List (Entry K)) (rows : List (Row K))
    (arrivals : List (Arrival K)) (a : Arrival K) → StandsAfter same window floor entries rows arrivals → floor ≤ a.moment →
    list_any (may_take same window a) entries ≡ list_any (λ row. may_take same window a (entry_of row)) rows
free_kept {K} same window floor entries rows arrivals a s h =
    let p : Row K → Bool = λ row. may_take same window a (entry_of row) in
    ap (λ (l : List (Entry K)). list_any (may_take same window a) l) s.entries_are ∙ any_map (may_take same window a) s.kept
    ∙ sym (any_past p s.forgotten s.kept (none_free same window floor a s.forgotten s.over h))
    ∙ sym (ap (λ (l : List (Row K)). list_any p l) s.all)

found_kept : {K : Type 0} (same : K → K → Bool) (window floor : ℕ) (entries : List (Entry K)) (rows : List (Row K))
    (arrivals : List (Arrival K)) (a : Arrival K) → StandsAfter same window floor entries rows arrivals → floor ≤ a.moment →
    option_map (λ entry. entry.place) (find (may_take same window a) entries) ≡ option_map (λ row. row.place) (first_free same window a rows)
found_kept {K} same window floor entries rows arrivals a s h =
    let p : Row K → Bool = λ row. may_take same window a (entry_of row) in
    ap (λ (l : List (Entry K)). option_map (λ (entry : Entry K). entry.place) (find (may_take same window a) l)) s.entries_are
    ∙ find_map (may_take same window a) s.kept
    ∙ ap (λ (o : Option (Row K)). option_map (λ (row : Row K). row.place) o)
    (sym (find_past p s.forgotten s.kept (none_free same window floor a s.forgotten s.over h)) ∙ sym (ap (λ (l : List (Row K)). find p l) s.all))

found_at : {X : Type 0} (p : X → Bool) (xs : List X) (i : ℕ) (x : X) → position p xs ≡ Some i → x ≡ get_or xs i x → find p xs ≡ Some x
found_at p xs i x found g =
    let at = position-Some p xs i x found in
    let it : position_or_len p xs ≡ i = (cond_some (nat_lt (position_or_len p xs) (length xs)) (position_or_len p xs) i found).1 in
    find_at p xs ∙ ap (λ (k : ℕ). slice_get xs k) it ∙ slice_get_read xs (length xs) i x refl at.0 g

pub place_taken : {K : Type 0} (same : K → K → Bool) (window floor : ℕ) (entries : List (Entry K)) (rows : List (Row K))
    (arrivals : List (Arrival K)) (a : Arrival K) (i : ℕ) (e : Entry K) → position (may_take same window a) entries ≡ Some i →
    e ≡ get_or entries i e → StandsAfter same window floor entries rows arrivals → floor ≤ a.moment →
    Some e.place ≡ option_map (λ row. row.place) (first_free same window a rows)
place_taken {K} same window floor entries rows arrivals a i e found g s h =
    sym (ap (λ (o : Option (Entry K)). option_map (λ (entry : Entry K). entry.place) o) (found_at (may_take same window a) entries i e found g))
    ∙ found_kept same window floor entries rows arrivals a s h

pub place_missed : {K : Type 0} (same : K → K → Bool) (window floor : ℕ) (entries : List (Entry K)) (rows : List (Row K))
    (arrivals : List (Arrival K)) (a : Arrival K) → position (may_take same window a) entries ≡ None →
    StandsAfter same window floor entries rows arrivals → floor ≤ a.moment →
    None ≡ option_map (λ row. row.place) (first_free same window a rows)
place_missed {K} same window floor entries rows arrivals a none s h =
    let past = none_at (may_take same window a) entries none in
    let nothing : find (may_take same window a) entries ≡ None =
    find_at (may_take same window a) entries ∙ slice_get_past entries (position_or_len (may_take same window a) entries) past in
    sym (ap (λ (o : Option (Entry K)). option_map (λ (entry : Entry K). entry.place) o) nothing)
    ∙ found_kept same window floor entries rows arrivals a s h

-- ---- the first entry

pub first_over : {K : Type 0} (window moment : ℕ) (entries : List (Entry K)) (e : Entry K) → 0 < length entries → e ≡ get_or entries 0 e →
    starts_over window moment entries ≡ is_over window moment e.moment
first_over window moment [] e h g = absurd (omega arith)
first_over {K} window moment (x ∷ entries) e h g = ap (λ (y : Entry K). is_over window moment y.moment) (sym g)

-- all that is left without the first, where that is over
pub stands_popped : {K : Type 0} (same : K → K → Bool) (window floor moment : ℕ) (entries : List (Entry K)) (rows : List (Row K))
    (arrivals : List (Arrival K)) → starts_over window moment entries ≡ true → StandsAfter same window floor entries rows arrivals →
    floor ≤ moment → StandsAfter same window moment (drop 1 entries) rows arrivals
stands_popped same window floor moment [] rows arrivals over s h = absurd (false≢true over)
stands_popped same window floor moment (e ∷ entries) rows arrivals over s h =
    stands_forgotten same window floor moment e (e ∷ entries) entries rows arrivals refl over s h

-- ---- the entry that is taken, of those that are kept

taken_at : {K : Type 0} (p : Entry K → Bool) (entries : List (Entry K)) (i : ℕ) (e : Entry K) → i < length entries → e ≡ get_or entries i e →
    p (get_or entries i e) ≡ true → ((k : ℕ) → k < i → p (get_or entries k e) ≡ false) →
    set entries i (record e { taken = true }) ≡ with_taken p entries
taken_at p [] i e h g t none = absurd (omega arith)
taken_at {K} p (x ∷ xs) zero e h g t none =
    ap (λ (y : Entry K). record y { taken = true } ∷ xs) g ∙ sym (cond-true (p x) (record x { taken = true } ∷ xs) (x ∷ with_taken p xs) t)
taken_at {K} p (x ∷ xs) (suc i) e h g t none =
    ap (λ (l : List (Entry K)). x ∷ l) (taken_at p xs i e (omega arith) g t (λ k below. none (suc k) (omega arith)))
    ∙ sym (cond-false (p x) (record x { taken = true } ∷ xs) (x ∷ with_taken p xs) (none 0 (omega arith)))

pub with_taken_at : {K : Type 0} (p : Entry K → Bool) (entries : List (Entry K)) (i : ℕ) (e : Entry K) → position p entries ≡ Some i →
    e ≡ get_or entries i e → set entries i (record e { taken = true }) ≡ with_taken p entries
with_taken_at p entries i e found g =
    let at = position-Some p entries i e found in taken_at p entries i e at.0 g at.1 at.2

none_taken : {K : Type 0} (p : Entry K → Bool) (entries : List (Entry K)) →
    ((k : ℕ) (d : Entry K) → k < length entries → p (get_or entries k d) ≡ false) → entries ≡ with_taken p entries
none_taken p [] none = refl
none_taken {K} p (x ∷ xs) none =
    ap (λ (l : List (Entry K)). x ∷ l) (none_taken p xs (λ k d h. none (suc k) d (omega arith)))
    ∙ sym (cond-false (p x) (record x { taken = true } ∷ xs) (x ∷ with_taken p xs) (none 0 x (omega arith)))

pub with_none_taken : {K : Type 0} (p : Entry K → Bool) (entries : List (Entry K)) → position p entries ≡ None →
    entries ≡ with_taken p entries
with_none_taken p entries e =
    let all = none_at p entries e in none_taken p entries (λ k d h. fails_before_first p entries k d (omega (arith, all, h)))

pub found_none : {K : Type 0} (p : Entry K → Bool) (entries : List (Entry K)) → position p entries ≡ None →
    None ≡ option_map (λ entry. entry.place) (find p entries)
found_none {K} p entries e =
    let past = none_at p entries e in
    let nothing : find p entries ≡ None = find_at p entries ∙ slice_get_past entries (position_or_len p entries) past in
    sym (ap (λ (o : Option (Entry K)). option_map (λ (entry : Entry K). entry.place) o) nothing)

pub found_some : {K : Type 0} (p : Entry K → Bool) (entries : List (Entry K)) (i : ℕ) (e : Entry K) → position p entries ≡ Some i →
    e ≡ get_or entries i e → Some e.place ≡ option_map (λ entry. entry.place) (find p entries)
found_some {K} p entries i e found g =
    sym (ap (λ (o : Option (Entry K)). option_map (λ (entry : Entry K). entry.place) o) (found_at p entries i e found g))
