-- A pairing that is kept in lanes.
use Rattle.std.proofs.Common.{◌≡◌, ◌≢◌, ℕ, suc, ◌+◌, ◌≤◌, ◌==◌, Bool, true, false, not, ◌&&◌, ◌⊎◌, inl, inr, List, [], ◌∷◌, ◌++◌, Option, Some, None, is_some, length, map, set, cond, find, option_map, slice_get, refl, sym, ◌∙◌, ap, append_assoc, arith}
use Rattle.std.specs.List.{AllByRecursion, count_by}
use Rattle.std.proofs.lemmas.Bool.{and_right, and_parts, cases_Bool, cond-false, cond-true, eq-eqb, ne_eqb}
use Rattle.std.proofs.lemmas.List.{append-nil, length-append}
use Rattle.std.proofs.lemmas.List.Sums.{count_by-le-length, sum_by-append, sum_by-cons}
use Rattle.std.proofs.lemmas.Option.{none-some}
use Rattle.transit_match.specs.declared.waiting.Entry.{Entry}
use Rattle.transit_match.specs.Lanes.{by_key, entry_in, free_of, lane_entries, same_some}
use Rattle.transit_match.specs.Forgetting.{without_over}
use Rattle.transit_match.specs.Pairing.{Row, Arrival, is_within}
use Rattle.transit_match.specs.Waiting.{entry_of, is_over, may_take, paired, starts_over, with_taken}
use Rattle.transit_match.proofs.Pairs.{free_none, given}

-- ---- a frame goes in

pub lane_entries-append : {K : Type 0} (lane place : ℕ) (rows : List (Row (Option K))) (x : Row (Option K)) →
    lane_entries lane place (rows ++ x ∷ []) ≡ lane_entries lane place rows ++ entry_in lane (place + length rows) x x.key
lane_entries-append lane place [] x =
    append-nil (entry_in lane place x x.key) ∙ ap (λ (n : ℕ). entry_in lane n x x.key) (omega arith)
lane_entries-append {K} lane place (row ∷ rows) x =
    ap (λ (l : List (Entry K)). entry_in lane place row row.key ++ l) (lane_entries-append lane (suc place) rows x)
    ∙ ap (λ (n : ℕ). entry_in lane place row row.key ++ (lane_entries lane (suc place) rows ++ entry_in lane n x x.key)) (omega arith)
    ∙ sym (append_assoc (entry_in lane place row row.key) (lane_entries lane (suc place) rows) (entry_in lane (place + suc (length rows)) x x.key))

-- ---- a frame comes out

-- The row, if it has the key, is of the lane.
abbrev pub Agrees : {K : Type 0} → (K → K → Bool) → K → ℕ → Row (Option K) → Type 0
Agrees {K} same key lane row = (own : K) → row.key ≡ Some own → same own key ≡ true → row.place ≡ lane

abbrev pub arrived : {K : Type 0} → Arrival K → Arrival (Option K)
arrived a = record { moment = a.moment; key = Some a.key }

-- no row takes the frame
pub record Missed {K : Type 0} (same : K → K → Bool) (window : ℕ) (a : Arrival K) (n lane place : ℕ) (rows : List (Row (Option K))) :
    Type 0 where
  pub after : paired (same_some same) window (arrived a) n rows ≡ rows
  pub found : find (may_take same window a) (lane_entries lane place rows) ≡ None

-- the row at the index does, and its entry is the lane's first that may
pub record Took {K : Type 0} (same : K → K → Bool) (window : ℕ) (a : Arrival K) (n lane place : ℕ) (rows : List (Row (Option K))) :
    Type 0 where
  pub index : ℕ
  pub row : Row (Option K)
  pub at : slice_get rows index ≡ Some row
  pub free : row.partner ≡ None
  pub after : paired (same_some same) window (arrived a) n rows ≡ set rows index (given n row)
  pub found : option_map (λ entry. entry.place) (find (may_take same window a) (lane_entries lane place rows)) ≡ Some (place + index)
  pub entries : lane_entries lane place (set rows index (given n row)) ≡ with_taken (may_take same window a) (lane_entries lane place rows)
  pub others : (other : ℕ) → other ≢ lane → lane_entries other place (set rows index (given n row)) ≡ lane_entries other place rows

-- a row that doesn't take it stands before the others
abbrev pub Passed : {K : Type 0} → (K → K → Bool) → ℕ → Arrival K → ℕ → ℕ → Row (Option K) → Type 0
Passed {K} same window a lane place row = (may_take (same_some same) window (arrived a) (entry_of row) ≡ false)
    × ((rest : List (Entry K)) → find (may_take same window a) (entry_in lane place row row.key ++ rest) ≡ find (may_take same window a) rest)
    × ((rest : List (Entry K)) → with_taken (may_take same window a) (entry_in lane place row row.key ++ rest)
    ≡ entry_in lane place row row.key ++ with_taken (may_take same window a) rest)

abbrev pub Takes : {K : Type 0} → (K → K → Bool) → ℕ → Arrival K → ℕ → ℕ → ℕ → List (Row (Option K)) → Type 0
Takes same window a n lane place rows = Missed same window a n lane place rows ⊎ Took same window a n lane place rows

takes_past : {K : Type 0} (same : K → K → Bool) (window : ℕ) (a : Arrival K) (n lane place : ℕ) (row : Row (Option K))
    (rows : List (Row (Option K))) → Passed same window a lane place row → Takes same window a n lane (suc place) rows →
    Takes same window a n lane place (row ∷ rows)
takes_past {K} same window a n lane place row rows p (inl m) = inl (record {
  after = cond-false _ (given n row ∷ rows) (row ∷ paired (same_some same) window (arrived a) n rows) p.0
      ∙ ap (λ (l : List (Row (Option K))). row ∷ l) m.after;
  found = p.1 (lane_entries lane (suc place) rows) ∙ m.found;
})
takes_past {K} same window a n lane place row rows p (inr t) = inr (record {
  index = suc t.index;
  row = t.row;
  at = t.at;
  free = t.free;
  after = cond-false _ (given n row ∷ rows) (row ∷ paired (same_some same) window (arrived a) n rows) p.0
      ∙ ap (λ (l : List (Row (Option K))). row ∷ l) t.after;
  found = ap (λ (o : Option (Entry K)). option_map (λ (entry : Entry K). entry.place) o) (p.1 (lane_entries lane (suc place) rows)) ∙ t.found
      ∙ ap (λ (k : ℕ). Some k) (omega arith);
  entries = ap (λ (l : List (Entry K)). entry_in lane place row row.key ++ l) t.entries ∙ sym (p.2 (lane_entries lane (suc place) rows));
  others = λ other away. ap (λ (l : List (Entry K)). entry_in other place row row.key ++ l) (t.others other away);
})

-- a row without a key
keyless : {K : Type 0} (same : K → K → Bool) (window : ℕ) (a : Arrival K) (lane place : ℕ) (row : Row (Option K)) →
    row.key ≡ None → Passed same window a lane place row
keyless {K} same window a lane place row e = (
  ap (λ (k : Option K). not (is_some row.partner) && (is_within window row.moment a.moment && same_some same k (Some a.key))) e
      ∙ and_right (not (is_some row.partner)) _ (and_right (is_within window row.moment a.moment) false refl),
  λ rest. ap (λ (k : Option K). find (may_take same window a) (entry_in lane place row k ++ rest)) e,
  λ rest. ap (λ (k : Option K). with_taken (may_take same window a) (entry_in lane place row k ++ rest)) e
      ∙ ap (λ (k : Option K). entry_in lane place row k ++ with_taken (may_take same window a) rest) (sym e),
)

abbrev pub entry_at : {K : Type 0} → ℕ → Row (Option K) → K → Entry K
entry_at place row key = record { moment = row.moment; place = place; key = key; taken = is_some row.partner }

may_by_key : {K : Type 0} (same : K → K → Bool) (window : ℕ) (a : Arrival K) (place : ℕ) (row : Row (Option K)) (key : K) →
    row.key ≡ Some key → may_take (same_some same) window (arrived a) (entry_of row) ≡ may_take same window a (entry_at place row key)
may_by_key {K} same window a place row key e =
    ap (λ (k : Option K). not (is_some row.partner) && (is_within window row.moment a.moment && same_some same k (Some a.key))) e

-- a row with one that doesn't take the frame
refused : {K : Type 0} (same : K → K → Bool) (window : ℕ) (a : Arrival K) (lane place : ℕ) (row : Row (Option K)) (key : K) →
    row.key ≡ Some key → may_take same window a (entry_at place row key) ≡ false → Passed same window a lane place row
refused {K} same window a lane place row key e f =
    let entry : Entry K = entry_at place row key in
    let may : Entry K → Bool = may_take same window a in
    let here : (b : Bool) → (rest : List (Entry K)) → find may (cond b (entry ∷ []) [] ++ rest) ≡ find may rest =
    λ b rest. elim b as (λ b. find may (cond b (entry ∷ []) [] ++ rest) ≡ find may rest) [
      | true ↦ cond-false (may entry) (Some entry) (find may rest) f
      | false ↦ refl
    ] in
    let there : (b : Bool) → (rest : List (Entry K)) → with_taken may (cond b (entry ∷ []) [] ++ rest) ≡ cond b (entry ∷ []) [] ++ with_taken may rest =
    λ b rest. elim b as (λ b. with_taken may (cond b (entry ∷ []) [] ++ rest) ≡ cond b (entry ∷ []) [] ++ with_taken may rest) [
      | true ↦ cond-false (may entry) (record entry { taken = true } ∷ rest) (entry ∷ with_taken may rest) f
      | false ↦ refl
    ] in (
      may_by_key same window a place row key e ∙ f,
      λ rest. ap (λ (k : Option K). find may (entry_in lane place row k ++ rest)) e ∙ here (row.place == lane) rest,
      λ rest. ap (λ (k : Option K). with_taken may (entry_in lane place row k ++ rest)) e ∙ there (row.place == lane) rest
          ∙ ap (λ (k : Option K). entry_in lane place row k ++ with_taken may rest) (sym e),
    )

takes_here : {K : Type 0} (same : K → K → Bool) (window : ℕ) (a : Arrival K) (n lane place : ℕ) (row : Row (Option K)) (key : K)
    (rows : List (Row (Option K))) → row.key ≡ Some key → row.place ≡ lane → may_take same window a (entry_at place row key) ≡ true →
    Took same window a n lane place (row ∷ rows)
takes_here {K} same window a n lane place row key rows e at t =
    let entry : Entry K = entry_at place row key in
    let may : Entry K → Bool = may_take same window a in
    let rest : List (Entry K) = lane_entries lane (suc place) rows in
    let here : (row.place == lane) ≡ true = eq-eqb row.place lane at in
    let all : lane_entries lane place (row ∷ rows) ≡ entry ∷ rest =
    ap (λ (k : Option K). entry_in lane place row k ++ rest) e ∙ ap (λ (b : Bool). cond b (entry ∷ []) [] ++ rest) here in
    record {
      index = 0;
      row = row;
      at = refl;
      free = free_none row.partner (and_parts (not (is_some row.partner)) _ t).0;
      after = cond-true _ (given n row ∷ rows) (row ∷ paired (same_some same) window (arrived a) n rows)
          (may_by_key same window a place row key e ∙ t);
      found = ap (λ (l : List (Entry K)). option_map (λ (it : Entry K). it.place) (find may l)) all
          ∙ ap (λ (o : Option (Entry K)). option_map (λ (it : Entry K). it.place) o) (cond-true (may entry) (Some entry) (find may rest) t)
          ∙ ap (λ (k : ℕ). Some k) (omega arith);
      entries = ap (λ (k : Option K). entry_in lane place (given n row) k ++ rest) e
          ∙ ap (λ (b : Bool). cond b (record entry { taken = true } ∷ []) [] ++ rest) here
          ∙ sym (cond-true (may entry) (record entry { taken = true } ∷ rest) (entry ∷ with_taken may rest) t)
          ∙ ap (λ (l : List (Entry K)). with_taken may l) (sym all);
      others = λ other away.
          let not_here : (row.place == other) ≡ false = ne_eqb row.place other (λ same. away (sym same ∙ at)) in
          ap (λ (k : Option K). entry_in other place (given n row) k ++ lane_entries other (suc place) rows) e
          ∙ ap (λ (b : Bool). cond b (record entry { taken = true } ∷ []) [] ++ lane_entries other (suc place) rows) not_here
          ∙ ap (λ (b : Bool). cond b (entry ∷ []) [] ++ lane_entries other (suc place) rows) (sym not_here)
          ∙ ap (λ (k : Option K). entry_in other place row k ++ lane_entries other (suc place) rows) (sym e);
    }

takes_row : {K : Type 0} (same : K → K → Bool) (window : ℕ) (a : Arrival K) (n lane place : ℕ) (row : Row (Option K)) (key : Option K)
    (rows : List (Row (Option K))) → row.key ≡ key → Agrees same a.key lane row → Takes same window a n lane (suc place) rows →
    Takes same window a n lane place (row ∷ rows)
takes_row same window a n lane place row None rows e agrees rest = takes_past same window a n lane place row rows (keyless same window a lane place row e) rest
takes_row {K} same window a n lane place row (Some key) rows e agrees rest =
    elim (cases_Bool (may_take same window a (entry_at place row key))) as (λ _. Takes same window a n lane place (row ∷ rows)) [
      | inl t ↦
          let alike : same key a.key ≡ true = (and_parts _ _ (and_parts (not (is_some row.partner)) _ t).1).1 in
          inr (takes_here same window a n lane place row key rows e (agrees key e alike) t)
      | inr f ↦ takes_past same window a n lane place row rows (refused same window a lane place row key e f) rest
    ]

pub takes : {K : Type 0} (same : K → K → Bool) (window : ℕ) (a : Arrival K) (n lane place : ℕ) (rows : List (Row (Option K))) →
    AllByRecursion (Agrees same a.key lane) rows → Takes same window a n lane place rows
takes same window a n lane place [] agree = inl (record { after = refl; found = refl })
takes same window a n lane place (row ∷ rows) agree =
    takes_row same window a n lane place row row.key rows refl agree.0 (takes same window a n lane (suc place) rows agree.1)

-- a frame without a key comes out
pub unpaired : {K : Type 0} (same : K → K → Bool) (window moment n : ℕ) (rows : List (Row (Option K))) →
    paired (same_some same) window (record { moment = moment; key = None }) n rows ≡ rows
unpaired same window moment n [] = refl
unpaired {K} same window moment n (row ∷ rows) =
    let no : (k : Option K) → same_some same k None ≡ false = λ k. elim k as (λ k. same_some same k None ≡ false) [
      | None ↦ refl
      | Some x ↦ refl
    ] in
    cond-false _ (given n row ∷ rows) (row ∷ paired (same_some same) window (record { moment = moment; key = None }) n rows)
    (and_right (not (is_some row.partner)) _ (and_right (is_within window row.moment moment) _ (no row.key)))
    ∙ ap (λ (l : List (Row (Option K))). row ∷ l) (unpaired same window moment n rows)

-- ---- entries that aren't taken

pub count_more : {X : Type 0} (p : X → Bool) (x : X) (xs : List X) → count_by p (x ∷ xs) ≡ cond (p x) 1 0 + count_by p xs
count_more p x xs = sum_by-cons (λ y. cond (p y) 1 0) x xs

pub none_free : {K : Type 0} (p : Entry K → Bool) → ((entry : Entry K) → p entry ≡ true → entry.taken ≡ false) →
    (entries : List (Entry K)) → free_of entries ≡ 0 → find p entries ≡ None
none_free p only [] e = refl
none_free {K} p only (x ∷ xs) e =
    let sum : cond (not x.taken) 1 0 + free_of xs ≡ 0 = sym (count_more (λ (entry : Entry K). not entry.taken) x xs) ∙ e in
    elim (cases_Bool (p x)) [
      | inl t ↦ absurd (omega (arith, sum, ap {B = ℕ} (λ (b : Bool). cond (not b) 1 0) (only x t)))
      | inr f ↦ cond-false (p x) (Some x) (find p xs) f ∙ none_free p only xs (omega (arith, sum))
    ]

pub none_found : {K : Type 0} (p : Entry K → Bool) (entries : List (Entry K)) → find p entries ≡ None → with_taken p entries ≡ entries
none_found p [] e = refl
none_found {K} p (x ∷ xs) e = elim (cases_Bool (p x)) [
  | inl t ↦ absurd (none-some x (sym e ∙ cond-true (p x) (Some x) (find p xs) t))
  | inr f ↦ cond-false (p x) (record x { taken = true } ∷ xs) (x ∷ with_taken p xs) f
      ∙ ap (λ (l : List (Entry K)). x ∷ l) (none_found p xs (sym (cond-false (p x) (Some x) (find p xs) f) ∙ e))
]

pub one_less : {K : Type 0} (p : Entry K → Bool) → ((entry : Entry K) → p entry ≡ true → entry.taken ≡ false) →
    (entries : List (Entry K)) (it : Entry K) → find p entries ≡ Some it → free_of (with_taken p entries) + 1 ≡ free_of entries
one_less p only [] it e = absurd (none-some it e)
one_less {K} p only (x ∷ xs) it e = elim (cases_Bool (p x)) [
  | inl t ↦
      ap (λ (l : List (Entry K)). free_of l + 1) (cond-true (p x) (record x { taken = true } ∷ xs) (x ∷ with_taken p xs) t)
      ∙ omega (
        arith,
        count_more (λ (entry : Entry K). not entry.taken) x xs,
        ap {B = ℕ} (λ (b : Bool). cond (not b) 1 0) (only x t),
        count_more (λ (entry : Entry K). not entry.taken) (record x { taken = true }) xs,
      )
  | inr f ↦
      ap (λ (l : List (Entry K)). free_of l + 1) (cond-false (p x) (record x { taken = true } ∷ xs) (x ∷ with_taken p xs) f)
      ∙ omega (
        arith,
        count_more (λ (entry : Entry K). not entry.taken) x xs,
        count_more (λ (entry : Entry K). not entry.taken) x (with_taken p xs),
        one_less p only xs it (sym (cond-false (p x) (Some x) (find p xs) f) ∙ e),
      )
]

pub few_free : {K : Type 0} (entries : List (Entry K)) → free_of entries ≤ length entries
few_free {K} entries = count_by-le-length (λ (entry : Entry K). not entry.taken) entries

entry_length : {K : Type 0} (lane place : ℕ) (row : Row (Option K)) (key : Option K) → length (entry_in lane place row key) ≤ 1
entry_length lane place row None = omega arith
entry_length {K} lane place row (Some key) =
    let both : (b : Bool) → length (cond b (entry_at place row key ∷ []) []) ≤ 1 =
    λ b. elim b as (λ b. length (cond b (entry_at place row key ∷ []) []) ≤ 1) [
      | true ↦ omega arith
      | false ↦ omega arith
    ] in both (row.place == lane)

pub few_entries : {K : Type 0} (lane place : ℕ) (rows : List (Row (Option K))) → length (lane_entries lane place rows) ≤ length rows
few_entries lane place [] = omega arith
few_entries lane place (row ∷ rows) = omega (
  arith,
  length-append (entry_in lane place row row.key) (lane_entries lane (suc place) rows),
  entry_length lane place row row.key,
  few_entries lane (suc place) rows,
)

pub free_append : {K : Type 0} (one two : List (Entry K)) → free_of (one ++ two) ≡ free_of one + free_of two
free_append {K} one two = sum_by-append (λ (entry : Entry K). cond (not entry.taken) 1 0) one two

-- ---- entries, by a part of their keys

pub map-with_taken : {K L : Type 0} (f : K → L) (p : Entry K → Bool) (q : Entry L → Bool) → ((entry : Entry K) → p entry ≡ q (by_key f entry)) →
    (entries : List (Entry K)) → map (by_key f) (with_taken p entries) ≡ with_taken q (map (by_key f) entries)
map-with_taken f p q same [] = refl
map-with_taken {K} {L} f p q same (x ∷ xs) = elim (cases_Bool (p x)) [
  | inl t ↦
      ap (λ (l : List (Entry K)). map (by_key f) l) (cond-true (p x) (record x { taken = true } ∷ xs) (x ∷ with_taken p xs) t)
      ∙ sym (cond-true (q (by_key f x)) (record (by_key f x) { taken = true } ∷ map (by_key f) xs) (by_key f x ∷ with_taken q (map (by_key f) xs))
      (sym (same x) ∙ t))
  | inr g ↦
      ap (λ (l : List (Entry K)). map (by_key f) l) (cond-false (p x) (record x { taken = true } ∷ xs) (x ∷ with_taken p xs) g)
      ∙ ap (λ (l : List (Entry L)). by_key f x ∷ l) (map-with_taken f p q same xs)
      ∙ sym (cond-false (q (by_key f x)) (record (by_key f x) { taken = true } ∷ map (by_key f) xs) (by_key f x ∷ with_taken q (map (by_key f) xs))
      (sym (same x) ∙ g))
]

pub map-found : {K L : Type 0} (f : K → L) (p : Entry K → Bool) (q : Entry L → Bool) → ((entry : Entry K) → p entry ≡ q (by_key f entry)) →
    (entries : List (Entry K)) → option_map (by_key f) (find p entries) ≡ find q (map (by_key f) entries)
map-found f p q same [] = refl
map-found {K} {L} f p q same (x ∷ xs) = elim (cases_Bool (p x)) [
  | inl t ↦
      ap (λ (o : Option (Entry K)). option_map (by_key f) o) (cond-true (p x) (Some x) (find p xs) t)
      ∙ sym (cond-true (q (by_key f x)) (Some (by_key f x)) (find q (map (by_key f) xs)) (sym (same x) ∙ t))
  | inr g ↦
      ap (λ (o : Option (Entry K)). option_map (by_key f) o) (cond-false (p x) (Some x) (find p xs) g)
      ∙ map-found f p q same xs
      ∙ sym (cond-false (q (by_key f x)) (Some (by_key f x)) (find q (map (by_key f) xs)) (sym (same x) ∙ g))
]

over_by_key : {K L : Type 0} (f : K → L) (window moment : ℕ) (entries : List (Entry K)) →
    starts_over window moment (map (by_key f) entries) ≡ starts_over window moment entries
over_by_key f window moment [] = refl
over_by_key f window moment (x ∷ xs) = refl

pub map-without_over : {K L : Type 0} (f : K → L) (window moment : ℕ) (entries : List (Entry K)) →
    map (by_key f) (without_over window moment entries) ≡ without_over window moment (map (by_key f) entries)
map-without_over f window moment [] = refl
map-without_over {K} {L} f window moment (x ∷ xs) =
    elim (cases_Bool (is_over window moment x.moment)) [
      | inl t ↦
          ap (λ (l : List (Entry K)). map (by_key f) l) (cond-true (is_over window moment x.moment) xs (x ∷ xs) t)
          ∙ sym (cond-true (is_over window moment x.moment) (map (by_key f) xs) (map (by_key f) (x ∷ xs)) t)
      | inr g ↦
          ap (λ (l : List (Entry K)). map (by_key f) l) (cond-false (is_over window moment x.moment) xs (x ∷ xs) g)
          ∙ sym (cond-false (is_over window moment x.moment) (map (by_key f) xs) (map (by_key f) (x ∷ xs)) g)
    ]
