-- The laws of the pairing.
use Rattle.std.proofs.Common.{◌≡◌, ℕ, zero, suc, ◌-◌, ◌<◌, ◌≤◌, Bool, true, false, ◌⊎◌, inl, inr, List, [], ◌∷◌, Option, Some, None, length, get_or, nat_le, refl, sym, ◌∙◌, ap, subst, slice_get, arith, lt-ltb, ltb-true, leb-true, le-leb}
use Rattle.std.proofs.lemmas.Bool.{and_from, and_parts, both_ways, cases_Bool, cases_eq, cases_order}
use Rattle.std.proofs.lemmas.Option.{none-some, same_Some, slice_get_within, slice_get-get_or}
use Rattle.transit_match.specs.Pairing.{Row, Arrival, IsFirst, IsPairing, is_within, may_be, came_before}
use Rattle.transit_match.specs.Laws.{ArrivalsRise, IsPairAt, IsSymmetric, IsTransitive, MayPair, NoneMissedIn, NoneMissedOut, OnePairing, OnePartner, OrderKept, RowsRise, SameFrames, Symmetry}

-- a partner that came before
come_partner : (o : Option ℕ) (j : ℕ) → came_before o j ≡ true → (m : ℕ) × (m < j) × (o ≡ Some m)
come_partner None j e = absurd (both_ways false refl e)
come_partner (Some m) j e = (m, ltb-true m j e, refl)

come_before : (o : Option ℕ) (m j : ℕ) → o ≡ Some m → m < j → came_before o j ≡ true
come_before o m j e h = subst (λ (p : Option ℕ). came_before p j ≡ true) (sym e) (lt-ltb m j h)

-- the later of two that come at one place has come before
one_lower : {K : Type 0} (same : K → K → Bool) (window : ℕ) (rows : List (Row K)) (arrivals : List (Arrival K)) →
    IsPairing same window rows arrivals → (i k j : ℕ) → i < k → IsPairAt rows i j → IsPairAt rows k j → ⊥
one_lower {K} same window rows arrivals pairing i k j h p q =
    let pair = (pairing i j p.0 p.1).0 p.2 in
    let other = (pairing k j q.0 q.1).0 q.2 in
    let it : pair.0 ≡ other.0 = same_Some pair.0 other.0 (sym pair.1 ∙ other.1) in
    let may : may_be same window p.0 other.0 ≡ true = subst (λ (a : Arrival K). may_be same window p.0 a ≡ true) it pair.2.may in
    let come = come_partner p.0.partner j (other.2.first i p.0 h p.1 may) in
    let same_place : j ≡ come.0 = same_Some j come.0 (sym p.2 ∙ come.2) in
    let lower : come.0 < j = come.1 in
    omega arith

pub one_partner : {K : Type 0} (same : K → K → Bool) → OnePartner same
one_partner same = λ window rows arrivals pairing i k j p q.
    elim (cases_order i k) as (λ _. i ≡ k) [
      | inl e ↦ e
      | inr o ↦ elim o as (λ _. i ≡ k) [
        | inl h ↦ absurd (one_lower same window rows arrivals pairing i k j h p q)
        | inr h ↦ absurd (one_lower same window rows arrivals pairing k i j h q p)
      ]
    ]

-- the first that went in would have been the first for the arrival of the other
not_later : {K : Type 0} (same : K → K → Bool) → IsSymmetric same → IsTransitive same →
    (window : ℕ) (rows : List (Row K)) (arrivals : List (Arrival K)) → IsPairing same window rows arrivals →
    RowsRise rows → ArrivalsRise arrivals → (i k j m : ℕ) (x y : Row K) → slice_get rows i ≡ Some x → slice_get rows k ≡ Some y →
    x.partner ≡ Some j → y.partner ≡ Some m → same x.key y.key ≡ true → j < m → k < i → ⊥
not_later {K} same symmetric transitive window rows arrivals pairing rise_in rise_out i k j m x y at_i at_k px py key h back =
    let pair = (pairing i j x at_i).0 px in
    let other = (pairing k m y at_k).0 py in
    let may_x = and_parts (is_within window x.moment pair.0.moment) (same x.key pair.0.key) pair.2.may in
    let may_y = and_parts (is_within window y.moment other.0.moment) (same y.key other.0.key) other.2.may in
    let in_x = and_parts (nat_le x.moment pair.0.moment) (nat_le (pair.0.moment - x.moment) window) may_x.0 in
    let in_y = and_parts (nat_le y.moment other.0.moment) (nat_le (other.0.moment - y.moment) window) may_y.0 in
    let a : y.moment ≤ x.moment = rise_in k i y x back at_k at_i in
    let b : x.moment ≤ pair.0.moment = leb-true x.moment pair.0.moment in_x.0 in
    let d : pair.0.moment ≤ other.0.moment = rise_out j m pair.0 other.0 h pair.1 other.1 in
    let w : other.0.moment - y.moment ≤ window = leb-true (other.0.moment - y.moment) window in_y.1 in
    let inside : is_within window y.moment pair.0.moment ≡ true =
    and_from (nat_le y.moment pair.0.moment) (nat_le (pair.0.moment - y.moment) window)
    (le-leb y.moment pair.0.moment (omega arith)) (le-leb (pair.0.moment - y.moment) window (omega arith)) in
    let key_y : same y.key pair.0.key ≡ true = transitive y.key x.key pair.0.key (symmetric x.key y.key key) may_x.1 in
    let come = come_partner y.partner j (pair.2.first k y back at_k
    (and_from (is_within window y.moment pair.0.moment) (same y.key pair.0.key) inside key_y)) in
    let it : m ≡ come.0 = same_Some m come.0 (sym py ∙ come.2) in
    let lower : come.0 < j = come.1 in
    omega arith

pub order_kept : {K : Type 0} (same : K → K → Bool) → OrderKept same
order_kept {K} same = λ symmetric transitive window rows arrivals pairing rise_in rise_out i k j m x y at_i at_k px py key h.
    elim (cases_order i k) as (λ _. i < k) [
      | inl e ↦
          let at : slice_get rows i ≡ Some y = subst (λ (n : ℕ). slice_get rows n ≡ Some y) (sym e) at_k in
          let it : x ≡ y = same_Some x y (sym at_i ∙ at) in
          let one : j ≡ m = same_Some j m (sym px ∙ (ap (λ (r : Row K). r.partner) it ∙ py)) in
          absurd (omega arith)
      | inr o ↦ elim o as (λ _. i < k) [
        | inl lower ↦ lower
        | inr back ↦ absurd (not_later same symmetric transitive window rows arrivals pairing rise_in rise_out i k j m x y at_i at_k px py key h back)
      ]
    ]

-- ---- none is missed

-- each of the first so many rows that may be the arrival without a partner has come before
come_below : {K : Type 0} (same : K → K → Bool) (window : ℕ) (rows : List (Row K)) (arrivals : List (Arrival K)) →
    IsPairing same window rows arrivals → (j : ℕ) (arrival : Arrival K) → slice_get arrivals j ≡ Some arrival →
    ((i : ℕ) → IsPairAt rows i j → ⊥) → (n : ℕ) (i : ℕ) (row : Row K) → i < n → slice_get rows i ≡ Some row →
    may_be same window row arrival ≡ true → came_before row.partner j ≡ true
come_below same window rows arrivals pairing j arrival at_j none zero i row h at may = absurd (omega arith)
come_below {K} same window rows arrivals pairing j arrival at_j none (suc n) i row h at may =
    elim (cases_Bool (came_before row.partner j)) as (λ _. came_before row.partner j ≡ true) [
      | inl t ↦ t
      | inr f ↦
          let first : IsFirst same window rows row i arrival j = record {
            may = may;
            free = f;
            first = λ earlier other below e may_other.
                come_below same window rows arrivals pairing j arrival at_j none n earlier other (omega arith) e may_other;
          } in
          absurd (none i (row, at, (pairing i j row at).1 (arrival, at_j, first)))
    ]

pub none_missed_out : {K : Type 0} (same : K → K → Bool) → NoneMissedOut same
none_missed_out same = λ window rows arrivals pairing j none i may.
    let come = come_partner may.0.partner j
    (come_below same window rows arrivals pairing j may.1 may.3 none (suc i) i may.0 (omega arith) may.2 may.4) in
    (come.0, come.1, (may.0, may.2, come.2))

holds : (o : Option ℕ) (j : ℕ) → (o ≡ Some j) ⊎ (o ≡ Some j → ⊥)
holds None j = inr (λ e. none-some j e)
holds (Some m) j = elim (cases_eq m j) as (λ _. (Some m ≡ Some j) ⊎ (Some m ≡ Some j → ⊥)) [
  | inl e ↦ inl (ap Some e)
  | inr another ↦ inr (λ e. another (same_Some m j e))
]

no_holder : {K : Type 0} (x : Row K) (rows : List (Row K)) (j : ℕ) → (x.partner ≡ Some j → ⊥) → ((i : ℕ) → IsPairAt rows i j → ⊥) →
    (i : ℕ) → IsPairAt (x ∷ rows) i j → ⊥
no_holder {K} x rows j another none zero p = another (ap (λ (r : Row K). r.partner) (same_Some x p.0 p.1) ∙ p.2)
no_holder x rows j another none (suc i) p = none i p

-- the row of a partner, if there is one
holder : {K : Type 0} (rows : List (Row K)) (j : ℕ) → ((i : ℕ) × IsPairAt rows i j) ⊎ ((i : ℕ) → IsPairAt rows i j → ⊥)
holder [] j = inr (λ i p. none-some p.0 p.1)
holder {K} (x ∷ rows) j =
    elim (holds x.partner j) as (λ _. ((i : ℕ) × IsPairAt (x ∷ rows) i j) ⊎ ((i : ℕ) → IsPairAt (x ∷ rows) i j → ⊥)) [
      | inl e ↦ inl (0, (x, refl, e))
      | inr another ↦ elim (holder rows j) as (λ _. ((i : ℕ) × IsPairAt (x ∷ rows) i j) ⊎ ((i : ℕ) → IsPairAt (x ∷ rows) i j → ⊥)) [
        | inl p ↦ inl (suc p.0, p.1)
        | inr none ↦ inr (no_holder x rows j another none)
      ]
    ]

-- A row that has not come out by then leaves the arrival to one before it.
pair_below : {K : Type 0} (same : K → K → Bool) (window : ℕ) (rows : List (Row K)) (arrivals : List (Arrival K)) →
    IsPairing same window rows arrivals → (i j : ℕ) → MayPair same window rows arrivals i j →
    (IsPairAt rows i j → ⊥) → ((m : ℕ) → m < j → IsPairAt rows i m → ⊥) → (k : ℕ) × (k < i) × IsPairAt rows k j
pair_below {K} same window rows arrivals pairing i j may not_it not_before =
    elim (holder rows j) as (λ _. (k : ℕ) × (k < i) × IsPairAt rows k j) [
      | inr none ↦
          let come = none_missed_out same window rows arrivals pairing j none i may in
          absurd (not_before come.0 come.1 come.2)
      | inl p ↦ elim (cases_order p.0 i) as (λ _. (k : ℕ) × (k < i) × IsPairAt rows k j) [
        | inl e ↦ absurd (not_it (subst (λ (n : ℕ). IsPairAt rows n j) e p.1))
        | inr o ↦ elim o as (λ _. (k : ℕ) × (k < i) × IsPairAt rows k j) [
          | inl h ↦ (p.0, h, p.1)
          | inr h ↦
              let pair = (pairing p.0 j p.1.0 p.1.1).0 p.1.2 in
              let it : may.1 ≡ pair.0 = same_Some may.1 pair.0 (sym may.3 ∙ pair.1) in
              let come = come_partner may.0.partner j (pair.2.first i may.0 h may.2
              (subst (λ (a : Arrival K). may_be same window may.0 a ≡ true) it may.4)) in
              absurd (not_before come.0 come.1 (may.0, may.2, come.2))
        ]
      ]
    ]

pub none_missed_in : {K : Type 0} (same : K → K → Bool) → NoneMissedIn same
none_missed_in same = λ window rows arrivals pairing i none j may.
    pair_below same window rows arrivals pairing i j may (none j) (λ m h. none m)

-- ---- symmetry

one_out : {K : Type 0} (rows : List (Row K)) (i j m : ℕ) → IsPairAt rows i j → IsPairAt rows i m → j ≡ m
one_out {K} rows i j m p q =
    let it : p.0 ≡ q.0 = same_Some p.0 q.0 (sym p.1 ∙ q.1) in
    same_Some j m (sym p.2 ∙ (ap (λ (r : Row K). r.partner) it ∙ q.2))

may_of : {K : Type 0} (same : K → K → Bool) (window : ℕ) (rows : List (Row K)) (arrivals : List (Arrival K)) →
    IsPairing same window rows arrivals → (i j : ℕ) → IsPairAt rows i j → MayPair same window rows arrivals i j
may_of same window rows arrivals pairing i j p =
    let pair = (pairing i j p.0 p.1).0 p.2 in (p.0, pair.0, p.1, pair.1, pair.2.may)

pub symmetry : {K : Type 0} (same : K → K → Bool) → Symmetry same
symmetry {K} same = λ window rows arrivals pairing i j. (
  λ p. (
    may_of same window rows arrivals pairing i j p,
    λ k h q. absurd (let e : k ≡ i = one_partner same window rows arrivals pairing k i j q p in omega arith),
    λ m h may. pair_below same window rows arrivals pairing i m may
        (λ q. let e : j ≡ m = one_out rows i j m p q in omega arith)
        (λ n below q. let e : j ≡ n = one_out rows i j n p q in omega arith),
  ),
  λ t. elim (holder rows j) as (λ _. IsPairAt rows i j) [
    | inr none ↦
        let come = none_missed_out same window rows arrivals pairing j none i t.0 in
        let earlier = t.2 come.0 come.1 (may_of same window rows arrivals pairing i come.0 come.2) in
        let e : earlier.0 ≡ i = one_partner same window rows arrivals pairing earlier.0 i come.0 earlier.2 come.2 in
        let lower : earlier.0 < i = earlier.1 in
        absurd (omega arith)
    | inl p ↦ elim (cases_order p.0 i) as (λ _. IsPairAt rows i j) [
      | inl e ↦ subst (λ (n : ℕ). IsPairAt rows n j) e p.1
      | inr o ↦ elim o as (λ _. IsPairAt rows i j) [
        | inl h ↦ absurd (t.1 p.0 h p.1)
        | inr h ↦
            let pair = (pairing p.0 j p.1.0 p.1.1).0 p.1.2 in
            let it : t.0.1 ≡ pair.0 = same_Some t.0.1 pair.0 (sym t.0.3 ∙ pair.1) in
            let come = come_partner t.0.0.partner j (pair.2.first i t.0.0 h t.0.2
            (subst (λ (a : Arrival K). may_be same window t.0.0 a ≡ true) it t.0.4)) in
            let at_come : IsPairAt rows i come.0 = (t.0.0, t.0.2, come.2) in
            let earlier = t.2 come.0 come.1 (may_of same window rows arrivals pairing i come.0 at_come) in
            let e : earlier.0 ≡ i = one_partner same window rows arrivals pairing earlier.0 i come.0 earlier.2 at_come in
            let lower : earlier.0 < i = earlier.1 in
            absurd (omega arith)
      ]
    ]
  ],
)

-- ---- one pairing

-- the frame of the other list
other_row : {K : Type 0} (rows others : List (Row K)) → SameFrames rows others → (i : ℕ) (row : Row K) → slice_get rows i ≡ Some row →
    (other : Row K) × (slice_get others i ≡ Some other) × (row.moment ≡ other.moment) × (row.key ≡ other.key)
other_row {K} rows others frames i row at =
    let inside : i < length others = omega (arith, slice_get_within rows i row at, frames.0) in
    let other : Row K = get_or others i row in
    let at_other : slice_get others i ≡ Some other = slice_get-get_or others i row inside in
    let parts = frames.1 i row other at at_other in
    (other, at_other, parts.0, parts.1)

same_may : {K : Type 0} (same : K → K → Bool) (window : ℕ) (x y : Row K) (a : Arrival K) → x.moment ≡ y.moment → x.key ≡ y.key →
    may_be same window x a ≡ true → may_be same window y a ≡ true
same_may same window x y a moments keys may = rw (← moments, ← keys) may

turned_round : {K : Type 0} (rows others : List (Row K)) → SameFrames rows others → SameFrames others rows
turned_round rows others frames = (sym frames.0, λ i x y a b. let parts = frames.1 i y x b a in (sym parts.0, sym parts.1))

-- a pair that came before in one list did so in the other, where the pairs below are the same
come_too : {K : Type 0} (rows others : List (Row K)) (j : ℕ) → ((m : ℕ) → m < j → (i : ℕ) → IsPairAt rows i m → IsPairAt others i m) →
    (i : ℕ) (x y : Row K) → slice_get rows i ≡ Some x → slice_get others i ≡ Some y → came_before x.partner j ≡ true → came_before y.partner j ≡ true
come_too {K} rows others j below i x y at_x at_y come =
    let c = come_partner x.partner j come in
    let p = below c.0 c.1 i (x, at_x, c.2) in
    let it : p.0 ≡ y = same_Some p.0 y (sym p.1 ∙ at_y) in
    come_before y.partner c.0 j (sym (ap (λ (r : Row K). r.partner) it) ∙ p.2) c.1

-- the pair of one list is one of the other, where those below are the same both ways
pair_too : {K : Type 0} (same : K → K → Bool) (window : ℕ) (rows others : List (Row K)) (arrivals : List (Arrival K)) → SameFrames rows others →
    IsPairing same window rows arrivals → IsPairing same window others arrivals → (j : ℕ) →
    ((m : ℕ) → m < j → (i : ℕ) → IsPairAt rows i m → IsPairAt others i m) →
    ((m : ℕ) → m < j → (i : ℕ) → IsPairAt others i m → IsPairAt rows i m) → (i : ℕ) → IsPairAt rows i j → IsPairAt others i j
pair_too {K} same window rows others arrivals frames pairing other_pairing j there back i p =
    let pair = (pairing i j p.0 p.1).0 p.2 in
    let o = other_row rows others frames i p.0 p.1 in
    let free : came_before o.0.partner j ≡ false =
    elim (cases_Bool (came_before o.0.partner j)) as (λ _. came_before o.0.partner j ≡ false) [
      | inl t ↦ absurd (both_ways _ pair.2.free (come_too others rows j back i o.0 p.0 o.1 p.1 t))
      | inr f ↦ f
    ] in
    let first : IsFirst same window others o.0 i pair.0 j = record {
      may = same_may same window p.0 o.0 pair.0 o.2 o.3 pair.2.may;
      free = free;
      first = λ earlier y h e may.
          let x = other_row others rows (turned_round rows others frames) earlier y e in
          come_too rows others j there earlier x.0 y x.1 e
          (pair.2.first earlier x.0 h x.1 (same_may same window y x.0 pair.0 x.2 x.3 may));
    } in
    (o.0, o.1, (other_pairing i j o.0 o.1).1 (pair.0, pair.1, first))

-- the pairs of all arrivals below so many, both ways
pairs_below : {K : Type 0} (same : K → K → Bool) (window : ℕ) (rows others : List (Row K)) (arrivals : List (Arrival K)) → SameFrames rows others →
    IsPairing same window rows arrivals → IsPairing same window others arrivals → (n : ℕ) (m : ℕ) → m < n → (i : ℕ) →
    (IsPairAt rows i m → IsPairAt others i m) × (IsPairAt others i m → IsPairAt rows i m)
pairs_below same window rows others arrivals frames pairing other_pairing zero m h i = absurd (omega arith)
pairs_below same window rows others arrivals frames pairing other_pairing (suc n) m h i = (
  pair_too same window rows others arrivals frames pairing other_pairing m
      (λ k below l. (pairs_below same window rows others arrivals frames pairing other_pairing n k (omega arith) l).0)
      (λ k below l. (pairs_below same window rows others arrivals frames pairing other_pairing n k (omega arith) l).1) i,
  pair_too same window others rows arrivals (turned_round rows others frames) other_pairing pairing m
      (λ k below l. (pairs_below same window rows others arrivals frames pairing other_pairing n k (omega arith) l).1)
      (λ k below l. (pairs_below same window rows others arrivals frames pairing other_pairing n k (omega arith) l).0) i,
)

pub one_pairing : {K : Type 0} (same : K → K → Bool) → OnePairing same
one_pairing same = λ window rows others arrivals frames pairing other_pairing i j p.
    (pairs_below same window rows others arrivals frames pairing other_pairing (suc j) j (omega arith) i).0 p
