-- Items of a text, one after another.
use Rattle.std.proofs.Common.{◌≡◌, ◌∙◌, ℕ, ◌+◌, ◌<◌, Bool, true, false, ◌==◌, List, [], ◌∷◌, ◌++◌, length, take, get_or, flat_map, refl, ap, subst, arith, inl, inr}
use Rattle.std.specs.List.{HoldsAt}
use Rattle.std.proofs.lemmas.List.{take_more, get_or_default, append-nil}
use Rattle.std.proofs.lemmas.Grind.{flat_map-append}
use Rattle.std.proofs.lemmas.Bool.Decides.{leb_tells, eqb_tells}

-- all that the items up to one more stand for
pub joined : {X Y : Type 0} (f : X → List Y) (all : List X) (n : ℕ) (item : X) (old named : List Y) → n < length all → item ≡ get_or all n item
    → old ≡ flat_map f (take n all) → named ≡ f item → old ++ named ≡ flat_map f (take (n + 1) all)
joined f all n item old named lt is so e =
    let one : flat_map f (get_or all n item ∷ []) ≡ f (get_or all n item) = append-nil (f (get_or all n item)) in
    let whole : flat_map f (take (n + 1) all) ≡ flat_map f (take n all) ++ f (get_or all n item) =
    ap (flat_map f) (take_more all n item lt) ∙ (flat_map-append f (take n all) (get_or all n item ∷ []) ∙ ap (λ ys. flat_map f (take n all) ++ ys) one) in
    let here : f item ≡ f (get_or all n item) = ap f is in
    cc

-- a claim that holds of each item so far and of this one
pub one_more : {X : Type 0} (P : X → Type 0) (all : List X) (n m : ℕ) (item : X) → n < length all → item ≡ get_or all n item → P item
    → ((k : ℕ) → k < n → HoldsAt P all k) → m ≡ n + 1 → (k : ℕ) → k < m → HoldsAt P all k
one_more P all n m item lt is here earlier e k b d = elim (leb_tells n k) [
  | inl h ↦
      let same : n ≡ k = omega (arith, h.1) in
      subst (λ (i : ℕ). P (get_or all i d)) same (subst P (is ∙ get_or_default all n item d lt) here)
  | inr h ↦ earlier k h.1 d
]

pub eqb_zero : {n : ℕ} {b : Bool} → b ≡ true → b ≡ (n == 0) → n ≡ 0
eqb_zero {n = n} t e = elim (eqb_tells n 0) [ inl h ↦ h.1 | inr h ↦ absurd (let f = h.0 in cc) ]

pub no_items : {X : Type 0} (xs : List X) → length xs ≡ 0 → xs ≡ []
no_items [] e = refl
no_items (x ∷ xs) e = absurd (omega arith)

pub some_items : {X : Type 0} {xs : List X} {b : Bool} → xs ≡ [] → b ≡ false → b ≡ (length xs == 0) → ⊥
some_items {xs = xs} e f h = let z : (length xs == 0) ≡ true = ap (λ ys. length ys == 0) e in cc
