-- The lines that one of the elements before a place takes.
use Rattle.std.proofs.Common.{◌≡◌, ◌∙◌, ℕ, zero, suc, ◌+◌, ◌<◌, ◌≤◌, ◌&&◌, ◌||◌, ◌⊎◌, ◌↔◌, inl, inr, Bool, true, false, nat_le, List, [], ◌∷◌, length, get_or, refl, sym, subst, arith}
use Rattle.std.specs.List.{Contains, HoldsAt}
use Rattle.std.proofs.lemmas.List.{get_or_default}
use Rattle.std.proofs.lemmas.Bool.Decides.{leb_tells, nat_tests}

-- it holds of an element before this place
abbrev pub Before : {X : Type 0} → (X → Type 0) → List X → ℕ → Type 0
Before {X} P xs n = (k : ℕ) × (k < n) × HoldsAt P xs k

pub before_one_more : {X : Type 0} (P : X → Type 0) (xs : List X) (n m : ℕ) (x : X) → n < length xs → x ≡ get_or xs n x → m ≡ n + 1
    → Before P xs m ↔ (Before P xs n ⊎ P x)
before_one_more P xs n m x lt is e = (
  λ b. elim (leb_tells n b.0) [
    | inl h ↦
        let same : b.0 ≡ n = omega (arith, h.1, b.1) in
        inr (subst P (sym is) (subst (λ (i : ℕ). P (get_or xs i x)) same (b.2 x)))
    | inr h ↦ inl (b.0, h.1, b.2)
  ],
  λ s. elim s [
    | inl b ↦ (b.0, omega (arith, b.1), b.2)
    | inr p ↦ (n, omega arith, λ d. subst P (is ∙ get_or_default xs n x d lt) p)
  ],
)

element_at : {X : Type 0} (xs : List X) (k : ℕ) → k < length xs → (x : X) × ((d : X) → get_or xs k d ≡ x)
element_at [] k h = absurd (omega (arith, h))
element_at (x ∷ xs) zero h = (x, λ d. refl)
element_at (x ∷ xs) (suc k) h = element_at xs k (omega (arith, h))

pub contained : {X : Type 0} (P : X → Type 0) (xs : List X) (n : ℕ) → n ≡ length xs → Before P xs n ↔ ((x : X) × Contains xs x × P x)
contained P xs n e = (
  λ b.
      let at = element_at xs b.0 (omega (arith, b.1)) in
      (at.0, (b.0, omega (arith, b.1), at.1 at.0), subst P (at.1 at.0) (b.2 at.0)),
  λ c. (c.1.0, omega (arith, c.1.1), λ d. subst P (sym c.1.2 ∙ get_or_default xs c.1.0 c.0 d c.1.1) c.2),
)

-- a set that held what the first ones take holds, with one more, what they all take
pub joined_in : {O N I B M Q : Type 0} → (O ↔ (I ⊎ B)) → (M ↔ (B ⊎ Q)) → (N ↔ (O ⊎ Q)) → (N ↔ (I ⊎ M))
joined_in o m n = (
  λ x. elim (n.0 x) [
    | inl y ↦ elim (o.0 y) [ inl i ↦ inl i | inr b ↦ inr (m.1 (inl b)) ]
    | inr q ↦ inr (m.1 (inr q))
  ],
  λ s. elim s [
    | inl i ↦ n.1 (inl (o.1 (inl i)))
    | inr y ↦ elim (m.0 y) [ inl b ↦ n.1 (inl (o.1 (inr b))) | inr q ↦ n.1 (inr q) ]
  ],
)

pub joined_on : {O N B M Q : Type 0} → (O ↔ B) → (M ↔ (B ⊎ Q)) → (N ↔ (O ⊎ Q)) → (N ↔ M)
joined_on o m n = (
  λ x. elim (n.0 x) [ inl y ↦ m.1 (inl (o.0 y)) | inr q ↦ m.1 (inr q) ],
  λ y. elim (m.0 y) [ inl b ↦ n.1 (inl (o.1 b)) | inr q ↦ n.1 (inr q) ],
)

-- a set holds what it did and a range
pub with_range : (old new : Bool) (low high id : ℕ) → new ≡ (old || (nat_le low id && nat_le id high))
    → (new ≡ true) ↔ ((old ≡ true) ⊎ ((low ≤ id) × (id ≤ high)))
with_range true new low high id e = (λ t. inl refl, λ s. e)
with_range false new low high id e = (
  λ t. inr (grind (arith, nat_tests), grind (arith, nat_tests)),
  λ s. elim s [ inl f ↦ absurd (cc) | inr r ↦ grind (arith, nat_tests, r.0, r.1) ],
)

-- with the one link whose name matches
pub with_named : {M : Type 0} (old new : Bool) (link id : ℕ) → new ≡ (old || (nat_le link id && nat_le id link)) → M
    → (new ≡ true) ↔ ((old ≡ true) ⊎ (M × (link ≡ id)))
with_named old new link id e m =
    let r = with_range old new link link id e in (
      λ t. elim (r.0 t) [ inl o ↦ inl o | inr b ↦ inr (m, omega (arith, b.0, b.1)) ],
      λ s. elim s [ inl o ↦ r.1 (inl o) | inr b ↦ r.1 (inr (omega (arith, b.1), omega (arith, b.1))) ],
    )

-- nothing is put in where nothing is taken
pub with_none : {O Q : Type 0} → (Q → ⊥) → O ↔ (O ⊎ Q)
with_none never = (λ o. inl o, λ s. elim s [ inl o ↦ o | inr q ↦ absurd (never q) ])

-- found by now, where this one is among them
pub found_now : {B M Q : Type 0} (b : Bool) → b ≡ true → (M ↔ (B ⊎ Q)) → Q → (b ≡ true) ↔ M
found_now b t m q = (λ _. m.1 (inr q), λ _. t)

pub found_before : {B M Q : Type 0} (b : Bool) → ((b ≡ true) ↔ B) → (M ↔ (B ⊎ Q)) → (Q → ⊥) → (b ≡ true) ↔ M
found_before b o m never = (
  λ t. m.1 (inl (o.0 t)),
  λ x. elim (m.0 x) [ inl y ↦ o.1 y | inr q ↦ absurd (never q) ],
)
