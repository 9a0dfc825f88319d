-- The order of places, by the comparison that keeps them in order.
use Rattle.std.proofs.Common.{◌≡◌, ◌⊎◌, inl, inr, ℕ, ◌<◌, true, false, Option, None, Some, refl, sym, ap, ◌∙◌, subst, arith}
use Rattle.std.proofs.lemmas.Cmp.{ranked}
use Rattle.std.specs.Ordering.{MatchOrdering, nat_cmp, ordering_then, is_lt, is_gt, is_eq}
use Rattle.std.specs.declared.cmp.Ordering.{Ordering}
use Rattle.std.specs.declared.cmp.Ordering.TheVariants.{Less, Equal, Greater}
use Rattle.cut_run.specs.Places.{IsAbove, IsBelow, place_at, place_cmp}
use Rattle.cut_run.specs.declared.place.SearchPlace.{SearchPlace}

pub same_place : (p q : SearchPlace) → p.stamp.0 ≡ q.stamp.0 → p.number ≡ q.number → p ≡ q
same_place p q e f = ap (λ (s : ℕ). place_at s p.number) e ∙ ap (λ (n : ℕ). place_at q.stamp.0 n) f

both : (o r : Ordering) (p q : SearchPlace) → MatchOrdering o (p.stamp.0 < q.stamp.0) (p.stamp.0 ≡ q.stamp.0) (q.stamp.0 < p.stamp.0)
    → MatchOrdering r (p.number < q.number) (p.number ≡ q.number) (q.number < p.number)
    → MatchOrdering (ordering_then o r) (IsBelow p q) (p ≡ q) (IsBelow q p)
both Less r p q a b = (omega arith, λ e. absurd (omega arith))
both Greater r p q a b = (omega arith, λ e. absurd (omega arith))
both Equal Less p q a b = (omega arith, λ e. b)
both Equal Equal p q a b = same_place p q a b
both Equal Greater p q a b = (omega arith, λ e. b)

-- the comparison's answer
pub compared : (p q : SearchPlace) → MatchOrdering (place_cmp p q) (IsBelow p q) (p ≡ q) (IsBelow q p)
compared p q =
    both (nat_cmp p.stamp.0 q.stamp.0) (nat_cmp p.number q.number) p q
    (ranked p.stamp.0 q.stamp.0 (nat_cmp p.stamp.0 q.stamp.0) refl) (ranked p.number q.number (nat_cmp p.number q.number) refl)

pub not_both : (p q : SearchPlace) → IsBelow p q → IsBelow q p → ⊥
not_both p q a b =
    let same : p.stamp.0 ≡ q.stamp.0 = omega arith in
    let less : p.number < q.number = a.1 same in
    let more : q.number < p.number = b.1 (sym same) in
    absurd (omega arith)

pub not_itself : (p : SearchPlace) → IsBelow p p → ⊥
not_itself p a = not_both p p a a

less_means : (o : Ordering) (p q : SearchPlace) → MatchOrdering o (IsBelow p q) (p ≡ q) (IsBelow q p) → is_lt o ≡ true → IsBelow p q
less_means Less p q h e = h
less_means Equal p q h e = cc
less_means Greater p q h e = cc

not_less_means : (o : Ordering) (p q : SearchPlace) → MatchOrdering o (IsBelow p q) (p ≡ q) (IsBelow q p) → is_lt o ≡ false → IsBelow p q → ⊥
not_less_means Less p q h e = cc
not_less_means Equal p q h e = λ b. not_itself q (subst (λ (x : SearchPlace). IsBelow x q) h b)
not_less_means Greater p q h e = λ b. not_both p q b h

pub below : (p q : SearchPlace) → is_lt (place_cmp p q) ≡ true → IsBelow p q
below p q = less_means (place_cmp p q) p q (compared p q)

pub not_below : (p q : SearchPlace) → is_lt (place_cmp p q) ≡ false → IsBelow p q → ⊥
not_below p q = not_less_means (place_cmp p q) p q (compared p q)

not_greater_means : (o : Ordering) (p q : SearchPlace) → MatchOrdering o (IsBelow p q) (p ≡ q) (IsBelow q p) → is_gt o ≡ false → IsBelow q p → ⊥
not_greater_means Less p q h e = λ b. not_both p q h b
not_greater_means Equal p q h e = λ b. not_itself q (subst (λ (x : SearchPlace). IsBelow q x) h b)
not_greater_means Greater p q h e = cc

pub not_above : (p q : SearchPlace) → is_gt (place_cmp p q) ≡ false → IsBelow q p → ⊥
not_above p q = not_greater_means (place_cmp p q) p q (compared p q)

equal_means : (o : Ordering) (p q : SearchPlace) → MatchOrdering o (IsBelow p q) (p ≡ q) (IsBelow q p) → (is_eq o ≡ true → p ≡ q) × ((p ≡ q → ⊥) → is_eq o ≡ false)
equal_means Less p q h = (λ e. cc, λ d. refl)
equal_means Equal p q h = (λ e. h, λ d. absurd (d h))
equal_means Greater p q h = (λ e. cc, λ d. refl)

pub differs : (p q : SearchPlace) → (p ≡ q → ⊥) → is_eq (place_cmp p q) ≡ false
differs p q = (equal_means (place_cmp p q) p q (compared p q)).1

itself_means : (o : Ordering) (p : SearchPlace) → MatchOrdering o (IsBelow p p) (p ≡ p) (IsBelow p p) → is_eq o ≡ true
itself_means Less p h = absurd (not_itself p h)
itself_means Equal p h = refl
itself_means Greater p h = absurd (not_itself p h)

pub itself : (p : SearchPlace) → is_eq (place_cmp p p) ≡ true
itself p = itself_means (place_cmp p p) p (compared p p)

pub below_trans : (p q r : SearchPlace) → IsBelow p q → IsBelow q r → IsBelow p r
below_trans p q r a b = (omega arith, λ e. (let x : p.stamp.0 ≡ q.stamp.0 = omega arith in let y : q.stamp.0 ≡ r.stamp.0 = omega arith in let m = a.1 x in let n = b.1 y in omega arith))

from_means : (o : Ordering) (p q r : SearchPlace) → MatchOrdering o (IsBelow p r) (p ≡ r) (IsBelow r p) → (IsBelow p r → ⊥) → (IsBelow q p → ⊥) → IsBelow q r → ⊥
from_means Less p q r h a b = absurd (a h)
from_means Equal p q r h a b = λ c. b (subst (λ (x : SearchPlace). IsBelow q x) (sym h) c)
from_means Greater p q r h a b = λ c. b (below_trans q r p c h)

-- a place isn't below r that isn't below another which isn't below r
pub not_below_from : (p q r : SearchPlace) → (IsBelow p r → ⊥) → (IsBelow q p → ⊥) → IsBelow q r → ⊥
not_below_from p q r = from_means (place_cmp p r) p q r (compared p r)

one_of : {A B C : Type 0} (o : Ordering) → MatchOrdering o A B C → A ⊎ (B ⊎ C)
one_of Less h = inl h
one_of Equal h = inr (inl h)
one_of Greater h = inr (inr h)

-- of two places one is below the other, or they are the same
pub three : (p q : SearchPlace) → IsBelow p q ⊎ ((p ≡ q) ⊎ IsBelow q p)
three p q = one_of (place_cmp p q) (compared p q)

pub above_further : (floor : Option SearchPlace) (p q : SearchPlace) → IsAbove floor p → IsBelow p q → IsAbove floor q
above_further None p q a b = tt
above_further (Some r) p q a b = below_trans r p q a b
