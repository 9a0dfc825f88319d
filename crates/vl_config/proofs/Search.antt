-- A binary search of links that rise and are distinct finds the link of an identifier.
use Rattle.std.proofs.Common.{◌≡◌, ℕ, zero, suc, ◌<◌, ◌≤◌, ◌≢◌, false, ◌==◌, List, [], ◌∷◌, length, Some, None, get_or, find, ap, inl, inr, Less, Equal, Greater, nat_cmp, refl, sym, ◌∙◌, arith}
use Rattle.std.proofs.lemmas.Bool.{eq-eqb, cases_lt}
use Rattle.std.proofs.lemmas.Bool.Decides.{nat_tests}
use Rattle.std.specs.Ordering.{ordering_index}
use Rattle.std.specs.List.{AllByRecursion, IsDistinct}
use Rattle.std.specs.List.Sorted.{IsNonDecreasingBy, IsPartitionPoint}
use Rattle.vl_config.specs.Link.{VirtualLink}
use Rattle.vl_config.specs.Document.{has_same_id}

test_false : (m n : ℕ) → m ≢ n → m == n ≡ false
test_false m n ne = grind (arith, nat_tests)

same_of : (m n : ℕ) → nat_cmp m n ≡ Equal → m ≡ n
same_of m n e = grind (arith, nat_tests)

less_of : (m n : ℕ) → nat_cmp m n ≡ Less → m ≢ n
less_of m n e = grind (arith, nat_tests)

greater_of : (m n : ℕ) → nat_cmp m n ≡ Greater → m ≢ n
greater_of m n e = grind (arith, nat_tests)

index_rises : (a b x : ℕ) → a ≤ b → ordering_index (nat_cmp a x) ≤ ordering_index (nat_cmp b x)
index_rises a b x h = grind (arith, nat_tests)

all_at : {X : Type 0} (P : X → Type 0) (xs : List X) (k : ℕ) (d : X) → AllByRecursion P xs → k < length xs → P (get_or xs k d)
all_at P [] k d all h = absurd (omega arith)
all_at P (x ∷ xs) zero d all h = all.0
all_at P (x ∷ xs) (suc k) d all h = all_at P xs k d all.1 (omega arith)

pub found_there : (links : List VirtualLink) (id place : ℕ) (d : VirtualLink) → IsDistinct has_same_id links → place < length links →
    (get_or links place d).id.0 ≡ id → find (λ link. link.id.0 == id) links ≡ Some (get_or links place d)
unfolding IsDistinct
found_there [] id place d distinct h e = absurd (omega arith)
found_there (l ∷ ls) id zero d distinct h e = rw (eq-eqb l.id.0 id e) refl
found_there (l ∷ ls) id (suc k) d distinct h e =
    let other : l.id.0 == (get_or ls k d).id.0 ≡ false = all_at (λ x. has_same_id l x ≡ false) ls k d distinct.0 (omega arith) in
    rw (rw e at other) (found_there ls id k d distinct.1 (omega arith) e)

pub found_nowhere : (links : List VirtualLink) (id : ℕ) → ((k : ℕ) (d : VirtualLink) → k < length links → (get_or links k d).id.0 ≢ id) →
    find (λ link. link.id.0 == id) links ≡ None
found_nowhere [] id none = refl
found_nowhere (l ∷ ls) id none =
    rw (test_false l.id.0 id (none 0 l (omega arith)))
    (found_nowhere ls id (λ k d h. none (suc k) d (omega arith)))

-- the answer of a binary search, on a slice of the links
pub search_found : (links slice : List VirtualLink) (id place : ℕ) (item : VirtualLink) → slice ≡ links → IsDistinct has_same_id links →
    place < length slice → ((d : VirtualLink) → nat_cmp (get_or slice place d).id.0 id ≡ Equal) → item ≡ get_or links place item →
    Some item ≡ find (λ link. link.id.0 == id) links
search_found links slice id place item same distinct h at e =
    let here : place < length links = rw same at h in
    let is : (get_or links place item).id.0 ≡ id = same_of _ _ (rw same at (at item)) in
    ap Some e ∙ sym (found_there links id place item distinct here is)

pub search_missed : (links slice : List VirtualLink) (id place : ℕ) → slice ≡ links → IsNonDecreasingBy (λ link. link.id.0) links →
    (IsNonDecreasingBy (λ link. ordering_index (nat_cmp link.id.0 id)) slice →
    IsPartitionPoint (λ link. nat_cmp link.id.0 id ≡ Less) (λ link. nat_cmp link.id.0 id ≡ Greater) slice place) →
    None ≡ find (λ link. link.id.0 == id) links
search_missed links slice id place same rising parts =
    let rises : IsNonDecreasingBy (λ link. ordering_index (nat_cmp link.id.0 id)) slice =
    rw same (λ i j d le lt. index_rises (get_or links i d).id.0 (get_or links j d).id.0 id (rising i j d le lt)) in
    let split = rw same at (parts rises) in
    sym (found_nowhere links id (λ k d h.
    elim (cases_lt k place) [
      | inl before ↦ less_of (get_or links k d).id.0 id (split.0 k d (omega arith) before)
      | inr after ↦ greater_of (get_or links k d).id.0 id (split.1 k d after h)
    ]))
