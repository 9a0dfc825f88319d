-- Links of which none has what an earlier one has: no two have one identifier, before the sort and after it.
use Rattle.std.proofs.Common.{◌≡◌, ℕ, ◌+◌, Bool, true, false, ◌==◌, cond, List, [], ◌∷◌, ◌++◌, Option, Some, None, refl, arith}
use Rattle.std.proofs.lemmas.Bool.Decides.{nat_tests}
use Rattle.std.proofs.lemmas.List.Folds.{list_any-append}
use Rattle.std.proofs.lemmas.Map.Keys.{IsDistinct-IsPermutation}
use Rattle.std.specs.Prelude.{IsPermutation}
use Rattle.std.specs.Option.{option_or}
use Rattle.std.specs.List.{list_any, AllByRecursion, IsDistinct}
use Rattle.afdx_frame.specs.declared.key.VlId.{VlId}
use Rattle.vl_config.specs.declared.fault.ConfigFault.{ConfigFault}
use Rattle.vl_config.specs.Link.{VirtualLink}
use Rattle.vl_config.specs.Document.{has_id, has_same_id, twice_in, twice_fault}
use Rattle.vl_config.proofs.Ranges.{or_false}

none_parts : {X : Type 0} (a b : Option X) → option_or a b ≡ None → (a ≡ None) × (b ≡ None)
none_parts None b e = (refl, e)
none_parts (Some x) b e = cc

no_first : (a : Bool) (f : ConfigFault) (rest : Option ConfigFault) → cond a (Some f) rest ≡ None → a ≡ false
no_first true f rest e = cc
no_first false f rest e = refl

-- no link has the identifier of an earlier one
apart : (place : ℕ) (earlier links : List VirtualLink) (e : VirtualLink) →
    ((id : VlId) → list_any (has_id id) earlier ≡ false → has_id id e ≡ false) →
    twice_fault place earlier links ≡ None → AllByRecursion (λ l. has_same_id e l ≡ false) links
apart place earlier [] e member none = tt
apart place earlier (l ∷ ls) e member none =
    let parts = none_parts (twice_in place earlier l) (twice_fault (place + 1) (earlier ++ l ∷ []) ls) none in (
      member l.id (no_first (list_any (has_id l.id) earlier) _ _ parts.0),
      apart (place + 1) (earlier ++ l ∷ []) ls e
          (λ id h. member id (or_false (list_any (has_id id) earlier) (list_any (has_id id) (l ∷ []))
          (rw list_any-append at h)).0) parts.1,
    )

links_distinct_from : (place : ℕ) (earlier links : List VirtualLink) → twice_fault place earlier links ≡ None → IsDistinct has_same_id links
unfolding IsDistinct
links_distinct_from place earlier [] none = tt
links_distinct_from place earlier (l ∷ ls) none =
    let parts = none_parts (twice_in place earlier l) (twice_fault (place + 1) (earlier ++ l ∷ []) ls) none in (
      apart (place + 1) (earlier ++ l ∷ []) ls l
          (λ id h. (or_false (has_id id l) false
          (or_false (list_any (has_id id) earlier) (list_any (has_id id) (l ∷ [])) (rw list_any-append at h)).1).0) parts.1,
      links_distinct_from (place + 1) (earlier ++ l ∷ []) ls parts.1,
    )

pub links_distinct : (links : List VirtualLink) → twice_fault 0 [] links ≡ None → IsDistinct has_same_id links
links_distinct links none = links_distinct_from 0 [] links none

flips : (m n : ℕ) → (m == n) ≡ (n == m)
flips m n = grind (arith, nat_tests)

pub sorted_distinct : (xs ys : List VirtualLink) → IsPermutation xs ys → IsDistinct has_same_id xs → IsDistinct has_same_id ys
sorted_distinct xs ys permutation distinct =
    IsDistinct-IsPermutation has_same_id (λ x y. flips x.id.0 y.id.0) xs ys permutation distinct
