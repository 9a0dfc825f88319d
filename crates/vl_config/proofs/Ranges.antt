-- The numbers of a link's table whose keys have no fault are in range.
use Rattle.std.proofs.Common.{◌≡◌, ℕ, ◌*◌, ◌≤◌, Bool, true, false, ◌||◌, not, cond, List, [], ◌∷◌, Option, Some, None, is_none, unwrap_or, ◌==◌, refl, leb-true, eq-eqb, arith}
use Rattle.std.proofs.lemmas.Bool.{and_parts, eqb-true}
use Rattle.std.proofs.lemmas.Bool.Decides.{nat_tests}
use Rattle.std.specs.Option.{option_map, option_map_or, option_and_then}
use Rattle.std.specs.List.{list_any}
use Rattle.toml.specs.Data.{Data, Members, get_member, as_str}
use Rattle.vl_config.specs.declared.fault.ConfigFault.{ConfigFault}
use Rattle.vl_config.specs.declared.key.Key.{Key}
use Rattle.vl_config.specs.Link.{bags_ms, is_name}
use Rattle.vl_config.specs.declared.fault.ConfigFault.TheVariants.{Missing, Kind, Range, UnknownKey}
use Rattle.vl_config.specs.declared.key.Key.TheVariants.{Id, Name, BagMs, JitterUs, Smax, SkewUs, Group}
use Rattle.vl_config.specs.Keys.{key_name, natural_in, allows, is_missing, is_other_kind, is_out_of_range, has_unknown, link_keys, keys_fault}
use Rattle.vl_config.specs.Document.{number_at, text_of, HasRanges}

pub or_false : (a b : Bool) → a || b ≡ false → (a ≡ false) × (b ≡ false)
or_false true b e = cc
or_false false b e = (refl, e)

no_fault : (a b c d : Bool) (f g h k : ConfigFault) →
    cond a (Some f) (cond b (Some g) (cond c (Some h) (cond d (Some k) None))) ≡ None → (a ≡ false) × (b ≡ false) × (c ≡ false)
no_fault true b c d f g h k e = cc
no_fault false true c d f g h k e = cc
no_fault false false true d f g h k e = cc
no_fault false false false d f g h k e = (refl, refl, refl)

-- a required number in range
allowed : (test : ℕ → Bool) (found : Option Data) → is_none found ≡ false →
    option_map_or (λ d. not (option_map_or test (natural_in d) false)) found false ≡ false →
    test (unwrap_or (option_and_then natural_in found) 0) ≡ true
allowed test None missing range = cc
allowed test (Some d) missing range = allowed_number (natural_in d) range
  where
    allowed_number : (n : Option ℕ) → not (option_map_or test n false) ≡ false → test (unwrap_or n 0) ≡ true
    allowed_number None e = cc
    allowed_number (Some n) e = allowed_test (test n) e
      where
        allowed_test : (b : Bool) → not b ≡ false → b ≡ true
        allowed_test true e = refl
        allowed_test false e = cc

-- a required name in range
allowed_name : (found : Option Data) → is_none found ≡ false →
    option_map_or (λ d. not (option_map_or is_name (as_str d) false)) found false ≡ false →
    is_name (option_map_or text_of found []) ≡ true
allowed_name None missing range = cc
allowed_name (Some d) missing range = allowed_text (as_str d) range
  where
    allowed_text : (s : Option (List ℕ)) → not (option_map_or is_name s false) ≡ false → is_name (unwrap_or s []) ≡ true
    allowed_text None e = cc
    allowed_text (Some s) e = allowed_test (is_name s) e
      where
        allowed_test : (b : Bool) → not b ≡ false → b ≡ true
        allowed_test true e = refl
        allowed_test false e = cc

-- a group in range, which need not be there
allowed_group : (found : Option Data) →
    option_map_or (λ d. not (option_map_or is_name (as_str d) false)) found false ≡ false →
    option_map_or is_name (option_map text_of found) true ≡ true
allowed_group None range = refl
allowed_group (Some d) range = allowed_name (Some d) refl range

-- the gaps in milliseconds and in nanoseconds
bag_in : (ms : ℕ) (bags : List ℕ) → list_any (λ b. ms == b) bags ≡ true → list_any (λ b. b * 1000000 == ms * 1000000) bags ≡ true
bag_in ms [] e = cc
bag_in ms (b ∷ bs) e =
    elim (ms == b) as (λ t. ms == b ≡ t → b * 1000000 == ms * 1000000 || list_any (λ b. b * 1000000 == ms * 1000000) bs ≡ true) [
      | true ↦ λ same. (let equal : ms ≡ b = eqb-true ms b same in rw (eq-eqb (b * 1000000) (ms * 1000000) (omega (arith, equal))))
      | false ↦ λ other. rw (bag_in ms bs (rw other at e), or_true (b * 1000000 == ms * 1000000))
    ] refl
  where
    or_true : (a : Bool) → a || true ≡ true
    or_true true = refl
    or_true false = refl

bag_bound : (ms : ℕ) → list_any (λ b. ms == b) bags_ms ≡ true → ms ≤ 128
bag_bound ms e = grind (arith, nat_tests)

-- each key fails the test
AllFail : (Key → Bool) → List Key → Type 0
AllFail test [] = Unit {0}
AllFail test (k ∷ ks) = (test k ≡ false) × AllFail test ks

all_fail : (test : Key → Bool) (keys : List Key) → list_any test keys ≡ false → AllFail test keys
unfolding AllFail
all_fail test [] e = tt
all_fail test (k ∷ ks) e = let both = or_false (test k) (list_any test ks) e in (both.0, all_fail test ks both.1)

pub link_ranges : (members : Members) (place : Option ℕ) → keys_fault link_keys place members ≡ None → HasRanges members
unfolding AllFail
link_ranges members place e =
    let parts = no_fault (list_any (is_missing members) link_keys) (list_any (is_other_kind members) link_keys)
    (list_any (is_out_of_range members) link_keys) (has_unknown link_keys members)
    (Missing place) (Kind place) (Range place) (UnknownKey place) e in
    let missing = all_fail (is_missing members) link_keys parts.0 in
    let range = all_fail (is_out_of_range members) link_keys parts.2 in
    let bag = allowed (allows BagMs) (get_member (key_name BagMs) members) missing.1.1.0 range.1.1.0 in
    let smax = and_parts _ _ (allowed (allows Smax) (get_member (key_name Smax) members) missing.1.1.1.1.0 range.1.1.1.1.0) in
    record {
      id = leb-true _ _ (allowed (allows Id) (get_member (key_name Id) members) missing.0 range.0);
      name = allowed_name (get_member (key_name Name) members) missing.1.0 range.1.0;
      bag = bag_in (number_at BagMs members) bags_ms bag;
      bag_bound = bag_bound (number_at BagMs members) bag;
      jitter = leb-true _ _ (allowed (allows JitterUs) (get_member (key_name JitterUs) members) missing.1.1.1.0 range.1.1.1.0);
      smallest = leb-true _ _ smax.0;
      largest = leb-true _ _ smax.1;
      skew = leb-true _ _ (allowed (allows SkewUs) (get_member (key_name SkewUs) members) missing.1.1.1.1.1.1.1.0 range.1.1.1.1.1.1.1.0);
      group = allowed_group (get_member (key_name Group) members) range.1.1.1.1.1.1.1.1.0;
    }
