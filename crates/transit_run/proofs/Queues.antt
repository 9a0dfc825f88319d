-- The queue of a lane.
use Rattle.std.proofs.Common.{◌≡◌, ℕ, ◌-◌, Bool, true, false, not, List, map, find, option_map, Option, Some, None, refl, sym, ◌∙◌, ap, arith}
use Rattle.std.specs.Global.{Vec}
use Rattle.std.proofs.lemmas.Bool.{and_parts, false≢true}
use Rattle.transit_match.specs.declared.waiting.Entry.{Entry}
use Rattle.transit_match.specs.Lanes.{by_key, free_of}
use Rattle.transit_match.specs.Pairing.{Arrival}
use Rattle.transit_match.specs.Waiting.{may_take, with_taken}
use Rattle.transit_match.proofs.Lanes.{map-found, map-with_taken, none_found, none_free, one_less}
use Rattle.transit_run.specs.Waits.{IsFree, Queue, Takes, same_bytes}

abbrev pub bytes_of : Vec ℕ → List ℕ
bytes_of key = key.items

-- an entry that may be taken isn't
not_taken : (window : ℕ) (a : Arrival (List ℕ)) (entry : Entry (List ℕ)) → may_take same_bytes window a entry ≡ true → entry.taken ≡ false
not_taken window a entry e = was entry.taken (and_parts (not entry.taken) _ e).0
  where
    was : (b : Bool) → not b ≡ true → b ≡ false
    was true e = absurd (false≢true e)
    was false e = refl

-- no entry is free
pub takes_none : (a : Arrival (List ℕ)) (old : Queue) (place : Option ℕ) → old.free ≡ 0 → place ≡ None → IsFree old → Takes a old old place
takes_none a old place zero none free =
    let nothing : find (may_take same_bytes old.window a) old.entries ≡ None =
    none_free (may_take same_bytes old.window a) (not_taken old.window a) old.entries (sym free ∙ zero) in
    record {
      found = none ∙ sym (ap (λ (o : Option (Entry (List ℕ))). option_map (λ (entry : Entry (List ℕ)). entry.place) o) nothing);
      entries = sym (none_found (may_take same_bytes old.window a) old.entries nothing);
      free = free;
      window = refl;
    }

free_after : (p : Entry (List ℕ) → Bool) → ((entry : Entry (List ℕ)) → p entry ≡ true → entry.taken ≡ false) → (entries : List (Entry (List ℕ)))
    (found : Option (Entry (List ℕ))) → find p entries ≡ found → (place : Option ℕ) → place ≡ option_map (λ entry. entry.place) found →
    (free new : ℕ) → free ≡ free_of entries → ((n : ℕ) → place ≡ Some n → new ≡ free - 1) → (place ≡ None → new ≡ free) →
    new ≡ free_of (with_taken p entries)
free_after p only entries None at place is free new all some none =
    none is ∙ all ∙ sym (ap (λ (l : List (Entry (List ℕ))). free_of l) (none_found p entries at))
free_after p only entries (Some it) at place is free new all some none =
    omega (arith, some it.place is, one_less p only entries it at, all)

-- the first entry that may be taken is, of those whose keys are vectors
pub takes_first : (a : Arrival (List ℕ)) (window free new : ℕ) (items after : List (Entry (Vec ℕ))) (p : Entry (Vec ℕ) → Bool) (place : Option ℕ) →
    ((entry : Entry (Vec ℕ)) → p entry ≡ may_take same_bytes window a (by_key bytes_of entry)) →
    place ≡ option_map (λ entry. entry.place) (find p items) → after ≡ with_taken p items →
    ((n : ℕ) → place ≡ Some n → new ≡ free - 1) → (place ≡ None → new ≡ free) → (then : ℕ) → then ≡ window →
    free ≡ free_of (map (by_key bytes_of) items) →
    Takes a (record { entries = map (by_key bytes_of) items; free = free; window = window })
    (record { entries = map (by_key bytes_of) after; free = new; window = then }) place
takes_first a window free new items after p place same found taken some none then kept all =
    let q : Entry (List ℕ) → Bool = may_take same_bytes window a in
    let entries : List (Entry (List ℕ)) = map (by_key bytes_of) items in
    let by : option_map (λ (entry : Entry (Vec ℕ)). entry.place) (find p items) ≡ option_map (λ (entry : Entry (List ℕ)). entry.place) (find q entries) =
    places (find p items) ∙ ap (λ (o : Option (Entry (List ℕ))). option_map (λ (entry : Entry (List ℕ)). entry.place) o) (map-found bytes_of p q same items) in
    let after_is : map (by_key bytes_of) after ≡ with_taken q entries =
    ap (λ (l : List (Entry (Vec ℕ))). map (by_key bytes_of) l) taken ∙ map-with_taken bytes_of p q same items in
    record {
      found = found ∙ by;
      entries = after_is;
      free = free_after q (not_taken window a) entries (find q entries) refl place (found ∙ by) free new all some none
          ∙ sym (ap (λ (l : List (Entry (List ℕ))). free_of l) after_is);
      window = kept;
    }
  where
    places : (o : Option (Entry (Vec ℕ))) → option_map (λ entry. entry.place) o ≡ option_map (λ entry. entry.place) (option_map (by_key bytes_of) o)
    places None = refl
    places (Some it) = refl
