-- The knowledge of the frames that went in after some that came out.
use Rattle.std.specs.Prelude.{◌≡◌, ℕ, ◌-◌, ◌<◌, Bool, true, false, not, ◌&&◌, List, [], ◌∷◌, ◌++◌, map, Option, Some, None, is_some, nat_lt, cond, find}
use Rattle.std.specs.List.{AllByRecursion}
use Rattle.transit_match.specs.declared.waiting.Entry.{Entry}
use Rattle.transit_match.specs.declared.waiting.Waiting.{Waiting}
use Rattle.transit_match.specs.Pairing.{Row, Arrival, IsPairing, is_within}

-- the entry of a frame that went in
abbrev pub entry_of : {K : Type 0} → Row K → Entry K
entry_of row = record { moment = row.moment; place = row.place; key = row.key; taken = is_some row.partner }

-- a frame that goes in has no partner yet
abbrev pub entered : {K : Type 0} → ℕ → ℕ → K → Row K
entered moment place key = record { moment = moment; place = place; key = key; partner = None }

-- an entry, taken or not, has the key, and the moment is in its window
abbrev pub fits : {K : Type 0} → (K → K → Bool) → ℕ → Arrival K → Entry K → Bool
fits same window arrival entry = is_within window entry.moment arrival.moment && same entry.key arrival.key

abbrev pub may_take : {K : Type 0} → (K → K → Bool) → ℕ → Arrival K → Entry K → Bool
may_take same window arrival entry = not entry.taken && fits same window arrival entry

-- The first frame without a partner that may be the one that comes out has the place of that one as its partner.
abbrev pub paired : {K : Type 0} → (K → K → Bool) → ℕ → Arrival K → ℕ → List (Row K) → List (Row K)
paired same window arrival place [] = []
paired same window arrival place (row ∷ rows) =
    cond (may_take same window arrival (entry_of row))
    (record row { partner = Some place } ∷ rows) (row ∷ paired same window arrival place rows)

-- the first frame without a partner that may be the one that comes out
abbrev pub first_free : {K : Type 0} → (K → K → Bool) → ℕ → Arrival K → List (Row K) → Option (Row K)
first_free same window arrival rows = find (λ row. may_take same window arrival (entry_of row)) rows

-- the first entry that passes the test is taken
abbrev pub with_taken : {K : Type 0} → (Entry K → Bool) → List (Entry K) → List (Entry K)
with_taken may [] = []
with_taken may (entry ∷ entries) = cond (may entry) (record entry { taken = true } ∷ entries) (entry ∷ with_taken may entries)

-- its window ended before the moment
abbrev pub is_over : ℕ → ℕ → ℕ → Bool
is_over window moment in_moment = nat_lt window (moment - in_moment)

abbrev pub starts_over : {K : Type 0} → ℕ → ℕ → List (Entry K) → Bool
starts_over window moment [] = false
starts_over window moment (entry ∷ entries) = is_over window moment entry.moment

-- all that came out did so before the moment
abbrev pub IsAfter : {K : Type 0} → ℕ → List (Arrival K) → Type 0
IsAfter moment arrivals = AllByRecursion (λ arrival. arrival.moment < moment) arrivals

-- The entries that are kept after these frames went in and those came out, of which none comes out before the floor any more.
pub record StandsAfter {K : Type 0} (same : K → K → Bool) (window floor : ℕ) (entries : List (Entry K)) (rows : List (Row K))
    (arrivals : List (Arrival K)) : Type 0 where
  pub pairing : IsPairing same window rows arrivals
  pub forgotten : List (Row K)
  pub kept : List (Row K)
  pub all : rows ≡ forgotten ++ kept
  pub over : AllByRecursion (λ row. is_over window floor row.moment ≡ true) forgotten
  pub entries_are : entries ≡ map entry_of kept

abbrev pub Stands : {K : Type 0} → (K → K → Bool) → Waiting K → ℕ → List (Row K) → List (Arrival K) → Type 0
Stands same waiting floor rows arrivals = StandsAfter same waiting.window floor waiting.queue.items rows arrivals
