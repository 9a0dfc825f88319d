-- Queues side by side: each keeps the frames of one lane. A row's place is that of its lane; a row without a key is in no queue.
use Rattle.std.specs.Prelude.{ℕ, suc, ◌==◌, Bool, false, not, List, [], ◌∷◌, ◌++◌, Option, Some, None, is_some, cond, count_by}
use Rattle.transit_match.specs.declared.waiting.Entry.{Entry}
use Rattle.transit_match.specs.Pairing.{Row}

-- two keys, of which none is that of a frame without one
abbrev pub same_some : {K : Type 0} → (K → K → Bool) → Option K → Option K → Bool
same_some same (Some a) (Some b) = same a b
same_some same _ _ = false

-- the entry of a frame that went in at this place, by its key
abbrev pub entry_in : {K : Type 0} → ℕ → ℕ → Row (Option K) → Option K → List (Entry K)
entry_in lane place row None = []
entry_in lane place row (Some key) =
    cond (row.place == lane) (record { moment = row.moment; place = place; key = key; taken = is_some row.partner } ∷ []) []

-- the entries of a lane: each has the place of its row, of which the first has the one given
abbrev pub lane_entries : {K : Type 0} → ℕ → ℕ → List (Row (Option K)) → List (Entry K)
lane_entries lane place [] = []
lane_entries lane place (row ∷ rows) = entry_in lane place row row.key ++ lane_entries lane (suc place) rows

-- how many entries aren't taken
abbrev pub free_of : {K : Type 0} → List (Entry K) → ℕ
free_of entries = count_by (λ entry. not entry.taken) entries

-- an entry by a part of its key
abbrev pub by_key : {K L : Type 0} → (K → L) → Entry K → Entry L
by_key f entry = record { moment = entry.moment; place = entry.place; key = f entry.key; taken = entry.taken }
