-- The first frame that went in, once its window is over.
use Rattle.std.specs.Prelude.{ℕ, List, [], ◌∷◌, Option, Some, None, drop, cond}
use Rattle.transit_match.specs.declared.waiting.Entry.{Entry}
use Rattle.transit_match.specs.Waiting.{starts_over}

abbrev pub first_key : {K : Type 0} → List (Entry K) → Option K
first_key [] = None
first_key (entry ∷ entries) = Some entry.key

-- its key, where its window ended before the moment
abbrev pub key_over : {K : Type 0} → ℕ → ℕ → List (Entry K) → Option K
key_over window moment entries = cond (starts_over window moment entries) (first_key entries) None

-- the entries without it, where its window ended before the moment
abbrev pub without_over : {K : Type 0} → ℕ → ℕ → List (Entry K) → List (Entry K)
without_over window moment entries = cond (starts_over window moment entries) (drop 1 entries) entries
