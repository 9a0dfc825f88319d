-- Runs of selected lines of a link, and which lines are near them. Lines stand for their ordinals among the link's.
use Rattle.std.specs.Prelude.{ℕ, ◌+◌, ◌<◌, ◌≤◌, ◌⊎◌, ◌↔◌, List, length, slice_index_or}
use Rattle.ledger_text.specs.declared.link_runs.Run.{Run}

-- the lines that a run begins and ends with; 0 past the last run
abbrev pub no_run : Run
no_run = record { first = 0; last = 0 }

abbrev pub first_at : List Run → ℕ → ℕ
first_at runs i = (slice_index_or runs i no_run).first

abbrev pub last_at : List Run → ℕ → ℕ
last_at runs i = (slice_index_or runs i no_run).last

-- no run ends before it begins, and each ends before the next ones begin
pub record AreApart (runs : List Run) : Type 0 where
  pub order : (i : ℕ) → i < length runs → first_at runs i ≤ last_at runs i
  pub apart : (i j : ℕ) → i < j → j < length runs → last_at runs i < first_at runs j

-- all runs end before this line
abbrev pub AllBefore : List Run → ℕ → Type 0
AllBefore runs n = (i : ℕ) → i < length runs → last_at runs i < n

-- two lines are no further apart than that
abbrev pub IsWithin : ℕ → ℕ → ℕ → Type 0
IsWithin around m n = (n ≤ m + around) × (m ≤ n + around)

-- a line is no further than that from one of the runs
abbrev pub Covers : ℕ → List Run → ℕ → Type 0
Covers around runs n = (i : ℕ) × (i < length runs) × (first_at runs i ≤ n + around) × (n ≤ last_at runs i + around)

-- Runs with one more selected line: they cover what they did and the lines near it.
pub record HasAdded (around : ℕ) (old : List Run) (ordinal : ℕ) (new : List Run) : Type 0 where
  pub apart : AreApart new
  pub before : AllBefore new (ordinal + 1)
  pub covers : (n : ℕ) → Covers around new n ↔ (Covers around old n ⊎ IsWithin around ordinal n)

-- The next line is this one. It is past the first runs, and not past the others.
pub record StandsAt (around : ℕ) (runs : List Run) (n next : ℕ) : Type 0 where
  pub past : (i : ℕ) → i < next → i < length runs → last_at runs i + around < n
  pub ahead : (i : ℕ) → next ≤ i → i < length runs → n ≤ last_at runs i + around
