-- The rule of a desk's table (this project's profile): what is so between any two steps of its threads, however they run.
use Rattle.std.specs.Prelude.{◌≡◌, ℕ, ◌+◌, ◌-◌, ◌/◌, ◌<◌, ◌≤◌, ◌==◌, min, Bool, true, false, ◌||◌, if◌then◌else◌, nat_lt, List, [], ◌∷◌, ◌++◌, length, slice_index, All}
use mathlib.Core.Option.{some}
use lib.ListN.{get_elem?}
use Rattle.atomic_table.specs.Table.{State, Step, Me}
use Rattle.filter_workers.specs.declared.desk.TheConstants.{DESK_SEATS, MAX_NUMBERS}
use Rattle.filter_workers.specs.declared.view.SeatView.{SeatView}

-- the sum of f over a list
abbrev pub total : {A : Type 0} → (A → ℕ) → List A → ℕ
total f [] = 0
total f (x ∷ xs) = f x + total f xs

-- how often k stands in a list
abbrev pub times : ℕ → List ℕ → ℕ
times k = total (λ x. if x == k then 1 else 0)

-- 1 for a number below n
abbrev pub once_below : ℕ → ℕ → ℕ
once_below n k = if nat_lt k n then 1 else 0

-- the room of a seat that has found no number left
abbrev pub through_room : SeatView → ℕ
through_room v = if v.through then v.room else 0

-- A seat's knowledge of the desk: it is through only where the word is past the last number. A view with no room is that
-- of a seat that was joined into another.
pub record IsSeat (len word : ℕ) (v : SeatView) : Type 0 where
  pub of_desk : 0 < v.room → v.len ≡ len
  pub none_left : v.through ≡ true → len ≤ word
  pub empty : v.room ≡ 0 → v.numbers ≡ []

-- The word is the next number. Each number below it and below len stands once on all seats' lists together, and no other
-- stands there. The rooms add up to that of a desk. Where the word is past len, each further step made a seat through.
pub record AreClaims (len word : ℕ) (views : List SeatView) : Type 0 where
  pub once : (k : ℕ) → total (λ v. times k v.numbers) views ≡ once_below (min word len) k
  pub rooms : total (λ v. v.room) views ≡ DESK_SEATS
  pub past : word ≤ len + total through_room views
  pub seats : (id : ℕ) (v : SeatView) → get_elem? views id ≡ some v → IsSeat len word v

-- a desk of at most MAX_NUMBERS numbers has one word
pub record Keeps (len : ℕ) (s : State (Unit {0}) SeatView) : Type 0 where
  pub small : len ≤ MAX_NUMBERS
  pub one_word : length s.words ≡ 1
  pub claims : AreClaims len (slice_index s.words 0) s.views

-- ---- all that the steps do to a seat's view

abbrev pub seat_view : List ℕ → ℕ → Bool → ℕ → SeatView
seat_view numbers room through len = record { numbers = numbers; room = room; through = through; len = len }

abbrev pub first_view : ℕ → SeatView
first_view len = seat_view [] DESK_SEATS false len

-- the view of a seat that was joined into another
abbrev pub spent : SeatView
spent = seat_view [] 0 false 0

-- a seat that finds the word at n draws n, or finds that no number is left
abbrev pub after_draw : SeatView → ℕ → SeatView
after_draw v n =
    if nat_lt n v.len then seat_view (v.numbers ++ n ∷ []) v.room v.through v.len
    else seat_view v.numbers v.room true v.len

-- a draw, and that a number drawn is above all that the seat drew
abbrev pub Draws : Step (Unit {0}) → Me (Unit {0}) SeatView → ℕ → Me (Unit {0}) SeatView → Type 0
Draws step before n after =
    (after ≡ (after_draw before.0 n, before.1)) × (n < before.0.len → All (λ x. x < n) before.0.numbers)

-- a load changes no view, and shows that a seat has no more room than there is
abbrev pub Looks : Step (Unit {0}) → Me (Unit {0}) SeatView → ℕ → Me (Unit {0}) SeatView → Type 0
Looks step before n after = (after ≡ before) × (before.0.room ≤ DESK_SEATS)

abbrev pub keeps_half : SeatView → SeatView
keeps_half v = seat_view v.numbers (v.room - v.room / 2) v.through v.len

abbrev pub other_half : SeatView → SeatView
other_half v = seat_view [] (v.room / 2) v.through v.len

abbrev pub joined : SeatView → SeatView → SeatView
joined v w = seat_view (v.numbers ++ w.numbers) (v.room + w.room) (v.through || w.through) v.len
