-- How a round is cut into chunks, and the batches of its chunks (this project's profile).
use Rattle.std.specs.Prelude.{◌≡◌, ℕ, ◌+◌, ◌*◌, ◌/◌, ◌<◌, min, max, List, [], ◌∷◌}
use Rattle.std.specs.Int.{div_ceil}
use Rattle.filter_workers.specs.Seats.{DeskId}
use Rattle.filter_workers.specs.declared.desk.TheConstants.{MAX_NUMBERS}

-- A round as its workers share it: with what is done, the desk at which the numbers of its chunks are claimed, and how
-- many items a chunk has.
pub record Posted (T N : Type 0) : Type 0 where
  pub task : T
  pub round : N
  pub desk : DeskId
  pub size : ℕ

abbrev pub posted : {T N : Type 0} → T → N → DeskId → ℕ → Posted T N
posted task round desk size = record { task = task; round = round; desk = desk; size = size }

-- how many items a chunk of at most so many has of a round of len items that so many threads share
abbrev pub chunk_size : ℕ → ℕ → ℕ → ℕ
chunk_size most threads len = max (min (len / (2 * threads)) most) 1

-- how many chunks of this size there are of len items
abbrev pub chunk_count : ℕ → ℕ → ℕ
chunk_count size len = div_ceil len size

-- a round of len items that so many threads share has more chunks than a desk has numbers
abbrev pub IsTooLong : ℕ → ℕ → ℕ → Type 0
IsTooLong most threads len = MAX_NUMBERS < chunk_count (chunk_size most threads len) len

-- the number after the last item of the chunk that begins with this one
abbrev pub chunk_end : ℕ → ℕ → ℕ → ℕ
chunk_end size len from = min (from + size) len

-- Batches of chunks of this size, one after another from an item on: each begins where the one before ends, and the last
-- one ends with the last item. Only the last may have fewer items than the others.
abbrev pub AreBatches : {B : Type 0} → (ℕ → ℕ → B → Type 0) → ℕ → ℕ → ℕ → List B → Type 0
AreBatches is size len from [] = from ≡ len
AreBatches is size len from (b ∷ bs) =
    (from < len) × is from (chunk_end size len from) b × AreBatches is size len (chunk_end size len from) bs
