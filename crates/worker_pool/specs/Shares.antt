-- The share of a round that a thread hands back.
use Rattle.std.specs.Prelude.{◌≡◌, ℕ, ◌*◌, ◌<◌, List, [], ◌++◌, map, All}
use Rattle.filter_workers.specs.Seats.{joined_seat}
use Rattle.worker_pool.specs.Chunks.{Posted, chunk_count, chunk_end}
use Rattle.worker_pool.specs.declared.share.Numbered.{Numbered}
use Rattle.worker_pool.specs.declared.share.Share.{Share}

-- the numbers of batches, in order
abbrev pub numbers_of : {B : Type 0} → List (Numbered B) → List ℕ
numbers_of {B} done = map (λ (d : Numbered B). d.number) done

-- the share of both seats: what the second did follows what the first did
abbrev pub AreJoined : {B : Type 0} → Share B → Share B → Share B → Type 0
AreJoined a b both =
    (both.seat ≡ joined_seat a.seat b.seat) × (both.done.items ≡ a.done.items ++ b.done.items)

-- a share with which nothing was done yet
abbrev pub IsFresh : {B : Type 0} → Share B → Type 0
IsFresh s = (s.seat.numbers ≡ []) × (s.done.items ≡ [])

module _ {T N B : Type 0} where
  -- the batch is that of the chunk of this number
  abbrev pub IsOfChunk : (T → N → ℕ) → (T → N → ℕ → ℕ → B → Type 0) → Posted T N → Numbered B → Type 0
  IsOfChunk len is p d =
      let from = d.number * p.size in
      (d.number < chunk_count p.size (len p.task p.round)) × is p.task p.round from (chunk_end p.size (len p.task p.round) from) d.batch

  -- A seat at the round's desk with this room, and the batch of each chunk whose number it drew.
  pub record IsShare (len : T → N → ℕ) (is : T → N → ℕ → ℕ → B → Type 0) (p : Posted T N) (room : ℕ) (s : Share B) : Type 0 where
    pub of_desk : s.seat.desk ≡ p.desk
    pub room_is : s.seat.room ≡ room
    pub numbers : numbers_of s.done.items ≡ s.seat.numbers
    pub batches : All (IsOfChunk len is p) s.done.items
