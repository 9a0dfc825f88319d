-- A round that workers are at (this project's profile).
use Rattle.std.specs.Prelude.{◌≡◌, ℕ, Some}
use Rattle.std.specs.Option.{option_map_or}
use Rattle.rtrb.specs.Ring.{received}
use Rattle.worker_pool.specs.Chunks.{Posted}
use Rattle.worker_pool.specs.Replies.{Question, asked_share, question}
use Rattle.worker_pool.specs.declared.flight.Waiting.{Waiting}

module _ {T N B : Type 0} where
  -- the room of the seat that the worker was asked to claim with
  abbrev pub room_asked : Waiting T N B → ℕ
  room_asked w = option_map_or (λ (q : Question T N). q.room) (asked_share (received w.replies)) 0

  -- the worker was asked for a share of this round
  abbrev pub IsAsked : Posted T N → Waiting T N B → Type 0
  IsAsked p w = asked_share (received w.replies) ≡ Some (question p (room_asked w))

-- the view of a pool: what it was started for, how many threads share a round, the calling one among them, and the most items of
-- a chunk
pub record PoolView (T : Type 0) : Type 0 where
  pub task : T
  pub threads : ℕ
  pub most : ℕ
