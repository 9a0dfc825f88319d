-- A reply ring, and what it allows.
use Rattle.std.specs.Prelude.{ℕ, List, [], ◌∷◌, Option, Some, None, IfSome}
use Rattle.worker_pool.specs.Chunks.{Posted}
use Rattle.worker_pool.specs.Shares.{IsShare}
use Rattle.worker_pool.specs.declared.reply.Reply.{Reply}
use Rattle.worker_pool.specs.declared.reply.Reply.TheVariants.{Asked, Answered}

-- the task of a seat: claim chunks of this round, with this room
pub record Question (T N : Type 0) : Type 0 where
  pub posted : Posted T N
  pub room : ℕ

abbrev pub question : {T N : Type 0} → Posted T N → ℕ → Question T N
question posted room = record { posted = posted; room = room }

module _ {T N B : Type 0} where
  -- the question that was asked first
  abbrev pub asked_share : List (Reply T N B) → Option (Question T N)
  asked_share [] = None
  asked_share (Asked ask ∷ rest) = Some (question ask.posting.value ask.seat.value.room)
  asked_share (Answered s ∷ rest) = None

  -- a share is one of what was asked first
  abbrev pub Allows : (T → N → ℕ) → (T → N → ℕ → ℕ → B → Type 0) → List (Reply T N B) → Reply T N B → Type 0
  Allows len is before (Asked ask) = Unit {0}
  Allows len is before (Answered s) = IfSome (asked_share before) (λ q. IsShare len is q.posted q.room s)
