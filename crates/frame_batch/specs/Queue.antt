-- Batches that wait, one after another (this project's profile).
use Rattle.std.specs.Prelude.{ℕ, List, length, slice_get, Option, Some, None, Bool, nat_lt, ⊤}
use Rattle.std.specs.List.{flat_map}
use Rattle.std.specs.Option.{ForSome, option_map_or}
use Rattle.afdx_frame.specs.Frame.{Frame}
use Rattle.frame_batch.specs.Batch.{BatchState, batch_frames}
use Rattle.frame_batch.specs.Round.{IsBlockAt}

-- the frames of the batches, in order
abbrev pub queue_frames : List BatchState → List Frame
queue_frames batches = flat_map batch_frames batches

-- how many frames the batch of an index has, where there is one
abbrev pub count_in : List BatchState → ℕ → ℕ
count_in batches k = option_map_or (λ b. length b.left) (slice_get batches k) 0

-- The block of this index is that of the batch of that index.
abbrev pub IsBlockOf : List (List ℕ) → List BatchState → ℕ → Option ℕ → Type 0
IsBlockOf blocks batches k None = ⊤
IsBlockOf blocks batches k (Some block) =
    ForSome (slice_get batches k) (λ b. IsBlockAt blocks block b.block)

-- the frame came before this moment
abbrev pub comes_below : ℕ → Frame → Bool
comes_below bound f = nat_lt f.stamp bound
