-- The pending frames of one tap (this project's profile): a queue of those that came in order, and a list in order of those that came late.
use Rattle.std.specs.Prelude.{◌≡◌, ℕ, ◌+◌, ◌^◌, ◌<◌, Bool, false, List, [], ◌∷◌, nat_lt, ◌-◌, length, slice_get, Result, Ok, Err, ⊤}
use Rattle.std.specs.List.{AllByRecursion}
use Rattle.std.specs.Option.{option_map_or}
use Rattle.afdx_frame.specs.Frame.{Frame}
use Rattle.frame_batch.specs.Batch.{BatchState, batch_frames}
use Rattle.ordered_merge.specs.Order.{is_before, IsRising, insert_frame, insert_frames}
use Rattle.ordered_merge.specs.Merge.{Tap, tap_after}

pub record BufferState : Type 0 where
  pub tap : Tap
  -- in order
  pub frames : List Frame

-- the frames of both, in order
abbrev pub buffered : List Frame → List Frame → List Frame
buffered queue late = insert_frames late queue

abbrev pub pushed : BufferState → Frame → BufferState
pushed s f = record { tap = tap_after f.stamp s.tap; frames = insert_frame f s.frames }

-- after frames, one after another
abbrev pub pushed_all : BufferState → List Frame → BufferState
pushed_all s [] = s
pushed_all s (f ∷ fs) = pushed_all (pushed s f) fs

-- The numbers count on from the first.
abbrev pub AreNumbered : ℕ → List Frame → Type 0
AreNumbered next [] = ⊤
AreNumbered next (f ∷ fs) = (f.number ≡ next) × AreNumbered (next + 1) fs

-- The number is below the next one, and the timestamp fits 63 bits, as each frame's does.
abbrev pub IsKept : ℕ → Frame → Type 0
IsKept next f = (f.number < next) × (f.stamp < 2 ^ 63)

-- Each is in order, and so are both together.
pub record IsBuffer (queue late : List Frame) (next : ℕ) : Type 0 where
  pub queue_rises : IsRising queue
  pub late_rises : IsRising late
  pub rises : IsRising (buffered queue late)
  pub queue_kept : AllByRecursion (IsKept next) queue
  pub late_kept : AllByRecursion (IsKept next) late

-- all that is left of a batch, some first frames of which were taken
abbrev pub left_after : Result (Unit {0}) BatchState → List Frame
left_after (Ok done) = []
left_after (Err batch) = batch_frames batch

-- the frame's key is below that of the queue's last
abbrev pub is_late : List Frame → Frame → Bool
is_late queue f = option_map_or (is_before f) (slice_get queue (length queue - 1)) false

-- each frame comes after the one before it, or is the first
abbrev pub AreInOrder : List Frame → Type 0
AreInOrder [] = ⊤
AreInOrder (f ∷ []) = ⊤
AreInOrder (f ∷ g ∷ l) = (is_before g f ≡ false) × AreInOrder (g ∷ l)

-- none of the frames comes late after the queue
abbrev pub NoneLate : List Frame → List Frame → Type 0
NoneLate queue [] = ⊤
NoneLate queue (f ∷ l) = (is_late queue f ≡ false) × AreInOrder (f ∷ l)

-- the timestamp is below the bound
abbrev pub is_below : ℕ → Frame → Bool
is_below bound f = nat_lt f.stamp bound
