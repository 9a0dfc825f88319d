-- A merger: what it knows, which frames it may take and give, and what it has given along a whole run (this project's profile).
use Rattle.std.specs.Prelude.{◌≡◌, ℕ, ◌+◌, ◌≤◌, max, Bool, true, false, ◌||◌, ◌&&◌, nat_lt, nat_le, List, [], ◌∷◌, ◌++◌, length, take, drop, filter, Option, Some, None, ⊤}
use Rattle.std.specs.List.{AllByRecursion}
use Rattle.std.specs.Option.{ForSome, option_map_or}
use Rattle.afdx_frame.specs.Frame.{Frame}
use Rattle.afdx_frame.specs.declared.key.Network.{Network}
use Rattle.afdx_frame.specs.declared.key.Network.TheVariants.{A, B}
use Rattle.ordered_merge.specs.Order.{IsBefore, IsOrder, insert_frame}

-- The knowledge of a tap from its frames so far.
pub record Tap : Type 0 where
  -- no frame follows
  pub ended : Bool
  -- the number of the next frame
  pub next : ℕ
  -- the greatest timestamp
  pub high : Option ℕ

pub record MergerState : Type 0 where
  -- by how much a timestamp may lie below the greatest one of its tap before it
  pub late : ℕ
  -- the frames that came and weren't cut, in order
  pub pending : List Frame
  pub a : Tap
  pub b : Tap

abbrev pub new_tap : Tap
new_tap = record { ended = false; next = 0; high = None }

abbrev pub new_state : ℕ → MergerState
new_state late = record { late = late; pending = []; a = new_tap; b = new_tap }

abbrev pub tap_of : MergerState → Network → Tap
tap_of s A = s.a
tap_of s B = s.b

abbrev pub change_tap : (Tap → Tap) → Network → MergerState → MergerState
change_tap change A s = record s { a = change s.a }
change_tap change B s = record s { b = change s.b }

-- ---- frames that may come

-- the timestamp is no further below the tap's greatest one than is allowed
abbrev pub IsInTime : ℕ → Tap → Frame → Type 0
IsInTime late tap f = ForSome tap.high (λ high. high ≤ f.stamp + late)

-- The frame may come next of the tap, which is its own.
pub record IsNextOf (late : ℕ) (tap : Tap) (f : Frame) : Type 0 where
  pub going : tap.ended ≡ false
  pub number : f.number ≡ tap.next
  pub in_time : IsInTime late tap f

abbrev pub CanFetch : MergerState → Frame → Type 0
CanFetch s f = IsNextOf s.late (tap_of s f.network) f

-- The frame may come now or later.
pub record MayCome (s : MergerState) (f : Frame) : Type 0 where
  pub going : (tap_of s f.network).ended ≡ false
  pub number : (tap_of s f.network).next ≤ f.number
  pub in_time : IsInTime s.late (tap_of s f.network) f

abbrev pub highest : Option ℕ → ℕ → ℕ
highest high stamp = option_map_or (λ h. max h stamp) high stamp

-- past a frame of this timestamp
abbrev pub tap_after : ℕ → Tap → Tap
tap_after stamp tap = record { ended = tap.ended; next = tap.next + 1; high = Some (highest tap.high stamp) }

abbrev pub fetched : MergerState → Frame → MergerState
fetched s f = record (change_tap (tap_after f.stamp) f.network s) { pending = insert_frame f s.pending }

-- after frames, one after another
abbrev pub fetched_all : MergerState → List Frame → MergerState
fetched_all s [] = s
fetched_all s (f ∷ fs) = fetched_all (fetched s f) fs

-- The frames are of the network, and may come next, one after another.
abbrev pub CanFetchAll : Network → MergerState → List Frame → Type 0
CanFetchAll network s [] = ⊤
CanFetchAll network s (f ∷ fs) = (f.network ≡ network) × CanFetch s f × CanFetchAll network (fetched s f) fs

abbrev pub ended : MergerState → Network → MergerState
ended s network = change_tap (λ tap. record tap { ended = true }) network s

-- ---- the network to read next

-- no later than, where no moment is before each
abbrev pub is_no_later : Option ℕ → Option ℕ → Bool
is_no_later None m = true
is_no_later (Some h) None = false
is_no_later (Some h) (Some m) = nat_le h m

-- The network has not ended, and of those its greatest timestamp is the least; of two alike it is A.
abbrev pub IsWanted : MergerState → Network → Type 0
IsWanted s A = (s.a.ended ≡ false) × (s.b.ended ≡ false → is_no_later s.a.high s.b.high ≡ true)
IsWanted s B = (s.b.ended ≡ false) × (s.a.ended ≡ false → is_no_later s.a.high s.b.high ≡ false)

abbrev pub Wants : MergerState → Option Network → Type 0
Wants s (Some network) = IsWanted s network
Wants s None = (s.a.ended ≡ true) × (s.b.ended ≡ true)

-- ---- safe frames

-- The tap gives no frame of a timestamp below the moment less what is allowed.
abbrev pub reaches : ℕ → Tap → Bool
reaches moment tap = tap.ended || option_map_or (λ high. nat_le moment high) tap.high false

-- The tap gives no frame of a timestamp at or below it.
abbrev pub passes : ℕ → Tap → Bool
passes moment tap = tap.ended || option_map_or (λ high. nat_lt moment high) tap.high false

-- No frame that may still come has a key below the frame's: its own tap and the other one are so far that none of an earlier timestamp
-- follows, nor, for a frame of B, one of A of the same timestamp.
abbrev pub is_safe_of : Network → MergerState → ℕ → Bool
is_safe_of A s moment = reaches moment s.a && reaches moment s.b
is_safe_of B s moment = reaches moment s.b && passes moment s.a

abbrev pub is_safe : MergerState → Frame → Bool
is_safe s f = is_safe_of f.network s (f.stamp + s.late)

-- the safe frames, in order
abbrev pub safe_frames : MergerState → List Frame
safe_frames s = filter (is_safe s) s.pending

-- the first safe frames, at most so many
abbrev pub cut_frames : MergerState → ℕ → List Frame
cut_frames s most = take most (safe_frames s)

-- without the first frames that are pending
abbrev pub without_first : ℕ → MergerState → MergerState
without_first n s = record s { pending = drop n s.pending }

-- after a cut: the others stay
abbrev pub after_cut : MergerState → ℕ → MergerState
after_cut s most = without_first (length (cut_frames s most)) s

-- ---- a whole run

-- the frames of a tap's recording so far: the network, the number and the timestamp of each fit what came before it
abbrev pub AreOfTap : Network → ℕ → Tap → List Frame → Tap → Type 0
AreOfTap network late tap [] last = (tap.next ≡ last.next) × (tap.high ≡ last.high)
AreOfTap network late tap (f ∷ l) last =
    (f.network ≡ network) × (f.number ≡ tap.next) × IsInTime late tap f × AreOfTap network late (tap_after f.stamp tap) l last

-- A run has fetched these frames of A and of B, and has cut `out`.
pub record Follows (s : MergerState) (fa fb out : List Frame) : Type 0 where
  pub order : IsOrder fa fb (out ++ s.pending)
  pub a : AreOfTap A s.late new_tap fa s.a
  pub b : AreOfTap B s.late new_tap fb s.b
  -- the frames that were cut lie below each that may still come
  pub below : (f : Frame) → MayCome s f → AllByRecursion (λ g. IsBefore g f) out
  pub safe : AllByRecursion (λ g. is_safe s g ≡ true) out
