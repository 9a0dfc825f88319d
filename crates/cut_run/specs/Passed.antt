-- The frames that were passed, by their places, and what becomes of them (this project's profile).
use Rattle.std.specs.Prelude.{◌≡◌, ℕ, List, Option, None, Some, slice_get}
use Rattle.std.specs.BTreeMap.{BTreeMap, get}
use Rattle.afdx_frame.specs.Frame.{Frame}
use Rattle.cut_run.specs.Places.{IsAbove, IsBelow, place_cmp, place_of}
use Rattle.cut_run.specs.declared.place.SearchPlace.{SearchPlace}

-- the frame that was kept at this place
abbrev pub passed_at : BTreeMap SearchPlace Frame → SearchPlace → Option Frame
passed_at passed q = get place_cmp passed q

-- none below the place stays, and the others do
abbrev pub Forgets : SearchPlace → BTreeMap SearchPlace Frame → BTreeMap SearchPlace Frame → Type 0
Forgets place old new =
    ((q : SearchPlace) → IsBelow q place → passed_at new q ≡ None) × ((q : SearchPlace) → (IsBelow q place → ⊥) → passed_at new q ≡ passed_at old q)

-- none at the place stays, and the others do
abbrev pub Takes : SearchPlace → BTreeMap SearchPlace Frame → BTreeMap SearchPlace Frame → Type 0
Takes place old new =
    (passed_at new place ≡ None) × ((q : SearchPlace) → (q ≡ place → ⊥) → passed_at new q ≡ passed_at old q)

-- the frame is kept where it is later than the place, and the others stay
abbrev pub KeepsLater : SearchPlace → Frame → BTreeMap SearchPlace Frame → BTreeMap SearchPlace Frame → Type 0
KeepsLater place f old new =
    (IsBelow place (place_of f) → passed_at new (place_of f) ≡ Some f)
    × ((q : SearchPlace) → (q ≡ place_of f → IsBelow place q → ⊥) → passed_at new q ≡ passed_at old q)

-- Exactly those of the frames are kept whose places are above the last one that was asked for.
pub record AreKept (frames : List Frame) (floor : Option SearchPlace) (passed : BTreeMap SearchPlace Frame) : Type 0 where
  -- each that is kept is the frame of its index
  pub read : (q : SearchPlace) (f : Frame) → passed_at passed q ≡ Some f → (place_of f ≡ q) × (slice_get frames q.number ≡ Some f) × IsAbove floor q
  pub all : (n : ℕ) (f : Frame) → slice_get frames n ≡ Some f → IsAbove floor (place_of f) → passed_at passed (place_of f) ≡ Some f
