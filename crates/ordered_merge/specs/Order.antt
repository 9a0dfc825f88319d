-- The one order of both taps' frames (this project's profile).
use Rattle.std.specs.Prelude.{◌≡◌, Bool, true, false, cond, List, [], ◌∷◌, ◌++◌, ⊤}
use Rattle.std.specs.List.{AllByRecursion}
use Rattle.std.specs.List.Sorted.{IsPermutation}
use Rattle.std.specs.Ordering.{is_lt}
use Rattle.std.specs.declared.cmp.Ordering.TheVariants.{Less}
use Rattle.afdx_frame.specs.Frame.{Frame, key_of, key_cmp}

-- the first frame's key is below the second's
abbrev pub is_before : Frame → Frame → Bool
is_before f g = is_lt (key_cmp (key_of f) (key_of g))

abbrev pub IsBefore : Frame → Frame → Type 0
IsBefore f g = key_cmp (key_of f) (key_of g) ≡ Less

-- each frame's key is below those of all that follow
abbrev pub IsRising : List Frame → Type 0
IsRising [] = ⊤
IsRising (f ∷ l) = AllByRecursion (IsBefore f) l × IsRising l

-- the frames of both lists, in rising order of their keys
pub record IsOrder (fa fb l : List Frame) : Type 0 where
  pub rising : IsRising l
  pub frames : IsPermutation (fa ++ fb) l

-- a list in order with one more frame, which goes before the first that it is before
abbrev pub insert_frame : Frame → List Frame → List Frame
insert_frame f [] = f ∷ []
insert_frame f (g ∷ l) = cond (is_before f g) (f ∷ g ∷ l) (g ∷ insert_frame f l)

-- a list in order with more frames
abbrev pub insert_frames : List Frame → List Frame → List Frame
insert_frames [] l = l
insert_frames (f ∷ fs) l = insert_frame f (insert_frames fs l)

-- The first frame of both lists, which are in order, is the first of `fs`.
abbrev pub leads : List Frame → List Frame → Bool
leads [] l = false
leads (f ∷ fs) [] = true
leads (f ∷ fs) (g ∷ l) = is_before f g
