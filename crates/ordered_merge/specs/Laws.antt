-- Laws of a merger's runs.
use Rattle.std.specs.Prelude.{◌≡◌, ℕ, true, List, [], ◌∷◌, ◌++◌}
use Rattle.std.specs.List.{flat_map}
use Rattle.afdx_frame.specs.Frame.{Frame}
use Rattle.afdx_frame.specs.declared.key.Network.TheVariants.{A, B}
use Rattle.ordered_merge.specs.Order.{IsOrder, IsRising}
use Rattle.ordered_merge.specs.Merge.{MergerState, CanFetch, Follows, new_state, fetched, ended, safe_frames, cut_frames, after_cut}

-- There is one order of two lists.
abbrev pub OneOrder : Type 0
OneOrder = (fa fb l m : List Frame) → IsOrder fa fb l → IsOrder fa fb m → l ≡ m

-- ---- each step of a run keeps what it follows

abbrev pub NewFollows : Type 0
NewFollows = (late : ℕ) → Follows (new_state late) [] [] []

abbrev pub FetchFollows : Type 0
FetchFollows = (s : MergerState) (fa fb out : List Frame) (f : Frame) → Follows s fa fb out → CanFetch s f
    → (f.network ≡ A → Follows (fetched s f) (fa ++ f ∷ []) fb out) × (f.network ≡ B → Follows (fetched s f) fa (fb ++ f ∷ []) out)

abbrev pub EndFollows : Type 0
EndFollows = (s : MergerState) (fa fb out : List Frame) → Follows s fa fb out → Follows (ended s A) fa fb out × Follows (ended s B) fa fb out

-- A cut moves its frames to the end of those cut before.
abbrev pub CutFollows : Type 0
CutFollows = (s : MergerState) (fa fb out : List Frame) (most : ℕ) → Follows s fa fb out → Follows (after_cut s most) fa fb (out ++ cut_frames s most)

-- Where no frame is pending, the cut ones are all that came, in order.
abbrev pub RunIsOrder : Type 0
RunIsOrder = (s : MergerState) (fa fb out : List Frame) → Follows s fa fb out → s.pending ≡ [] → IsOrder fa fb out

-- Where both networks have ended, each pending frame is safe.
abbrev pub EndedIsSafe : Type 0
EndedIsSafe = (s : MergerState) → s.a.ended ≡ true → s.b.ended ≡ true → safe_frames s ≡ s.pending

-- ---- cuts of any sizes

-- cuts one after another gave these rounds, and left the second state
abbrev pub Cuts : MergerState → List (List Frame) → MergerState → Type 0
Cuts s [] t = t ≡ s
Cuts s (round ∷ rounds) t = (most : ℕ) × (round ≡ cut_frames s most) × Cuts (after_cut s most) rounds t

abbrev pub joined : List (List Frame) → List Frame
joined rounds = flat_map (λ round. round) rounds

-- The rounds, one after another, and what stays are the frames that were pending. Rounds that leave no safe frame are the safe frames.
abbrev pub RoundsAreOneList : Type 0
RoundsAreOneList = (s t : MergerState) (rounds : List (List Frame)) → IsRising s.pending → Cuts s rounds t
    → (s.pending ≡ joined rounds ++ t.pending) × (safe_frames t ≡ [] → joined rounds ≡ safe_frames s)
