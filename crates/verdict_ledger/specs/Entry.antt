-- A line's entry (this project's profile): a frame, its verdict, and what the filters say of it.
use Rattle.std.specs.Prelude.{ℕ, List, [], ◌∷◌, Option}
use Rattle.afdx_frame.specs.Frame.{Frame}
use Rattle.vl_judge.specs.Judgement.{Judgement}

pub record Entry : Type 0 where
  pub frame : Frame
  pub verdict : Judgement
  -- how many bytes are kept, where a filter accepts the frame
  pub keep : Option ℕ
  -- bit i is set where filter i accepts the frame
  pub mask : ℕ

abbrev pub entry_with : Frame → Judgement → Option ℕ → ℕ → Entry
entry_with frame verdict keep mask = record { frame = frame; verdict = verdict; keep = keep; mask = mask }

-- the entries of lists of their parts, up to the end of the shortest
abbrev pub entries_of : List Frame → List Judgement → List (Option ℕ) → List ℕ → List Entry
entries_of (f ∷ fs) (v ∷ vs) (k ∷ ks) (m ∷ ms) = entry_with f v k m ∷ entries_of fs vs ks ms
entries_of _ _ _ _ = []
