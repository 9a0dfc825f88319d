-- Frames of several blocks, in the order in which they are judged (this project's profile).
use Rattle.std.specs.Prelude.{◌≡◌, ℕ, ◌<◌, List, [], length, map, get_or}
use Rattle.afdx_frame.specs.Frame.{Frame}
use Rattle.frame_batch.specs.Batch.{IsRecordOf, record_frame}
use Rattle.frame_batch.specs.declared.draft.Placed.{Placed}

pub record DraftState : Type 0 where
  pub blocks : List (List ℕ)
  pub places : List Placed

-- the bytes of the block of an index
abbrev pub IsBlockAt : List (List ℕ) → ℕ → List ℕ → Type 0
IsBlockAt blocks k bytes = (k < length blocks) × (get_or blocks k [] ≡ bytes)

-- the frame stands in one of the blocks
abbrev pub IsPlaced : List (List ℕ) → Placed → Type 0
IsPlaced blocks p = (p.block < length blocks) × IsRecordOf (get_or blocks p.block []) p.entry

abbrev pub placed_frame : List (List ℕ) → Placed → Frame
placed_frame blocks p = record_frame (get_or blocks p.block []) p.entry

-- the frames, in order
abbrev pub draft_frames : DraftState → List Frame
draft_frames d = map (placed_frame d.blocks) d.places
