-- The frames of both taps are copied in their one order (this project's profile).
use Rattle.std.specs.Prelude.{◌≡◌, ℕ, ◌-◌, ◌<◌, ◌≤◌, ◌++◌, List, drop, length, take}
use Rattle.afdx_frame.specs.Frame.{Frame}
use Rattle.frame_batch.specs.Round.{DraftState, draft_frames}
use Rattle.ordered_merge.specs.Cursor.{CanCopy, tap_left}
use Rattle.ordered_merge.specs.Order.{insert_frames}
use Rattle.ordered_merge.specs.declared.cursor.TapCursor.{TapCursor}

-- the frames that are left of both
abbrev pub both_left : TapCursor → TapCursor → List Frame
both_left a b = insert_frames (tap_left b) (tap_left a)

-- A frame is left, and both may go on.
pub record CanCopyBoth (a b : TapCursor) (draft : DraftState) : Type 0 where
  pub some : 0 < length (both_left a b)
  pub of_a : CanCopy a draft
  pub of_b : CanCopy b draft

-- The first frame that was left of both is copied: one of A or none, and else one of B.
pub record Copies (of_a : ℕ) (a b : TapCursor) (draft : DraftState) (a2 b2 : TapCursor) (draft2 : DraftState) : Type 0 where
  pub frames : draft_frames draft2 ≡ draft_frames draft ++ take 1 (both_left a b)
  pub rest : both_left a2 b2 ≡ drop 1 (both_left a b)
  pub left_a : tap_left a2 ≡ drop of_a (tap_left a)
  pub left_b : tap_left b2 ≡ drop (1 - of_a) (tap_left b)
  pub few : of_a ≤ 1
  pub can_a : CanCopy a2 draft2
  pub can_b : CanCopy b2 draft2
