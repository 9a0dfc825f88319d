-- Frames that pass as a network's next.
use Rattle.std.specs.Prelude.{◌≡◌, ◌++◌, List, length}
use Rattle.afdx_frame.specs.Frame.{Frame}
use Rattle.tap_queue.specs.Items.{AreNextFrames, high_of}
use Rattle.tap_queue.specs.declared.next_frame.NextFrame.{NextFrame}

-- The frames follow those before, and what is required from now on is what follows both.
pub record PassesAll (before frames : List Frame) (old new : NextFrame) : Type 0 where
  pub next : AreNextFrames old.network old.late before frames
  pub number : new.number ≡ length (before ++ frames)
  pub high : new.high ≡ high_of (before ++ frames)
  pub network_is : new.network ≡ old.network
  pub late_is : new.late ≡ old.late
