-- A recording (this project's profile).
use Rattle.std.specs.Prelude.{ℕ, List}
use Rattle.afdx_frame.specs.Frame.{Frame}
use Rattle.afdx_frame.specs.declared.key.Network.{Network}
use Rattle.ordered_merge.specs.Merge.{Tap, new_tap, AreOfTap}

-- A tap's recording: frames of the network, numbered from 0, with no timestamp further below the greatest one before it than `late`.
abbrev pub IsRecording : Network → ℕ → List Frame → Type 0
IsRecording network late l = (last : Tap) × AreOfTap network late new_tap l last
