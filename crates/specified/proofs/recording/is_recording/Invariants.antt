use Rattle.std.proofs.Common.{take}
use Rattle.ordered_merge.specs.Merge.{AreOfTap, new_tap}
use Rattle.specified.specs.Recording.{tap_at}
use Rattle.specified.proofs.recording.is_recording.Given as goal

abbrev pub invariant-loop-frame : goal.invariant-loop-frame
invariant-loop-frame l = AreOfTap l.network l.late new_tap (take l.frame-index l.frames) (tap_at l.next l.high)
