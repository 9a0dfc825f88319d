-- Items were merged.
use Rattle.std.proofs.Common.{◌≡◌, ℕ, List, None}
use Rattle.afdx_frame.specs.Frame.{Frame}
use Rattle.tap_queue.specs.Ring.{SameEnd}
use Rattle.tap_merge.specs.Rings.{HasTaken}
use Rattle.tap_merge.proofs.rings.Rings.merge_some.Given as goal

abbrev pub invariant-loop-item : goal.invariant-loop-item
invariant-loop-item g l = record {
  a : SameEnd l.fn.self.a l.self.a;
  b : SameEnd l.fn.self.b l.self.b;
  none : l.self.fault ≡ None;
  merged : (late : ℕ) (cut : List Frame) → HasTaken late cut l.fn.self → HasTaken late cut l.self;
}
