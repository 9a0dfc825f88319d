-- The word of the filters from the index on.
use Rattle.std.proofs.Common.{◌≡◌, ◌-◌, ◌<◌, ◌^◌, drop, length}
use Rattle.filter_workers.specs.Filters.{answer_by, mask_by}
use Rattle.filter_workers.proofs.decision.filter_frame.Given as goal

abbrev pub invariant-loop-index : goal.invariant-loop-index
invariant-loop-index l = record {
  mask : l.mask ≡ mask_by (drop l.index l.programs) l.frame;
  answer : l.answer ≡ answer_by (drop l.index l.programs) l.frame;
  small : l.mask < 2 ^ (length l.programs - l.index);
}
