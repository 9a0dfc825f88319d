use Rattle.std.proofs.Common.{◌≡◌, ◌-◌, ◌≤◌, drop, take}
use Rattle.frame_batch.specs.Round.{draft_frames}
use Rattle.ordered_merge.specs.Copying.{both_left}
use Rattle.ordered_merge.specs.Cursor.{CanCopy, tap_left}
use Rattle.ordered_merge.specs.Order.{insert_frames}
use Rattle.ordered_merge.proofs.merger.merge_first.Given as goal

abbrev pub invariant-loop : goal.invariant-loop
invariant-loop l = record {
  frames : draft_frames l.draft ≡ take l.counter (insert_frames l.fn.b.frames l.fn.a.frames);
  rest : both_left l.a l.b ≡ drop l.counter (insert_frames l.fn.b.frames l.fn.a.frames);
  left_a : tap_left l.a ≡ drop l.of_a l.fn.a.frames;
  left_b : tap_left l.b ≡ drop (l.counter - l.of_a) l.fn.b.frames;
  few : l.of_a ≤ l.counter;
  can_a : CanCopy l.a l.draft;
  can_b : CanCopy l.b l.draft;
}
