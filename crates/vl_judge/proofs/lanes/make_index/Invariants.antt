-- The identifiers of the lanes from the place on have their places.
use Rattle.std.proofs.Common.{◌≡◌, ℕ, ◌+◌, ◌<◌, ◌≤◌, length, drop, get_or}
use Rattle.vl_judge.specs.declared.lane.Lane.{Lane}
use Rattle.vl_judge.specs.Lanes.{place_with}
use Rattle.vl_judge.proofs.lanes.make_index.Given as goal

abbrev pub invariant-loop-place : goal.invariant-loop-place
invariant-loop-place l = record {
  complete : length l.index.items ≡ 65536;
  fits : (k : ℕ) (lane : Lane) → l.place ≤ k → k < length l.lanes → (get_or l.lanes k lane).id.0 < 65536;
  places : (id : ℕ) → id < 65536 → get_or l.index.items id 0 ≡ l.place + place_with (drop l.place l.lanes) id;
}
