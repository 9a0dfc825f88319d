use Rattle.std.proofs.Common.{◌≡◌}
use Rattle.std.specs.BTreeMap.{btree_map_len}
use Rattle.cut_run.specs.Places.{IsBelow}
use Rattle.cut_run.specs.Passed.{passed_at}
use Rattle.cut_run.specs.declared.place.SearchPlace.{SearchPlace}
use Rattle.cut_run.proofs.passed.forget_below.Given as goal

-- each entry that isn't below the place stands as at first
abbrev pub invariant-loop-place : goal.invariant-loop-place
invariant-loop-place l = (q : SearchPlace) → (IsBelow q l.place → ⊥) → passed_at l.passed q ≡ passed_at l.fn.passed q

abbrev pub decreases-loop-place : goal.decreases-loop-place
decreases-loop-place l = btree_map_len l.passed
