-- The decisions are those on the frames before the index.
use Rattle.std.proofs.Common.{◌≡◌, take}
use Rattle.specified.specs.Filters.{decisions_by}
use Rattle.specified.proofs.filters.filter_round.Given as goal

abbrev pub invariant-loop-index : goal.invariant-loop-index
invariant-loop-index l = l.decisions.items ≡ decisions_by l.programs (take l.index l.frames)
