-- It is the same ring's end.
use Rattle.tap_queue.specs.Ring.{SameEnd}
use Rattle.crate_tests.proofs.rings.take_most.Given as goal

abbrev pub invariant-loop : goal.invariant-loop
invariant-loop g l = SameEnd l.initial.end l.end
