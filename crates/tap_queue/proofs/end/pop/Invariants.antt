-- Nothing was taken so far.
use Rattle.std.proofs.Common.{◌≡◌}
use Rattle.rtrb.specs.Ring.{SameConsumer, received}
use Rattle.tap_queue.proofs.end.pop.Given as goal

abbrev pub invariant-loop : goal.invariant-loop
invariant-loop g l = record {
  ring : SameConsumer l.initial.consumer l.consumer;
  taken : received l.consumer ≡ received l.initial.consumer;
}
