-- The ring was looked at.
use Rattle.std.proofs.Common.{◌≡◌}
use Rattle.rtrb.specs.Ring.{SameConsumer, received}
use Rattle.tap_queue.proofs.end.wait_for_batch.Given as goal

abbrev pub invariant-loop : goal.invariant-loop
invariant-loop g l = record {
  same : SameConsumer l.fn.consumer l.consumer;
  taken : received l.consumer ≡ received l.fn.consumer;
}
