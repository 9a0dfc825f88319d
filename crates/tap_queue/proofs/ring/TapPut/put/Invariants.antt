-- Nothing was put so far.
use Rattle.std.proofs.Common.{◌≡◌}
use Rattle.tap_queue.specs.Ring.{SamePut, put_items}
use Rattle.tap_queue.proofs.ring.TapPut.put.Given as goal

abbrev pub invariant-loop : goal.invariant-loop
invariant-loop g l = record {
  ring : SamePut l.initial.self l.self;
  put : put_items l.self ≡ put_items l.initial.self;
  same : l.batch ≡ l.initial.batch;
}
