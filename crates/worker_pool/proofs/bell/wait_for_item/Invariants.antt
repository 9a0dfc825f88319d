use Rattle.std.proofs.Common.{◌≡◌}
use Rattle.rtrb.specs.Ring.{received}
use Rattle.worker_pool.proofs.bell.wait_for_item.Given as goal

abbrev pub invariant-loop : goal.invariant-loop
invariant-loop g l = received l.ring ≡ received l.initial.ring
