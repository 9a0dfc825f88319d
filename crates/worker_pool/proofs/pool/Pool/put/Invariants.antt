use Rattle.std.proofs.Common.{◌≡◌}
use Rattle.worker_pool.proofs.pool.Pool.put.Given as goal

abbrev pub invariant-loop-worker : goal.invariant-loop-worker
invariant-loop-worker g l = l.flight ≡ l.initial.flight
