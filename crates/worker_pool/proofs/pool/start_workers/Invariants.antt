use Rattle.std.proofs.Common.{◌<◌, max, vec_len}
use Rattle.worker_pool.proofs.pool.start_workers.Given as goal

abbrev pub invariant-loop-thread : goal.invariant-loop-thread
invariant-loop-thread g l = record { count : vec_len l.started < l._thread; few : vec_len l.started < max l.workers 1 }
