use Rattle.std.proofs.Common.{◌-◌}
use Rattle.filter_workers.proofs.Drawing.{next_after}
use Rattle.worker_pool.specs.Shares.{IsShare}
use Rattle.worker_pool.proofs.posting.Posting.run.Given as goal

abbrev pub invariant-loop-self : goal.invariant-loop-self
invariant-loop-self g l =
    IsShare g.T.Task.len g.T.Task.is_batch l.self l.fn.share.seat.room (record { seat = l.seat; done = l.done; spares = l.spares })

abbrev pub decreases-loop-self : goal.decreases-loop-self
decreases-loop-self g l = l.self.desk.len - next_after l.seat.numbers
