-- Rounds were taken, shared and written.
use Rattle.std.proofs.Common.{◌≡◌}
use Rattle.std.specs.Prelude.{IfSome}
use Rattle.vl_config.specs.Document.{VlTable}
use Rattle.tap_queue.specs.Ring.{SameEnd}
use Rattle.watch_run.specs.Feeds.{KeepFeeding}
use Rattle.watch_run.specs.Running.{IsRunning, IsSharing}
use Rattle.run_fault.specs.Device.{SinkView}
use Rattle.watch_run.specs.Filters.{making_of}
use Rattle.watch_run.proofs.running.write_rounds.Given as goal

abbrev pub invariant-loop : goal.invariant-loop
invariant-loop g l = record {
  pool : l.pool ≡ l.fn.pool;
  task : IfSome l.flight (λ p. p.task ≡ l.fn.pool.task);
  feeding : KeepFeeding g.S.TapSource g.T.TapSource l.fn.feeds l.feeds;
  a : SameEnd l.fn.rings.a l.rings.a;
  b : SameEnd l.fn.rings.b l.rings.b;
  running : (vl_table : VlTable) (capture ledger : SinkView) →
      IsRunning g.W.OutSink g.L.OutSink (making_of l.fn.pool.task.plan) vl_table capture ledger l.fn.rings l.fn.outputs →
      IsSharing g.W.OutSink g.L.OutSink (making_of l.fn.pool.task.plan) vl_table capture ledger l.rings l.outputs l.flight;
}
