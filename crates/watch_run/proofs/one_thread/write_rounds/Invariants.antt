-- Rounds were read and written.
use Rattle.vl_config.specs.Document.{VlTable}
use Rattle.watch_run.specs.Run.{IsWatching}
use Rattle.tap_merge.specs.Taps.{work_left}
use Rattle.run_fault.specs.Opening.{WatchDevices}
use Rattle.watch_run.specs.Filters.{making_of}
use Rattle.watch_run.proofs.one_thread.write_rounds.Given as goal

abbrev pub invariant-loop-entries : goal.invariant-loop-entries
invariant-loop-entries g l = record {
  watching : (vl_table : VlTable) (before : WatchDevices) →
      IsWatching g.S.TapSource g.T.TapSource
      g.W.OutSink g.L.OutSink (making_of l.plan) vl_table before l.fn.taps l.fn.outputs →
      IsWatching g.S.TapSource g.T.TapSource
      g.W.OutSink g.L.OutSink (making_of l.plan) vl_table before l.taps l.outputs;
}

abbrev pub decreases-loop-entries : goal.decreases-loop-entries
decreases-loop-entries g l = work_left l.taps
