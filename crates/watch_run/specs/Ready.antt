-- A run that is ready to start its threads, and what it comes to.
use Rattle.std.specs.Prelude.{◌≡◌, ℕ, false, [], length, None, Result, MatchResult}
use Rattle.std.specs.Option.{option_map}
use Rattle.afdx_frame.specs.declared.key.Network.TheVariants.{A, B}
use Rattle.watch_run.specs.Filters.{Making}
use Rattle.pcap_io.specs.Reader.{reading_of}
use Rattle.pcap_io.specs.Writer.{has_failed}
use Rattle.tap_queue.specs.Ring.{IsRing, late_of, network_of, put_items, taken_items}
use Rattle.tap_queue.specs.declared.end.TapEnd.{TapEnd}
use Rattle.tap_queue.specs.declared.ring.TapPut.{TapPut}
use Rattle.verdict_ledger.specs.Ledger.{has_failed as ledger_has_failed}
use Rattle.vl_config.specs.Document.{VlTable}
use Rattle.watch_run.specs.Outputs.{HasWritten}
use Rattle.tap_merge.specs.Rings.{HasTaken}
use Rattle.watch_run.specs.Running.{AbortsBegun}
use Rattle.tap_merge.specs.Threads.{IsStarted, promise_of}
use Rattle.watch_run.specs.declared.running.Running.{Running}
use Rattle.run_fault.specs.Device.{SourceMembers, SinkMembers, sink_at, source_at}
use Rattle.watch_run.specs.Round.{IsFilterCount}
use Rattle.watch_run.specs.Watch.{IsWatched}
use Rattle.run_fault.specs.Opening.{WatchDevices, devices_at}
use Rattle.run_fault.specs.declared.refused.WatchRefused.{WatchRefused}
use Rattle.watch_run.specs.declared.outputs.Outputs.{Outputs}
use Rattle.tap_merge.specs.declared.taps.Taps.{Taps}
use Rattle.watch_run.specs.declared.threads.Ready.{Ready}
use Rattle.watch_run.specs.declared.one_thread.Watched.{Watched}

-- both rings are new, and their ends belong together
pub record AreNew {S T W L : Type 0} (ready : Ready S T W L) : Type 0 where
  pub ring_a : IsRing ready.put_a ready.rings.a
  pub ring_b : IsRing ready.put_b ready.rings.b
  pub none_a : put_items ready.put_a ≡ []
  pub none_b : put_items ready.put_b ≡ []

-- Both recordings were opened and both outputs begun; no frame was read.
pub record IsReady {S T W L : Type 0} (s : SourceMembers S) (t : SourceMembers T)
    (w : SinkMembers W) (l : SinkMembers L)
    (ps : Making) (vl_table : VlTable) (before : WatchDevices) (ready : Ready S T W L) : Type 0 where
  pub a : IsStarted A vl_table.late before.a (reading_of s.remaining s.failures s.told ready.a)
  pub b : IsStarted B vl_table.late before.b (reading_of t.remaining t.failures t.told ready.b)
  pub taken : HasTaken vl_table.late [] ready.rings
  pub written : HasWritten w l ps vl_table before.capture before.ledger [] ready.outputs
  pub capture_going : has_failed ready.outputs.capture ≡ false
  pub ledger_going : ledger_has_failed ready.outputs.ledger ≡ false

-- a run that was started from this: its taps' readers are read into its rings
pub record IsStartedOf {S T W L : Type 0} (ready : Ready S T W L) (running : Running S T) : Type 0 where
  pub rings : running.rings ≡ ready.rings
  pub a : (promise_of running.feeds.a).reader.value ≡ ready.a
  pub b : (promise_of running.feeds.b).reader.value ≡ ready.b
  pub put_a : (promise_of running.feeds.a).put.value ≡ ready.put_a
  pub put_b : (promise_of running.feeds.b).put.value ≡ ready.put_b

-- the outcome of a run that was ready
abbrev pub Runs : {S T W L : Type 0} → SourceMembers S → SourceMembers T
    → SinkMembers W → SinkMembers L
    → Making → Ready S T W L → Result (Watched S T W L) (WatchRefused S T W L) → Type 0
Runs s t w l ps ready result =
    (vl_table : VlTable) (before : WatchDevices) → IsFilterCount (length ps.filters)
    → IsReady s t w l ps vl_table before ready
    → MatchResult result
    (λ done. IsWatched ps vl_table done.endings done.tally before
    (devices_at s t w l done.a done.b done.capture done.ledger))
    (λ refused. AbortsBegun refused.fault ps vl_table before
    (option_map (source_at s) refused.a) (option_map (source_at t) refused.b)
    (sink_at w refused.capture) (sink_at l refused.ledger))

-- new rings of networks A and B
pub record AreTwoRings (late : ℕ) (ends : (TapPut × TapEnd) × (TapPut × TapEnd)) : Type 0 where
  pub ring_a : IsRing ends.0.0 ends.0.1
  pub ring_b : IsRing ends.1.0 ends.1.1
  pub none_a : put_items ends.0.0 ≡ []
  pub none_b : put_items ends.1.0 ≡ []
  pub none_taken_a : taken_items ends.0.1 ≡ []
  pub none_taken_b : taken_items ends.1.1 ≡ []
  pub network_a : network_of ends.0.1 ≡ A
  pub network_b : network_of ends.1.1 ≡ B
  pub late_a : late_of ends.0.1 ≡ late
  pub late_b : late_of ends.1.1 ≡ late

-- all that is ready, by its parts
abbrev pub ready_of : {S T W L : Type 0} → TapPut → TapEnd → TapPut → TapEnd → Taps S T → Outputs W L → Ready S T W L
ready_of put_a a put_b b taps outputs = record {
  a = taps.a;
  b = taps.b;
  put_a = put_a;
  put_b = put_b;
  rings = record { a = a; b = b; merger = taps.merger; end_a = taps.end_a; end_b = taps.end_b; fault = None };
  outputs = outputs;
}
