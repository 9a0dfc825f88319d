-- A run whose recordings have ended, once both rings are settled.
use Rattle.std.proofs.Common.{◌≡◌, inl, inr, ◌∷◌, [], ℕ, List, Option, Some, length, subst, Result, Ok, Err}
use Rattle.std.specs.Prelude.{IfErr, IfOk}
use Rattle.afdx_frame.specs.Frame.{Frame}
use Rattle.afdx_frame.specs.declared.key.Network.TheVariants.{A, B}
use Rattle.watch_run.specs.Filters.{Making}
use Rattle.ordered_merge.specs.Merge.{Tap}
use Rattle.pcap_io.specs.declared.recording.Ending.{Ending}
use Rattle.pcap_io.specs.Writer.{sink_of}
use Rattle.tap_queue.specs.Items.{frames_in}
use Rattle.tap_queue.specs.Ring.{taken_items}
use Rattle.tap_queue.specs.declared.item.TapItem.{TapItem}
use Rattle.tap_queue.specs.declared.item.TapItem.TheVariants as items
use Rattle.verdict_ledger.specs.Ledger.{sink_of as ledger_sink}
use Rattle.verdict_ledger.specs.declared.tally.Tally.{Tally}
use Rattle.vl_config.specs.Document.{VlTable}
use Rattle.watch_run.specs.Outputs.{IsFinished, SinkFails, StopsFinishing}
use Rattle.tap_merge.specs.Rings.{EndsWith, HasEnding, HasTaken, WhereFailed}
use Rattle.watch_run.specs.Running.{AbortsBegun, FailsAmong, IsRunning, StopsRunning}
use Rattle.run_fault.specs.Device.{SinkMembers, SinkView, SourceView, sink_at}
use Rattle.run_fault.specs.Opening.{FailsOnly, WatchDevices, watch_devices}
use Rattle.watch_run.specs.Watch.{IsRunFault, IsWatched}
use Rattle.watch_run.specs.Round.{IsFilterCount}
use Rattle.watch_run.proofs.Writing.{capture_all, first_all, lines_all, packets_all}
use Rattle.run_fault.specs.declared.fault.Output.TheVariants as output
use Rattle.run_fault.specs.declared.fault.WatchFault.{WatchFault}
use Rattle.run_fault.specs.declared.fault.WatchFault.TheVariants as watch
use Rattle.watch_run.specs.declared.outputs.Outputs.{Outputs}
use Rattle.tap_merge.specs.declared.rings.Rings.{Rings}
use Rattle.watch_run.proofs.Aborting.{IsTapBack}
use Rattle.watch_run.proofs.Returned.{Returned, StopsAtEnd, stopped_at_the_end, watched}
use Rattle.tap_merge.proofs.RingItems.{stops_with, takes_none}

-- ---- clauses of one result together

pub ok_with : {X E : Type 0} {P R T Q : X → Type 0} (r : Result X E) → IfOk r P → IfOk r R → IfOk r T → ((x : X) → P x → R x → T x → Q x) → IfOk r Q
ok_with (Ok x) p q t f = f x p q t
ok_with (Err e) p q t f = tt

pub err_with : {X E : Type 0} {P R Q : E → Type 0} (r : Result X E) → IfErr r P → IfErr r R → ((e : E) → P e → R e → Q e) → IfErr r Q
err_with (Ok x) p q f = tt
err_with (Err e) p q f = f e p q

-- ---- the recordings have ended

ending_taken : (end : Option Ending) (ending : Ending) (tap : Tap) (taken : List TapItem) → HasEnding end tap taken → end ≡ Some ending → EndsWith (items.End ending) taken
ending_taken end ending tap taken h is = (subst (λ (e : Option Ending). HasEnding e tap taken) is h).1

settled_return : (late : ℕ) (before after : WatchDevices) (rings : Rings) (settled_a : IsTapBack A late before.a (taken_items rings.a) after.a) (settled_b : IsTapBack B late before.b (taken_items rings.b) after.b) →
    Returned settled_a.reading settled_b.reading settled_a.ahead settled_b.ahead after
settled_return late before after rings settled_a settled_b = record {
  a_left = settled_a.leaves;
  b_left = settled_b.leaves;
  a_failures = settled_a.same_failures;
  b_failures = settled_b.same_failures;
}

pub finishes : (ps : Making) (vl_table : VlTable) (before after : WatchDevices) (rings : Rings) (cut : List Frame) (end_a end_b : Ending) (tally : Tally) →
    IsTapBack A vl_table.late before.a (taken_items rings.a) after.a → IsTapBack B vl_table.late before.b (taken_items rings.b) after.b → HasTaken vl_table.late cut rings →
    rings.end_a ≡ Some end_a → rings.end_b ≡ Some end_b → rings.merger.pending ≡ [] →
    IsFinished ps vl_table before.capture before.ledger after.capture after.ledger cut end_a end_b tally → IsFilterCount (length ps.filters) →
    IsWatched ps vl_table (end_a ∷ end_b ∷ []) tally before after
finishes ps vl_table before after rings cut end_a end_b tally settled_a settled_b h is_a is_b none f number =
    watched ps vl_table before after (frames_in (taken_items rings.a)) (frames_in (taken_items rings.b)) cut end_a end_b tally rings.merger settled_a.reading settled_b.reading
    settled_a.ahead settled_b.ahead (settled_return vl_table.late before after rings settled_a settled_b)
    (settled_a.run.ended end_a (ending_taken rings.end_a end_a rings.merger.a (taken_items rings.a) h.ended_a is_a))
    (settled_b.run.ended end_b (ending_taken rings.end_b end_b rings.merger.b (taken_items rings.b) h.ended_b is_b)) h.follows none f number

among : (f : WatchFault) (before after : WatchDevices) → FailsOnly f before after → IsRunFault f → FailsAmong f before after
among (watch.Read A) before after (a, b, c, l) run = (a, inl b, c, l)
among (watch.Read B) before after (a, b, c, l) run = (inl a, b, c, l)
among (watch.Write output.Capture) before after (a, b, c, l) run = (inl a, inl b, c, l)
among (watch.Write output.Ledger) before after (a, b, c, l) run = (inl a, inl b, c, l)
among watch.Memory before after (a, b, c, l) run = (inl a, inl b, c, l)
among watch.Spawn before after h run = absurd run
among watch.Workers before after h run = absurd run
among (watch.Header n f) before after h run = absurd run
among watch.RingLost before after h run = absurd run
among watch.Filters before after h run = absurd run

-- the end of a ledger is no source's
no_read : (P : Type 0) (c c' l l' : ℕ) (f : WatchFault) → SinkFails f c c' l l' → WhereFailed f P
no_read P c c' l l' (watch.Read network) fails = absurd fails
no_read P c c' l l' (watch.Write out) fails = tt
no_read P c c' l l' watch.Memory fails = tt
no_read P c c' l l' watch.RingLost fails = tt
no_read P c c' l l' watch.Workers fails = tt
no_read P c c' l l' (watch.Header network fault) fails = tt
no_read P c c' l l' watch.Spawn fails = tt
no_read P c c' l l' watch.Filters fails = tt

pub finish_aborts : (fault : WatchFault) (ps : Making) (vl_table : VlTable) (before : WatchDevices) (rings : Rings) (a b : SourceView) (capture ledger : SinkView)
    (cut : List Frame) (end_a end_b : Ending) →
    IsTapBack A vl_table.late before.a (taken_items rings.a) a → IsTapBack B vl_table.late before.b (taken_items rings.b) b → HasTaken vl_table.late cut rings →
    rings.end_a ≡ Some end_a → rings.end_b ≡ Some end_b → rings.merger.pending ≡ [] →
    StopsFinishing fault ps vl_table before.capture before.ledger capture ledger cut end_a end_b →
    AbortsBegun fault ps vl_table before (Some a) (Some b) capture ledger
finish_aborts fault ps vl_table before rings a b capture ledger cut end_a end_b settled_a settled_b h is_a is_b none s =
    inl (record { fails = among fault before (watch_devices a b capture ledger) aborts.fails aborts.run; run = aborts.run; stops = aborts.stops; safe = no_read _ _ _ _ _ fault s.fails })
  where
    aborts : StopsAtEnd fault ps vl_table before (watch_devices a b capture ledger) end_a end_b
    aborts = stopped_at_the_end fault ps vl_table before (watch_devices a b capture ledger) (frames_in (taken_items rings.a)) (frames_in (taken_items rings.b)) cut end_a end_b rings.merger
        settled_a.reading settled_b.reading settled_a.ahead settled_b.ahead (settled_return vl_table.late before (watch_devices a b capture ledger) rings settled_a settled_b)
        (settled_a.run.ended end_a (ending_taken rings.end_a end_a rings.merger.a (taken_items rings.a) h.ended_a is_a))
        (settled_b.run.ended end_b (ending_taken rings.end_b end_b rings.merger.b (taken_items rings.b) h.ended_b is_b)) h.follows none s

-- ---- a ring was lost at the end

pub lost_at_end : {W L : Type 0} (w : SinkMembers W) (l : SinkMembers L)
    (ps : Making) (vl_table : VlTable) (capture ledger : SinkView) (rings : Rings) (outputs : Outputs W L) →
    IsRunning w l ps vl_table capture ledger rings outputs →
    StopsRunning watch.RingLost ps vl_table capture ledger rings.a rings.b (sink_at w (sink_of outputs.capture)) (sink_at l (ledger_sink outputs.ledger))
lost_at_end w l ps vl_table capture ledger rings outputs running = record {
  cut = running.cut;
  taken = stops_with vl_table.late running.cut rings rings.a rings.b running.taken (takes_none rings.a) (takes_none rings.b);
  why = inr (record {
    packets = capture_all ps vl_table running.cut capture.contents (w.contents (sink_of outputs.capture)) running.written.packets;
    lines = lines_all ps vl_table running.cut ledger.contents (l.contents (ledger_sink outputs.ledger)) running.written.lines;
    packets_first = first_all ps vl_table running.cut capture.contents (w.contents (sink_of outputs.capture)) ledger.contents
        (l.contents (ledger_sink outputs.ledger)) running.written.packets
        (lines_all ps vl_table running.cut ledger.contents (l.contents (ledger_sink outputs.ledger)) running.written.lines);
    whole = inr (packets_all ps vl_table running.cut capture (sink_at w (sink_of outputs.capture)) running.written.packets);
    fails = (running.written.capture_failures, running.written.ledger_failures);
  });
  safe = tt;
}
