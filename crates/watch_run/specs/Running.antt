-- A run whose recordings are read by threads of their own: why it was aborted, and what it leaves.
use Rattle.std.specs.Prelude.{◌≡◌, ◌⊎◌, ℕ, Bool, true, false, List, [], ◌++◌, length, is_some, Option, Some, None, Result, Ok, IfOk, IfErr, ⊤}
use Rattle.std.specs.Io.KnownBytes.{Appends}
use Rattle.afdx_frame.specs.Frame.{Frame}
use Rattle.afdx_frame.specs.declared.key.Network.TheVariants.{A, B}
use Rattle.watch_run.specs.Filters.{Making, capture_by, lines_by}
use Rattle.ordered_merge.specs.Merge.{Follows, MergerState, safe_frames}
use Rattle.ordered_merge.specs.Order.{IsOrder}
use Rattle.ordered_merge.specs.Recording.{IsRecording as IsTapRecording}
use Rattle.pcap_io.specs.Device.{CountsFailure}
use Rattle.pcap_io.specs.Writer.{has_failed}
use Rattle.tap_queue.specs.Items.{frames_in}
use Rattle.tap_queue.specs.Ring.{SameEnd, has_lost, taken_items}
use Rattle.tap_queue.specs.declared.end.TapEnd.{TapEnd}
use Rattle.verdict_ledger.specs.Ledger.{has_failed as ledger_has_failed, sink_of as ledger_sink}
use Rattle.vl_config.specs.Document.{VlTable}
use Rattle.pcap_io.specs.Writer.{sink_of}
use Rattle.watch_run.specs.Outputs.{HasPacketsFirst, HasShared, HasWritten, StopsWriting, effect_of}
use Rattle.watch_run.specs.declared.shared.JudgedRound.{JudgedRound}
use Rattle.worker_pool.specs.Chunks.{Posted}
use Rattle.tap_merge.specs.Rings.{HasTaken, RingsFault, StopsTaking, WhereFailed}
use Rattle.run_fault.specs.Device.{SinkMembers, AppendsSome, SinkView, SourceView, sink_at}
use Rattle.run_fault.specs.Recording.{WasOpened}
use Rattle.run_fault.specs.Fault.{MayFail, CaptureSink, Fails, LedgerSink, SourceA, SourceB, names}
use Rattle.run_fault.specs.Opening.{AbortsAtOpening, WatchDevices, watch_devices}
use Rattle.watch_run.specs.Watch.{AbortsRun, IsRunFault, StopsRun}
use Rattle.watch_run.specs.Round.{IsFilterCount, IsWorkerCount}
use Rattle.run_fault.specs.declared.fault.WatchFault.{WatchFault}
use Rattle.run_fault.specs.declared.fault.WatchFault.TheVariants as watch
use Rattle.watch_run.specs.declared.outputs.Outputs.{Outputs}
use Rattle.watch_run.specs.declared.outputs.Unwritten.{Unwritten}
use Rattle.tap_merge.specs.declared.rings.Rings.{Rings}

-- ---- between the start of the threads and their end

-- All frames that were taken of the rings were merged; those that were cut, the first in order, were judged, filtered and written.
pub record IsRunning {W L : Type 0} (w : SinkMembers W) (l : SinkMembers L)
    (ps : Making) (vl_table : VlTable) (capture ledger : SinkView) (rings : Rings) (outputs : Outputs W L) : Type 0 where
  pub cut : List Frame
  pub taken : HasTaken vl_table.late cut rings
  pub written : HasWritten w l ps vl_table capture ledger cut outputs
  pub capture_going : has_failed outputs.capture ≡ false
  pub ledger_going : ledger_has_failed outputs.ledger ≡ false

-- As `IsRunning`, where the workers are at the last of these frames, which are still to be written.
pub record IsSharing {W L T : Type 0} (w : SinkMembers W) (l : SinkMembers L)
    (ps : Making) (vl_table : VlTable) (capture ledger : SinkView) (rings : Rings) (outputs : Outputs W L)
    (flight : Option (Posted T JudgedRound)) : Type 0 where
  pub cut : List Frame
  pub taken : HasTaken vl_table.late cut rings
  pub shared : HasShared w l ps vl_table capture ledger cut outputs flight
  pub capture_going : has_failed outputs.capture ≡ false
  pub ledger_going : ledger_has_failed outputs.ledger ≡ false

-- Both outputs have all that belongs to these frames, and no more.
pub record HasWholeRounds (ps : Making) (vl_table : VlTable) (cut : List Frame) (capture ledger capture' ledger' : SinkView) : Type 0 where
  pub packets : Appends capture.contents capture'.contents (capture_by ps vl_table cut)
  pub lines : Appends ledger.contents ledger'.contents (lines_by ps vl_table cut)
  pub capture_failures : capture'.failures ≡ capture.failures
  pub ledger_failures : ledger'.failures ≡ ledger.failures

-- Of the frames that were taken of the rings, none is safe that isn't among these.
pub record HasCutSafe (late : ℕ) (cut : List Frame) (a b : TapEnd) : Type 0 where
  pub merger : MergerState
  pub late_is : merger.late ≡ late
  pub follows : Follows merger (frames_in (taken_items a)) (frames_in (taken_items b)) cut
  pub none_safe : safe_frames merger ≡ []

-- The run stopped with these frames cut: by what was taken of the rings, or by what was written. Where a source failed, all safe ones were cut.
pub record StopsRunning (fault : WatchFault) (ps : Making) (vl_table : VlTable) (capture ledger : SinkView) (a b : TapEnd) (capture' ledger' : SinkView) : Type 0 where
  pub cut : List Frame
  pub taken : StopsTaking vl_table.late cut a b
  pub why : (RingsFault fault a b × HasWholeRounds ps vl_table cut capture ledger capture' ledger')
      ⊎ StopsWriting (effect_of fault) ps vl_table capture ledger capture' ledger' cut
  pub safe : WhereFailed fault (HasCutSafe vl_table.late cut a b)

-- The frames of the rings are dealt with so: the run goes on to the end of both recordings, or it stops.
pub record GoesOn {W L : Type 0} (w : SinkMembers W) (l : SinkMembers L)
    (ps : Making) (before : Rings) (outputs : Outputs W L) (after : Rings) (result : Result (Outputs W L) (Unwritten W L)) : Type 0 where
  pub same_a : SameEnd before.a after.a
  pub same_b : SameEnd before.b after.b
  pub running : IfOk result (λ written. (vl_table : VlTable) (capture ledger : SinkView) →
      IsRunning w l ps vl_table capture ledger before outputs → IsRunning w l ps vl_table capture ledger after written)
  pub ended : IfOk result (λ written. (is_some after.end_a ≡ true) × (is_some after.end_b ≡ true) × (after.merger.pending ≡ []))
  pub stopped : IfErr result (λ e. (vl_table : VlTable) (capture ledger : SinkView) →
      IsRunning w l ps vl_table capture ledger before outputs →
      StopsRunning e.fault ps vl_table capture ledger after.a after.b (sink_at w e.capture) (sink_at l e.ledger))

-- One round more is taken of the rings and handed to the workers, and the one before is written; or nothing was there, or the run stops.
pub record Steps {W L T : Type 0} (w : SinkMembers W) (l : SinkMembers L)
    (ps : Making) (before : Rings) (outputs : Outputs W L) (flight : Option (Posted T JudgedRound))
    (after : Rings) (outputs' : Outputs W L) (flight' : Option (Posted T JudgedRound)) (result : Result Bool WatchFault) : Type 0 where
  pub same_a : SameEnd before.a after.a
  pub same_b : SameEnd before.b after.b
  pub sharing : IfOk result (λ more. (vl_table : VlTable) (capture ledger : SinkView) →
      IsSharing w l ps vl_table capture ledger before outputs flight → IsSharing w l ps vl_table capture ledger after outputs' flight')
  pub ended : result ≡ Ok false → (is_some after.end_a ≡ true) × (is_some after.end_b ≡ true) × (after.merger.pending ≡ []) × (flight' ≡ None)
  pub stopped : IfErr result (λ fault. (vl_table : VlTable) (capture ledger : SinkView) →
      IsSharing w l ps vl_table capture ledger before outputs flight →
      StopsRunning fault ps vl_table capture ledger after.a after.b (sink_at w (sink_of outputs'.capture)) (sink_at l (ledger_sink outputs'.ledger)))

-- ---- all that is left of an aborted run

-- a source that is named failed once, and another may have
abbrev pub MayFailWhere : Bool → ℕ → ℕ → Type 0
MayFailWhere true old new = CountsFailure old new
MayFailWhere false old new = MayFail old new

-- The device that the fault names failed once, if it names one. No other sink did; a source may have, since of several faults one is told.
abbrev pub FailsAmong : WatchFault → WatchDevices → WatchDevices → Type 0
FailsAmong fault before after =
    MayFailWhere (names fault SourceA) before.a.failures after.a.failures × MayFailWhere (names fault SourceB) before.b.failures after.b.failures
    × Fails fault CaptureSink before.capture.failures after.capture.failures × Fails fault LedgerSink before.ledger.failures after.ledger.failures

-- both sources came back, and this holds of them
abbrev pub BothBack : Option SourceView → Option SourceView → (SourceView → SourceView → Type 0) → Type 0
BothBack (Some a) (Some b) P = P a b
BothBack _ _ P = ⊥

-- all frames were merged of the source that failed
abbrev pub HasMergedFailed : WatchFault → List Frame → List Frame → Type 0
HasMergedFailed (watch.Read A) more_a more_b = more_a ≡ []
HasMergedFailed (watch.Read B) more_a more_b = more_b ≡ []
HasMergedFailed fault more_a more_b = ⊤

-- The first so many frames of both recordings were merged, all of the one whose source failed. The outputs have what belongs to some of them, in
-- order, and none of the others is safe: each may come after a frame that was not read.
pub record WroteSafe (fault : WatchFault) (ps : Making) (vl_table : VlTable) (frames_a frames_b : List Frame) (before after : WatchDevices) : Type 0 where
  pub taken_a : List Frame
  pub taken_b : List Frame
  pub more_a : List Frame
  pub more_b : List Frame
  pub all_a : frames_a ≡ taken_a ++ more_a
  pub all_b : frames_b ≡ taken_b ++ more_b
  pub all_failed : HasMergedFailed fault more_a more_b
  pub written : List Frame
  pub merger : MergerState
  pub late_is : merger.late ≡ vl_table.late
  pub follows : Follows merger taken_a taken_b written
  pub none_safe : safe_frames merger ≡ []
  pub packets : Appends before.capture.contents after.capture.contents (capture_by ps vl_table written)
  pub lines : Appends before.ledger.contents after.ledger.contents (lines_by ps vl_table written)

-- a source comes back, unless an item of its ring was lost
abbrev pub ComesBack : {S : Type 0} → TapEnd → Option S → Type 0
ComesBack end None = has_lost end ≡ true
ComesBack end (Some source) = has_lost end ≡ false

-- the told fault of a run that is aborted: its own, unless an item of a ring was lost, and a source with it
abbrev pub fault_told : Bool → Bool → WatchFault → WatchFault
fault_told false false fault = fault
fault_told lost_a lost_b fault = watch.RingLost

-- why a run was aborted whose sources came back, and what it leaves
pub record AbortsRunning (fault : WatchFault) (ps : Making) (vl_table : VlTable) (before after : WatchDevices) : Type 0 where
  pub fails : FailsAmong fault before after
  pub run : IsRunFault fault
  pub stops : StopsRun fault ps vl_table before after
  pub safe : WhereFailed fault (WroteSafe fault ps vl_table stops.frames_a stops.frames_b before after)

-- The items of a ring were lost, and perhaps sources. The outputs have prefixes of what belongs to two recordings' frames in order, which
-- nothing ties to the sources.
pub record LosesRing (ps : Making) (vl_table : VlTable) (before : WatchDevices) (capture ledger : SinkView) : Type 0 where
  pub frames_a : List Frame
  pub frames_b : List Frame
  pub frames : List Frame
  pub tap_a : IsTapRecording A vl_table.late frames_a
  pub tap_b : IsTapRecording B vl_table.late frames_b
  pub order : IsOrder frames_a frames_b frames
  pub packets : AppendsSome before.capture.contents capture.contents (capture_by ps vl_table frames)
  pub lines : AppendsSome before.ledger.contents ledger.contents (lines_by ps vl_table frames)
  pub packets_first : HasPacketsFirst ps vl_table frames before.capture.contents capture.contents before.ledger.contents ledger.contents
  pub capture_failures : MayFail before.capture.failures capture.failures
  pub ledger_failures : MayFail before.ledger.failures ledger.failures

-- why a run was aborted once its taps were read
abbrev pub AbortsBegun : WatchFault → Making → VlTable → WatchDevices → Option SourceView → Option SourceView → SinkView → SinkView → Type 0
AbortsBegun fault ps vl_table before a b capture ledger =
    BothBack a b (λ x y. AbortsRunning fault ps vl_table before (watch_devices x y capture ledger))
    ⊎ ((fault ≡ watch.RingLost) × LosesRing ps vl_table before capture ledger)

-- why no thread was started: a recording wasn't opened, or one of the outputs wasn't begun or there was no memory for the rings, and then both
-- recordings were opened and no more was read of them
abbrev pub IsNotBegun : Making → VlTable → WatchFault → WatchDevices → WatchDevices → Type 0
IsNotBegun ps vl_table fault before after =
    AbortsAtOpening fault before after
    ⊎ (WasOpened before.a after.a × WasOpened before.b after.b × AbortsRun fault ps vl_table before after)

-- Why a run was aborted, and what it leaves. What is looked at first: the number of workers, that of filters, the recordings, A first.
abbrev pub IsRunningAborted : ℕ → Making → VlTable → WatchFault → WatchDevices → Option SourceView → Option SourceView → SinkView → SinkView → Type 0
IsRunningAborted workers ps vl_table fault before a b capture ledger =
    ((fault ≡ watch.Workers) × (IsWorkerCount workers → ⊥) × BothBack a b (λ x y. watch_devices x y capture ledger ≡ before))
    ⊎ ((fault ≡ watch.Filters) × IsWorkerCount workers × (IsFilterCount (length ps.filters) → ⊥) × BothBack a b (λ x y. watch_devices x y capture ledger ≡ before))
    ⊎ (IsWorkerCount workers × IsFilterCount (length ps.filters) × BothBack a b (λ x y. IsNotBegun ps vl_table fault before (watch_devices x y capture ledger)))
    ⊎ (IsWorkerCount workers × IsFilterCount (length ps.filters) × AbortsBegun fault ps vl_table before a b capture ledger)
