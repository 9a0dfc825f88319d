-- A run over two recordings, between the opening of its devices and their return.
use Rattle.std.specs.Prelude.{◌≡◌, false, List}
use Rattle.afdx_frame.specs.Frame.{Frame}
use Rattle.afdx_frame.specs.declared.key.Network.TheVariants.{A, B}
use Rattle.watch_run.specs.Filters.{Making, capture_by}
use Rattle.ordered_merge.specs.Order.{IsOrder}
use Rattle.pcap_io.specs.Position.{Reading}
use Rattle.pcap_io.specs.Writer.{has_failed}
use Rattle.verdict_ledger.specs.Ledger.{has_failed as ledger_has_failed}
use Rattle.vl_config.specs.Document.{VlTable}
use Rattle.watch_run.specs.Outputs.{HasWritten}
use Rattle.tap_merge.specs.Taps.{Agree, HasMerged, ReadsPart}
use Rattle.run_fault.specs.Device.{SourceMembers, SinkMembers, AppendsSome, SinkView, SourceView}
use Rattle.run_fault.specs.Opening.{FailsOnly, WatchDevices, watch_devices}
use Rattle.watch_run.specs.Watch.{HasFirstOfAll, HasLines, HasWholes, IsRunFault}
use Rattle.run_fault.specs.declared.fault.WatchFault.{WatchFault}
use Rattle.watch_run.specs.declared.outputs.Outputs.{Outputs}
use Rattle.tap_merge.specs.declared.taps.Taps.{Taps}

-- These frames were read, and those that were cut, the first in order, were judged, filtered and written.
pub record IsWatching {S T W L : Type 0} (s : SourceMembers S) (t : SourceMembers T)
    (w : SinkMembers W) (l : SinkMembers L)
    (ps : Making) (vl_table : VlTable) (before : WatchDevices) (taps : Taps S T) (outputs : Outputs W L) : Type 0 where
  pub frames_a : List Frame
  pub frames_b : List Frame
  pub cut : List Frame
  pub merged : HasMerged s t vl_table.late before.a before.b frames_a frames_b cut taps
  pub written : HasWritten w l ps vl_table before.capture before.ledger cut outputs
  pub agree : Agree taps
  pub capture_going : has_failed outputs.capture ≡ false
  pub ledger_going : ledger_has_failed outputs.ledger ≡ false

-- a reader as a source that gives what is left for it
abbrev pub reading_view : Reading → SourceView
reading_view reading = record { remaining = reading.remaining; failures = reading.failures; told = reading.told }

-- The run stopped after these frames, where its readers and sinks stand so.
pub record StopsWatching (fault : WatchFault) (ps : Making) (vl_table : VlTable) (before : WatchDevices) (a b : Reading) (capture ledger : SinkView) : Type 0 where
  pub frames_a : List Frame
  pub frames_b : List Frame
  pub frames : List Frame
  pub read_a : ReadsPart A vl_table.late before.a frames_a a
  pub read_b : ReadsPart B vl_table.late before.b frames_b b
  pub order : IsOrder frames_a frames_b frames
  pub packets : AppendsSome before.capture.contents capture.contents (capture_by ps vl_table frames)
  pub lines : HasLines ps vl_table before frames_a frames_b frames capture ledger
  pub wholes : HasWholes fault ps vl_table frames before.capture before.ledger capture ledger
  pub first : HasFirstOfAll ps vl_table before capture ledger
  pub fails : FailsOnly fault before (watch_devices (reading_view a) (reading_view b) capture ledger)
  pub run : IsRunFault fault
