-- A whole run over two recordings: what it leaves, and why it was aborted (this project's profile).
use Rattle.std.specs.Prelude.{◌≡◌, ◌⊎◌, ℕ, List, [], ◌∷◌, length, take, Some, IfSome, ⊤}
use Rattle.std.specs.Io.KnownBytes.{Appends}
use Rattle.afdx_frame.specs.Frame.{Frame}
use Rattle.afdx_frame.specs.declared.key.Network.TheVariants.{A, B}
use Rattle.watch_run.specs.Filters.{Making, capture_by, entries_by, ledger_by, lines_by}
use Rattle.ordered_merge.specs.Order.{IsOrder}
use Rattle.pcap_io.specs.declared.recording.Ending.{Ending}
use Rattle.verdict_ledger.specs.Ledger.{IsTallyOf}
use Rattle.verdict_ledger.specs.declared.tally.Tally.{Tally}
use Rattle.vl_config.specs.Document.{VlTable}
use Rattle.run_fault.specs.Recording.{IsRecording}
use Rattle.run_fault.specs.declared.fault.WatchFault.{WatchFault}
use Rattle.run_fault.specs.declared.fault.Output.TheVariants as output
use Rattle.run_fault.specs.declared.fault.WatchFault.TheVariants as watch
use Rattle.run_fault.specs.Device.{AppendsSome, SinkView}
use Rattle.run_fault.specs.Recording.{IsReadPart, IsReadWhole}
use Rattle.watch_run.specs.Outputs.{HasPackets, HasPacketsFirst, IsWholeAfter}
use Rattle.watch_run.specs.Round.{IsFilterCount}
use Rattle.run_fault.specs.Opening.{AbortsAtOpening, FailsOnly, WatchDevices}

-- ---- a whole run

-- Both recordings were read to their endings. The capture is that of all their frames in the one order, the ledger has a line for
-- each, with the verdicts along that order, and the tally has the counts of all of them and of each link's.
pub record IsWatched (ps : Making) (vl_table : VlTable) (endings : List Ending) (tally : Tally) (before after : WatchDevices) : Type 0 where
  pub filters : IsFilterCount (length ps.filters)
  pub a : Ending
  pub b : Ending
  pub endings_are : endings ≡ a ∷ b ∷ []
  pub frames_a : List Frame
  pub frames_b : List Frame
  pub frames : List Frame
  pub read_a : IsReadWhole A vl_table.late before.a after.a frames_a a
  pub read_b : IsReadWhole B vl_table.late before.b after.b frames_b b
  pub order : IsOrder frames_a frames_b frames
  pub capture : Appends before.capture.contents after.capture.contents (capture_by ps vl_table frames)
  pub ledger : Appends before.ledger.contents after.ledger.contents (ledger_by ps vl_table frames a b)
  pub counts : IsTallyOf (entries_by ps vl_table frames) tally
  pub capture_failures : after.capture.failures ≡ before.capture.failures
  pub ledger_failures : after.ledger.failures ≡ before.ledger.failures

-- ---- an aborted run

-- both recordings have ended so
pub record HaveEnded (late : ℕ) (before : WatchDevices) (frames_a frames_b : List Frame) (a b : Ending) : Type 0 where
  pub a_complete : IfSome before.a.remaining (λ bytes. IsRecording A late before.a.told bytes frames_a a)
  pub b_complete : IfSome before.b.remaining (λ bytes. IsRecording B late before.b.told bytes frames_b b)

-- The ledger has a prefix of the frames' lines, and no line whose packet the capture lacks; or, where both recordings had ended and the capture is complete, of its whole text.
abbrev pub HasLines : Making → VlTable → WatchDevices → List Frame → List Frame → List Frame → SinkView → SinkView → Type 0
HasLines ps vl_table before frames_a frames_b frames capture ledger =
    (AppendsSome before.ledger.contents ledger.contents (lines_by ps vl_table frames)
    × HasPacketsFirst ps vl_table frames before.capture.contents capture.contents before.ledger.contents ledger.contents)
    ⊎ ((a b : Ending) × HaveEnded vl_table.late before frames_a frames_b a b × Appends before.capture.contents capture.contents (capture_by ps vl_table frames)
    × AppendsSome before.ledger.contents ledger.contents (ledger_by ps vl_table frames a b))

-- Where a recording's source failed, the outputs have all that belongs to the first so many frames, and no part of a packet or a line. Where the
-- ledger can't be written, the capture has whole packets, and at least its file header: it is begun first. Where memory is missing, it has whole
-- packets, or nothing yet.
abbrev pub HasWholes : WatchFault → Making → VlTable → List Frame → SinkView → SinkView → SinkView → SinkView → Type 0
HasWholes (watch.Read network) ps vl_table frames capture ledger capture' ledger' =
    (n : ℕ) × Appends capture.contents capture'.contents (capture_by ps vl_table (take n frames))
    × Appends ledger.contents ledger'.contents (lines_by ps vl_table (take n frames))
HasWholes (watch.Write output.Ledger) ps vl_table frames capture ledger capture' ledger' = HasPackets ps vl_table frames capture capture'
HasWholes watch.Memory ps vl_table frames capture ledger capture' ledger' = IsWholeAfter watch.Memory ps vl_table frames capture capture'
HasWholes fault ps vl_table frames capture ledger capture' ledger' = ⊤

-- Of recordings whose bytes are known, whatever was read: each output has a prefix of what belongs to all their frames.
abbrev pub HasFirstOfAll : Making → VlTable → WatchDevices → SinkView → SinkView → Type 0
HasFirstOfAll ps vl_table before capture ledger =
    (bytes_a bytes_b : List ℕ) (frames_a frames_b frames : List Frame) (a b : Ending) → before.a.remaining ≡ Some bytes_a → before.b.remaining ≡ Some bytes_b →
    IsRecording A vl_table.late before.a.told bytes_a frames_a a → IsRecording B vl_table.late before.b.told bytes_b frames_b b → IsOrder frames_a frames_b frames →
    AppendsSome before.capture.contents capture.contents (capture_by ps vl_table frames)
    × AppendsSome before.ledger.contents ledger.contents (ledger_by ps vl_table frames a b)

-- The run stopped after these frames. Each output has a prefix of what belongs to them.
pub record StopsRun (fault : WatchFault) (ps : Making) (vl_table : VlTable) (before after : WatchDevices) : Type 0 where
  pub frames_a : List Frame
  pub frames_b : List Frame
  pub frames : List Frame
  pub read_a : IsReadPart A vl_table.late before.a after.a frames_a
  pub read_b : IsReadPart B vl_table.late before.b after.b frames_b
  pub order : IsOrder frames_a frames_b frames
  pub capture : AppendsSome before.capture.contents after.capture.contents (capture_by ps vl_table frames)
  pub ledger : HasLines ps vl_table before frames_a frames_b frames after.capture after.ledger
  pub wholes : HasWholes fault ps vl_table frames before.capture before.ledger after.capture after.ledger
  pub first : HasFirstOfAll ps vl_table before after.capture after.ledger

-- the faults of a run that has begun
abbrev pub IsRunFault : WatchFault → Type 0
IsRunFault (watch.Read network) = ⊤
IsRunFault (watch.Write out) = ⊤
IsRunFault watch.Memory = ⊤
IsRunFault fault = ⊥

-- why a run that had begun was aborted, and what it leaves
abbrev pub AbortsRun : WatchFault → Making → VlTable → WatchDevices → WatchDevices → Type 0
AbortsRun fault ps vl_table before after = FailsOnly fault before after × IsRunFault fault × StopsRun fault ps vl_table before after

-- why a run was aborted, and what it leaves: the number of filters is the first thing that is looked at
abbrev pub IsWatchAborted : Making → VlTable → WatchFault → WatchDevices → WatchDevices → Type 0
IsWatchAborted ps vl_table fault before after =
    ((fault ≡ watch.Filters) × (IsFilterCount (length ps.filters) → ⊥) × (after ≡ before))
    ⊎ (IsFilterCount (length ps.filters) × (AbortsAtOpening fault before after ⊎ AbortsRun fault ps vl_table before after))
