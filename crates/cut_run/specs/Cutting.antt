-- A cut between its first line and its last (this project's profile).
use Rattle.std.specs.Prelude.{◌≡◌, ◌<◌, ◌≤◌, ℕ, true, false, List, [], ◌∷◌, ◌++◌, length, take, Option, None, Result, Ok, Err, ◌⊎◌}
use Rattle.std.specs.Io.KnownBytes.{Appends}
use Rattle.std.specs.List.{zip}
use Rattle.afdx_frame.specs.Frame.{Frame}
use Rattle.afdx_frame.specs.declared.key.Network.TheVariants.{A, B}
use Rattle.cut_run.specs.Finder.{finding_of}
use Rattle.ledger_text.specs.Ledger.{EndsAt, HasReadLines, ReadLine, ReadsLines, frame_lines}
use Rattle.ledger_text.specs.Lines.{unread_of}
use Rattle.ledger_text.specs.Reader.{source_of}
use Rattle.ledger_text.specs.declared.bounds.TheConstants.{BLOCK_LEN}
use Rattle.ledger_text.specs.declared.frame.FrameLine.{FrameLine}
use Rattle.ledger_text.specs.declared.order.LedgerStage.{LedgerStage}
use Rattle.ledger_text.specs.declared.order.LedgerStage.TheVariants as stages
use Rattle.ledger_text.specs.declared.reader.LedgerReader.{LedgerReader}
use Rattle.ledger_text.specs.Neighbours.{HasAsked, IsChosen}
use Rattle.packet_format.specs.Packets.{Format}
use Rattle.packet_format.specs.Writer.{format_in, has_failed, sink_of}
use Rattle.pcap_io.specs.Device.{AppendsPrefix, CountsFailure}
use Rattle.run_fault.specs.Device.{SinkMembers, SinkView, SourceMembers, SourceView}
use Rattle.run_fault.specs.Fault.{FailsWhere}
use Rattle.cut_run.specs.Cut.{CutDevices, HasWritten, IsLineFault, stop_of}
use Rattle.cut_run.specs.Faults.{LedgerSource, OutputSink, RecordingSource, names}
use Rattle.cut_run.specs.Lines.{AreFramesOf, AreSpread, Choice, IsFrameOf, IsTakenNext, Rise, TakesOf, is_read, read_lines, cut_capture, line_packet}
use Rattle.cut_run.specs.Naming.{HasNamed, IsNameFault, ReadsPart, opening_at}
use Rattle.cut_run.specs.declared.cut.CutEnding.{CutEnding}
use Rattle.cut_run.specs.declared.cut.Taking.{Taking}
use Rattle.cut_run.specs.declared.fault.CutFault.{CutFault}
use Rattle.cut_run.specs.declared.fault.CutFault.TheVariants as faults

-- These lines, but those that are passed over, named these frames, and the output has the capture of those that are taken.
pub record HasTaken {S T W : Type 0} (s : SourceMembers S) (t : SourceMembers T) (w : SinkMembers W) (format : Format) (choice : Choice) (a b : SourceView)
    (output : SinkView) (vs : List FrameLine) (fs : List Frame) (taken : List (FrameLine × Frame)) (frames_a frames_b : List Frame) (taking : Taking S T W) : Type 0 where
  pub found : List Frame
  pub named : HasNamed s t a b (read_lines choice.skips vs) found frames_a frames_b taking.recordings
  pub spread : AreSpread choice.skips vs found fs
  pub takes : TakesOf choice vs (zip vs fs) taken
  pub asked : HasAsked choice.selection choice.around vs taking.chooser
  pub written : Appends output.contents (w.contents (sink_of taking.output)) (cut_capture format taken)
  pub format_kept : format_in taking.output ≡ format
  pub going : has_failed taking.output ≡ false
  pub no_failure : w.failures (sink_of taking.output) ≡ output.failures

-- one more line
abbrev pub TakesMore : {S T W : Type 0} → SourceMembers S → SourceMembers T → SinkMembers W → Format → Choice → SourceView → SourceView → SinkView
    → List FrameLine → List Frame → FrameLine → Taking S T W → Type 0
TakesMore s t w format choice a b output vs fs v taking =
    (f : Frame) × (taken : List (FrameLine × Frame)) × (frames_a : List Frame) × (frames_b : List Frame)
    × HasTaken s t w format choice a b output (vs ++ v ∷ []) (fs ++ f ∷ []) taken frames_a frames_b taking

-- why a line stops a cut: its frame isn't found, or it is, and isn't written
abbrev pub IsTakeFault : CutFault → ℕ → SourceView → SourceView → List FrameLine → FrameLine → List Frame → List Frame → Type 0
IsTakeFault faults.Write n a b vs v frames_a frames_b = (f : Frame) × IsFrameOf frames_a frames_b v f
IsTakeFault fault n a b vs v frames_a frames_b = IsNameFault fault n a b vs v frames_a frames_b

-- The whole capture of what was taken was written. Where the sink failed, this line is taken too, and a prefix of its frame's packet was
-- written.
abbrev pub WritesUpTo : Format → Choice → CutFault → List Frame → List Frame → List FrameLine → FrameLine → List (FrameLine × Frame) → Option (List ℕ) → Option (List ℕ) → Type 0
WritesUpTo format choice faults.Write frames_a frames_b vs v taken before after =
    (f : Frame) × (part : ℕ) × IsTakenNext choice frames_a frames_b vs v f × (part < length (line_packet format v f))
    × Appends before after (cut_capture format taken ++ take part (line_packet format v f))
WritesUpTo format choice fault frames_a frames_b vs v taken before after = Appends before after (cut_capture format taken)

-- The lines before were cut, and this one stops the cut.
pub record StopsTaking {S T W : Type 0} (s : SourceMembers S) (t : SourceMembers T) (w : SinkMembers W) (format : Format) (choice : Choice) (a b : SourceView)
    (output : SinkView) (vs : List FrameLine) (fs : List Frame) (taken : List (FrameLine × Frame)) (v : FrameLine) (n : ℕ) (fault : CutFault) (taking : Taking S T W) : Type 0 where
  pub frames_a : List Frame
  pub frames_b : List Frame
  pub read_a : ReadsPart (opening_at A a) frames_a (finding_of s taking.recordings.a)
  pub read_b : ReadsPart (opening_at B b) frames_b (finding_of t taking.recordings.b)
  pub found : List Frame
  pub rise : Rise None (read_lines choice.skips vs)
  pub named : AreFramesOf frames_a frames_b (read_lines choice.skips vs) found
  pub spread : AreSpread choice.skips vs found fs
  pub takes : TakesOf choice vs (zip vs fs) taken
  pub read : is_read choice.skips v.network ≡ true
  pub why : IsTakeFault fault n a b (read_lines choice.skips vs) v frames_a frames_b
  pub written : WritesUpTo format choice fault frames_a frames_b vs v taken output.contents (w.contents (sink_of taking.output))
  pub a_failures : FailsWhere (names fault (RecordingSource A)) a.failures (finding_of s taking.recordings.a).reading.failures
  pub b_failures : FailsWhere (names fault (RecordingSource B)) b.failures (finding_of t taking.recordings.b).reading.failures
  pub output_failures : FailsWhere (names fault OutputSink) output.failures (w.failures (sink_of taking.output))

-- A call that writes the packet of a line's frame leaves the sink so. Where there was no memory for it, nothing was written.
abbrev pub WritesPacket : Format → FrameLine → Frame → Result (Unit {0}) CutFault → Option (List ℕ) → Option (List ℕ) → ℕ → ℕ → Type 0
WritesPacket format v f (Ok done) old new before after = Appends old new (line_packet format v f) × (after ≡ before)
WritesPacket format v f (Err faults.Write) old new before after = AppendsPrefix old new (line_packet format v f) × CountsFailure before after
WritesPacket format v f (Err faults.Memory) old new before after = (new ≡ old) × (after ≡ before)
WritesPacket format v f (Err fault) old new before after = ⊥

-- A line whose frame was found is written if it is chosen, and else left out.
abbrev pub WritesTaken : {S T W : Type 0} → SinkMembers W → Format → Choice → List FrameLine → FrameLine → Frame → Result (Unit {0}) CutFault → Taking S T W
    → Taking S T W → Type 0
WritesTaken w format choice before v f result old new =
    (IsChosen choice.selection choice.around before v
    × WritesPacket format v f result (w.contents (sink_of old.output)) (w.contents (sink_of new.output)) (w.failures (sink_of old.output)) (w.failures (sink_of new.output)))
    ⊎ ((IsChosen choice.selection choice.around before v → ⊥) × (result ≡ Ok tt) × (new.output ≡ old.output))

-- ---- the ledger beside it

-- These lines of the ledger were read, and their frames were taken.
pub record HasCut {L S T W : Type 0} (l : SourceMembers L) (s : SourceMembers S) (t : SourceMembers T) (w : SinkMembers W) (format : Format) (choice : Choice)
    (before : CutDevices) (rs : List ReadLine) (fs : List Frame) (taken : List (FrameLine × Frame)) (frames_a frames_b : List Frame) (ledger : LedgerReader L) (taking : Taking S T W) : Type 0 where
  pub read : HasReadLines l before.ledger.remaining before.ledger.failures rs ledger
  pub took : HasTaken s t w format choice before.a before.b before.output (frame_lines rs) fs taken frames_a frames_b taking

-- all lines of the ledger were cut
pub record EndsCut {L S T W : Type 0} (l : SourceMembers L) (s : SourceMembers S) (t : SourceMembers T) (w : SinkMembers W) (format : Format) (choice : Choice)
    (e : CutEnding) (before : CutDevices) (ledger : LedgerReader L) (taking : Taking S T W) : Type 0 where
  pub rs : List ReadLine
  pub stage : LedgerStage
  pub left : Option (List ℕ)
  pub fs : List Frame
  pub taken : List (FrameLine × Frame)
  pub frames_a : List Frame
  pub frames_b : List Frame
  pub lines : ReadsLines stages.Head before.ledger.remaining rs stage left
  pub took : HasTaken s t w format choice before.a before.b before.output (frame_lines rs) fs taken frames_a frames_b taking
  pub ends : EndsAt rs stage left (stop_of e)
  pub no_failure : l.failures (source_of ledger) ≡ before.ledger.failures

-- The cut stopped at the line after these.
pub record StopsCut {L S T W : Type 0} (l : SourceMembers L) (s : SourceMembers S) (t : SourceMembers T) (w : SinkMembers W) (format : Format) (choice : Choice)
    (fault : CutFault) (before : CutDevices) (ledger : LedgerReader L) (taking : Taking S T W) : Type 0 where
  pub rs : List ReadLine
  pub stage : LedgerStage
  pub left : Option (List ℕ)
  pub fs : List Frame
  pub taken : List (FrameLine × Frame)
  pub frames_a : List Frame
  pub frames_b : List Frame
  pub lines : ReadsLines stages.Head before.ledger.remaining rs stage left
  pub read_a : ReadsPart (opening_at A before.a) frames_a (finding_of s taking.recordings.a)
  pub read_b : ReadsPart (opening_at B before.b) frames_b (finding_of t taking.recordings.b)
  pub found : List Frame
  pub rise : Rise None (read_lines choice.skips (frame_lines rs))
  pub named : AreFramesOf frames_a frames_b (read_lines choice.skips (frame_lines rs)) found
  pub spread : AreSpread choice.skips (frame_lines rs) found fs
  pub takes : TakesOf choice (frame_lines rs) (zip (frame_lines rs) fs) taken
  pub why : length (unread_of ledger.lines) ≤ BLOCK_LEN → IsLineFault choice.skips fault before rs stage left (l.remaining (source_of ledger)) frames_a frames_b
  pub written : HasWritten format choice fault rs stage left frames_a frames_b taken before.output.contents (w.contents (sink_of taking.output))
  pub ledger_failures : FailsWhere (names fault LedgerSource) before.ledger.failures (l.failures (source_of ledger))
  pub a_failures : FailsWhere (names fault (RecordingSource A)) before.a.failures (finding_of s taking.recordings.a).reading.failures
  pub b_failures : FailsWhere (names fault (RecordingSource B)) before.b.failures (finding_of t taking.recordings.b).reading.failures
  pub output_failures : FailsWhere (names fault OutputSink) before.output.failures (w.failures (sink_of taking.output))
