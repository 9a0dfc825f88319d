-- The print of a ledger's lines, and why it was aborted (this project's format).
use Rattle.std.specs.Prelude.{◌≡◌, ◌≢◌, ◌⊎◌, ℕ, true, ◌<◌, ◌≤◌, List, [], ◌∷◌, ◌++◌, length, flat_map, take, Option, None, Some, Result, Ok, Err, ⊤}
use Rattle.std.specs.Io.KnownBytes.{Appends}
use Rattle.afdx_frame.specs.Frame.{Frame}
use Rattle.afdx_frame.specs.declared.bounds.TheConstants.{MAX_SNAPLEN}
use Rattle.afdx_frame.specs.declared.key.Network.{Network}
use Rattle.afdx_frame.specs.declared.key.Network.TheVariants.{A, B}
use Rattle.cut_run.specs.Finder.{any_late, finder_source, finding_of}
use Rattle.ledger_text.specs.Ledger.{EndsAt, HasReadLines, ReadLine, ReadsLines, TakesLine, frame_lines}
use Rattle.ledger_text.specs.Lines.{unread_of}
use Rattle.ledger_text.specs.Reader.{source_of}
use Rattle.ledger_text.specs.declared.bounds.TheConstants.{BLOCK_LEN}
use Rattle.ledger_text.specs.declared.frame.FrameLine.{FrameLine}
use Rattle.ledger_text.specs.declared.order.LedgerLine.{LedgerLine}
use Rattle.ledger_text.specs.declared.order.LedgerLine.TheVariants as lines
use Rattle.ledger_text.specs.declared.order.LedgerStage.{LedgerStage}
use Rattle.ledger_text.specs.declared.order.LedgerStage.TheVariants as stages
use Rattle.ledger_text.specs.declared.reader.LedgerReader.{LedgerReader}
use Rattle.ledger_text.specs.Neighbours.{HasAsked, IsChosen}
use Rattle.pcap_io.specs.Device.{Writes}
use Rattle.run_fault.specs.Device.{SinkMembers, SinkView, SourceMembers, SourceView, sink_at, source_at}
use Rattle.run_fault.specs.Fault.{FailsWhere}
use Rattle.run_fault.specs.Recording.{IsReadPart}
use Rattle.cut_run.specs.Cut.{CutDevices, FailsInLine, IsBadNext, IsLineFault, IsUnopened, StopsAfter, stop_of}
use Rattle.cut_run.specs.Cutting.{IsTakeFault}
use Rattle.cut_run.specs.Faults.{LedgerSource, OutputSink, RecordingSource, names}
use Rattle.cut_run.specs.Lines.{AreFramesOf, Choice, Chooses, Rise, TakesOf, is_read, read_lines}
use Rattle.cut_run.specs.Naming.{HasNamed, ReadsPart, opening_at}
use Rattle.cut_run.specs.declared.cut.CutEnding.{CutEnding}
use Rattle.cut_run.specs.declared.fault.CutFault.{CutFault}
use Rattle.cut_run.specs.declared.fault.CutFault.TheVariants as faults
use Rattle.cut_run.specs.declared.fault.CutSource.TheVariants as source
use Rattle.cut_run.specs.declared.print.Printing.{Printing}
use Rattle.cut_run.specs.declared.recordings.Recordings.{Recordings}

-- ---- the texts of lines

-- a line and its newline
abbrev pub whole_line : List ℕ → List ℕ
whole_line text = text ++ 10 ∷ []

abbrev pub whole_lines : List (List ℕ) → List ℕ
whole_lines texts = flat_map whole_line texts

-- the line's text, if it is that of a frame
abbrev pub text_in : LedgerLine → List ℕ → List (List ℕ)
text_in (lines.Frame v) text = text ∷ []
text_in line text = []

-- the texts of the lines of frames, in their order
abbrev pub frame_texts : List ReadLine → List (List ℕ)
frame_texts rs = flat_map (λ r. text_in r.line r.text) rs

-- the next line of the ledger is that of a frame, has this text and says this
abbrev pub NextIs : LedgerStage → Option (List ℕ) → List ℕ → FrameLine → Type 0
NextIs stage left text v = (rest : Option (List ℕ)) × TakesLine stage left rest (record { text = text; line = lines.Frame v })

-- ---- the devices

-- both recordings' sources
pub record Sources : Type 0 where
  pub a : SourceView
  pub b : SourceView

-- the devices of a run that prints lines; recordings, if the lines are checked against them
pub record LineDevices : Type 0 where
  pub ledger : SourceView
  pub recordings : Option Sources
  pub output : SinkView

abbrev pub sources_at : {S T : Type 0} → SourceMembers S → SourceMembers T → Option (S × T) → Option Sources
sources_at s t None = None
sources_at s t (Some (a, b)) = Some (record { a = source_at s a; b = source_at t b })

abbrev pub line_devices_at : {L S T W : Type 0} → SourceMembers L → SourceMembers S → SourceMembers T → SinkMembers W → L → Option (S × T) → W → LineDevices
line_devices_at l s t w ledger recordings output =
    record { ledger = source_at l ledger; recordings = sources_at s t recordings; output = sink_at w output }

-- the devices of a cut, with these recordings
abbrev pub cut_devices : LineDevices → Sources → CutDevices
cut_devices devices sources = record { ledger = devices.ledger; a = sources.a; b = sources.b; output = devices.output }

-- ---- a run that ended

-- The recordings were read, and each line of a frame has found its own: they come later one by one.
pub record AreFound (before after : Sources) (vs : List FrameLine) (frames_a frames_b frames : List Frame) : Type 0 where
  pub read_a : IsReadPart A any_late before.a after.a frames_a
  pub read_b : IsReadPart B any_late before.b after.b frames_b
  pub rise : Rise None vs
  pub named : AreFramesOf frames_a frames_b vs frames

-- each line of a frame was checked, if there are recordings, of which none failed
abbrev pub AreChecked : Option Sources → Option Sources → List FrameLine → Type 0
AreChecked None None vs = ⊤
AreChecked (Some before) (Some after) vs =
    (frames_a : List Frame) × (frames_b : List Frame) × (frames : List Frame) × AreFound before after vs frames_a frames_b frames
    × (after.a.failures ≡ before.a.failures) × (after.b.failures ≡ before.b.failures)
AreChecked before after vs = ⊥

-- The ledger was read to its end, and the output has the lines of frames that are taken, as they stand and in their order. Lines that are passed
-- over aren't checked.
pub record ArePrinted (choice : Choice) (e : CutEnding) (before after : LineDevices) : Type 0 where
  pub rs : List ReadLine
  pub stage : LedgerStage
  pub left : Option (List ℕ)
  pub printed : List (List ℕ)
  pub lines : ReadsLines stages.Head before.ledger.remaining rs stage left
  pub checked : AreChecked before.recordings after.recordings (read_lines choice.skips (frame_lines rs))
  pub takes : TakesOf choice (frame_lines rs) (frame_texts rs) printed
  pub ends : EndsAt rs stage left (stop_of e)
  pub written : Appends before.output.contents after.output.contents (whole_lines printed)
  pub ledger_failures : after.ledger.failures ≡ before.ledger.failures
  pub output_failures : after.output.failures ≡ before.output.failures

-- ---- a run that was aborted

-- Nothing was written, and the ledger wasn't read: there was no memory, or a recording wasn't opened.
abbrev pub StopsBefore : CutFault → LineDevices → LineDevices → Option Sources → Option Sources → Type 0
StopsBefore fault before after None None = (fault ≡ faults.Memory) × (after ≡ before)
StopsBefore fault before after (Some was) (Some now) = (fault ≢ faults.Write) × IsUnopened fault (cut_devices before was) (cut_devices after now)
StopsBefore fault before after was now = ⊥

-- all that a fault says of the line after these, if there are no recordings
abbrev pub IsLoneFault : CutFault → List ReadLine → LedgerStage → Option (List ℕ) → Option (List ℕ) → Type 0
IsLoneFault (faults.Ledger n fault) rs stage left rest = IsBadNext n fault rs stage left rest
IsLoneFault (faults.Read source.Ledger) rs stage left rest = FailsInLine left rest
IsLoneFault faults.Write rs stage left rest = (v : FrameLine) × StopsAfter stage left rest v
IsLoneFault fault rs stage left rest = ⊥

-- The lines before were checked, if there are recordings, and why the next one isn't printed.
abbrev pub AreCheckedUpTo : Option Network → CutFault → LineDevices → Option Sources → Option Sources → List ReadLine → LedgerStage → Option (List ℕ)
    → Option (List ℕ) → Type 0
AreCheckedUpTo skips fault before None None rs stage left rest = IsLoneFault fault rs stage left rest
AreCheckedUpTo skips fault before (Some was) (Some now) rs stage left rest =
    (frames_a : List Frame) × (frames_b : List Frame) × (frames : List Frame)
    × AreFound was now (read_lines skips (frame_lines rs)) frames_a frames_b frames
    × IsLineFault skips fault (cut_devices before was) rs stage left rest frames_a frames_b
AreCheckedUpTo skips fault before was now rs stage left rest = ⊥

-- The output has the lines that are taken. Where the sink failed, the next line is taken too, and a prefix of it follows.
abbrev pub HasPrinted : Choice → CutFault → List ReadLine → LedgerStage → Option (List ℕ) → List (List ℕ) → Option (List ℕ) → Option (List ℕ) → Type 0
HasPrinted choice faults.Write rs stage left printed before after =
    (v : FrameLine) × (text : List ℕ) × (part : ℕ) × NextIs stage left text v × Chooses choice (frame_lines rs) v
    × (part < length (whole_line text)) × Appends before after (whole_lines printed ++ take part (whole_line text))
HasPrinted choice fault rs stage left printed before after = Appends before after (whole_lines printed)

-- The run was aborted at the line after these.
pub record StopsPrinting (choice : Choice) (fault : CutFault) (before after : LineDevices) : Type 0 where
  pub rs : List ReadLine
  pub stage : LedgerStage
  pub left : Option (List ℕ)
  pub printed : List (List ℕ)
  pub lines : ReadsLines stages.Head before.ledger.remaining rs stage left
  pub checked : AreCheckedUpTo choice.skips fault before before.recordings after.recordings rs stage left after.ledger.remaining
  pub takes : TakesOf choice (frame_lines rs) (frame_texts rs) printed
  pub written : HasPrinted choice fault rs stage left printed before.output.contents after.output.contents

-- only the device that the fault names failed, if it names one, and just once
abbrev pub SourcesFailOnly : CutFault → Option Sources → Option Sources → Type 0
SourcesFailOnly fault (Some was) (Some now) =
    FailsWhere (names fault (RecordingSource A)) was.a.failures now.a.failures × FailsWhere (names fault (RecordingSource B)) was.b.failures now.b.failures
SourcesFailOnly fault was now = ⊤

pub record LinesFailOnly (fault : CutFault) (before after : LineDevices) : Type 0 where
  pub ledger : FailsWhere (names fault LedgerSource) before.ledger.failures after.ledger.failures
  pub recordings : SourcesFailOnly fault before.recordings after.recordings
  pub output : FailsWhere (names fault OutputSink) before.output.failures after.output.failures

-- the outcome of a run that prints lines, and what it leaves
abbrev pub IsLinesRun : Choice → Result CutEnding CutFault → LineDevices → LineDevices → Type 0
IsLinesRun choice (Ok e) before after = ArePrinted choice e before after
IsLinesRun choice (Err fault) before after =
    LinesFailOnly fault before after × (StopsBefore fault before after before.recordings after.recordings ⊎ StopsPrinting choice fault before after)

-- ---- between the first line and the last

-- The recordings were opened on these sources, if there are any, and these lines have named frames.
abbrev pub HasChecked : {S T : Type 0} → SourceMembers S → SourceMembers T → Option Sources → List FrameLine → Option (Recordings S T) → Type 0
HasChecked s t None vs None = ⊤
HasChecked s t (Some before) vs (Some recordings) =
    (fs : List Frame) × (frames_a : List Frame) × (frames_b : List Frame) × HasNamed s t before.a before.b vs fs frames_a frames_b recordings
HasChecked s t before vs recordings = ⊥

-- The lines before have named these frames, and why this one, the n-th, isn't printed.
pub record StopsFinding {S T : Type 0} (s : SourceMembers S) (t : SourceMembers T) (before : Sources) (vs : List FrameLine) (v : FrameLine) (n : ℕ)
    (fault : CutFault) (recordings : Recordings S T) : Type 0 where
  pub frames_a : List Frame
  pub frames_b : List Frame
  pub frames : List Frame
  pub read_a : ReadsPart (opening_at A before.a) frames_a (finding_of s recordings.a)
  pub read_b : ReadsPart (opening_at B before.b) frames_b (finding_of t recordings.b)
  pub rise : Rise None vs
  pub named : AreFramesOf frames_a frames_b vs frames
  pub why : IsTakeFault fault n before.a before.b vs v frames_a frames_b
  pub a_failures : FailsWhere (names fault (RecordingSource A)) before.a.failures (finding_of s recordings.a).reading.failures
  pub b_failures : FailsWhere (names fault (RecordingSource B)) before.b.failures (finding_of t recordings.b).reading.failures

abbrev pub StopsChecking : {S T : Type 0} → SourceMembers S → SourceMembers T → Option Sources → List FrameLine → FrameLine → ℕ → CutFault
    → Option (Recordings S T) → Type 0
StopsChecking s t None vs v n fault None = fault ≡ faults.Write
StopsChecking s t (Some before) vs v n fault (Some recordings) = StopsFinding s t before vs v n fault recordings
StopsChecking s t before vs v n fault recordings = ⊥

-- These lines of frames, with these texts, were checked, and those that are taken were printed.
pub record HasPrintedLines {S T W : Type 0} (s : SourceMembers S) (t : SourceMembers T) (w : SinkMembers W) (choice : Choice) (before : LineDevices)
    (vs : List FrameLine) (texts printed : List (List ℕ)) (printing : Printing S T W) : Type 0 where
  pub checked : HasChecked s t before.recordings (read_lines choice.skips vs) printing.recordings
  pub takes : TakesOf choice vs texts printed
  pub asked : HasAsked choice.selection choice.around vs printing.chooser
  pub written : Appends before.output.contents (w.contents printing.output) (whole_lines printed)
  pub no_failure : w.failures printing.output ≡ before.output.failures

-- one more line
abbrev pub PrintsMore : {S T W : Type 0} → SourceMembers S → SourceMembers T → SinkMembers W → Choice → LineDevices → List FrameLine → List (List ℕ)
    → FrameLine → List ℕ → Printing S T W → Type 0
PrintsMore s t w choice before vs texts v text printing =
    (printed : List (List ℕ)) × HasPrintedLines s t w choice before (vs ++ v ∷ []) (texts ++ text ∷ []) printed printing

-- A line that isn't passed over is printed if it is chosen, and else left out.
abbrev pub PrintsTaken : {S T W : Type 0} → SinkMembers W → Choice → List FrameLine → FrameLine → List ℕ → Result (Unit {0}) CutFault → Printing S T W
    → Printing S T W → Type 0
PrintsTaken w choice before v text result old new =
    (IsChosen choice.selection choice.around before v
    × Writes result (w.contents old.output) (w.contents new.output) (w.failures old.output) (w.failures new.output) (whole_line text))
    ⊎ ((IsChosen choice.selection choice.around before v → ⊥) × (result ≡ Ok tt) × (new.output ≡ old.output))

-- The lines that are taken were printed. Where the sink failed, this line is taken too, and a prefix of it was printed.
abbrev pub PrintsUpTo : Choice → CutFault → List FrameLine → FrameLine → List ℕ → List (List ℕ) → Option (List ℕ) → Option (List ℕ) → Type 0
PrintsUpTo choice faults.Write vs v text printed before after =
    (part : ℕ) × Chooses choice vs v × (part < length (whole_line text)) × Appends before after (whole_lines printed ++ take part (whole_line text))
PrintsUpTo choice fault vs v text printed before after = Appends before after (whole_lines printed)

-- The lines before were printed, and this one stops the run.
pub record StopsAtText {S T W : Type 0} (s : SourceMembers S) (t : SourceMembers T) (w : SinkMembers W) (choice : Choice) (before : LineDevices)
    (vs : List FrameLine) (texts printed : List (List ℕ)) (v : FrameLine) (text : List ℕ) (n : ℕ) (fault : CutFault) (printing : Printing S T W) : Type 0 where
  pub checked : StopsChecking s t before.recordings (read_lines choice.skips vs) v n fault printing.recordings
  pub read : is_read choice.skips v.network ≡ true
  pub takes : TakesOf choice vs texts printed
  pub written : PrintsUpTo choice fault vs v text printed before.output.contents (w.contents printing.output)
  pub output_failures : FailsWhere (names fault OutputSink) before.output.failures (w.failures printing.output)

-- ---- the ledger beside it

-- These lines of the ledger were read, and printed.
pub record HasPrintedLedger {L S T W : Type 0} (l : SourceMembers L) (s : SourceMembers S) (t : SourceMembers T) (w : SinkMembers W) (choice : Choice)
    (before : LineDevices) (rs : List ReadLine) (printed : List (List ℕ)) (ledger : LedgerReader L) (printing : Printing S T W) : Type 0 where
  pub read : HasReadLines l before.ledger.remaining before.ledger.failures rs ledger
  pub print : HasPrintedLines s t w choice before (frame_lines rs) (frame_texts rs) printed printing

-- The recordings' sources that come back: what was read ahead of them is no more than a block.
abbrev pub GivesBack : {S T : Type 0} → SourceMembers S → SourceMembers T → Option (Recordings S T) → Option (S × T) → Type 0
GivesBack s t None None = ⊤
GivesBack s t (Some recordings) (Some (a, b)) =
    (a ≡ finder_source recordings.a) × (b ≡ finder_source recordings.b)
    × (length (finding_of s recordings.a).unread ≤ MAX_SNAPLEN)
    × (length (finding_of t recordings.b).unread ≤ MAX_SNAPLEN)
GivesBack s t recordings sources = ⊥

-- Whatever recordings come back, the devices are left so.
abbrev pub LeavesLines : {L S T W : Type 0} → SourceMembers L → SourceMembers S → SourceMembers T → SinkMembers W → Choice → Result CutEnding CutFault
    → LineDevices → LedgerReader L → Printing S T W → Type 0
LeavesLines {L} {S} {T} {W} l s t w choice outcome before ledger printing =
    length (unread_of ledger.lines) ≤ BLOCK_LEN → (sources : Option (S × T)) → GivesBack s t printing.recordings sources
    → IsLinesRun choice outcome before (line_devices_at l s t w (source_of ledger) sources printing.output)
