-- A cut: what it leaves, and why it was aborted (this project's profile).
use Rattle.std.specs.Prelude.{◌≡◌, ◌⊎◌, ℕ, true, ◌+◌, ◌<◌, ◌≤◌, List, ◌++◌, length, take, Option, Some, None, Result, Ok, Err}
use Rattle.std.specs.Io.KnownBytes.{Appends, Consumes}
use Rattle.std.specs.List.{zip}
use Rattle.afdx_frame.specs.Frame.{Frame}
use Rattle.afdx_frame.specs.declared.key.Network.{Network}
use Rattle.afdx_frame.specs.declared.key.Network.TheVariants.{A, B}
use Rattle.ledger_text.specs.Ledger.{EndsAt, ReadLine, ReadsLines, TakesLine, frame_lines}
use Rattle.ledger_text.specs.Newlines.{NoNewline}
use Rattle.ledger_text.specs.Reader.{IsBadLine, Reading}
use Rattle.ledger_text.specs.declared.bounds.TheConstants.{BLOCK_LEN}
use Rattle.ledger_text.specs.declared.fault.LineFault.{LineFault}
use Rattle.ledger_text.specs.declared.fault.ReadFault.{ReadFault}
use Rattle.ledger_text.specs.declared.fault.ReadFault.TheVariants as read
use Rattle.ledger_text.specs.declared.frame.FrameLine.{FrameLine}
use Rattle.ledger_text.specs.declared.order.LedgerLine.TheVariants as lines
use Rattle.ledger_text.specs.declared.order.LedgerStage.{LedgerStage}
use Rattle.ledger_text.specs.declared.order.LedgerStage.TheVariants as stages
use Rattle.ledger_text.specs.declared.reader.LedgerStop.{LedgerStop}
use Rattle.packet_format.specs.Packets.{Format, head_by}
use Rattle.pcap_io.specs.Device.{AppendsPrefix}
use Rattle.run_fault.specs.Device.{SinkMembers, SinkView, SourceMembers, SourceView, sink_at, source_at}
use Rattle.run_fault.specs.Fault.{FailsWhere}
use Rattle.run_fault.specs.Recording.{FailsAtHeader, HasHeaderFault, IsReadPart, WasOpened}
use Rattle.cut_run.specs.Finder.{any_late}
use Rattle.cut_run.specs.Faults.{LedgerSource, OutputSink, RecordingSource, names}
use Rattle.cut_run.specs.Lines.{AreFramesOf, AreSpread, Choice, ComesLater, IsFrameOf, IsTakenNext, Rise, TakesOf, is_read, last_key, read_lines, side, cut_capture, line_packet}
use Rattle.cut_run.specs.Naming.{LacksFrame, view_of}
use Rattle.cut_run.specs.declared.cut.CutEnding.{CutEnding}
use Rattle.cut_run.specs.declared.cut.CutEnding.TheVariants as ending
use Rattle.cut_run.specs.declared.fault.CutFault.{CutFault}
use Rattle.cut_run.specs.declared.fault.CutFault.TheVariants as faults
use Rattle.cut_run.specs.declared.fault.CutSource.TheVariants as source

-- the devices of a cut, as it sees them
pub record CutDevices : Type 0 where
  pub ledger : SourceView
  pub a : SourceView
  pub b : SourceView
  pub output : SinkView

abbrev pub devices_at : {L S T W : Type 0} → SourceMembers L → SourceMembers S → SourceMembers T → SinkMembers W → L → S → T → W → CutDevices
devices_at l s t w ledger a b output = record { ledger = source_at l ledger; a = source_at s a; b = source_at t b; output = sink_at w output }

-- where a reader of a ledger stands after so many lines
abbrev pub place_at : LedgerStage → ℕ → Option (List ℕ) → Reading
place_at stage number left = record { stage = stage; number = number; left = left; failures = 0 }

-- where a ledger ends that isn't complete
abbrev pub stop_of : CutEnding → Option LedgerStop
stop_of ending.Complete = None
stop_of (ending.Incomplete stop) = Some stop

-- ---- all that was cut

-- These lines of the ledger were read, and of both recordings these frames, among which each line of a frame finds its own, unless it is passed
-- over: they come later one by one, and the frames stand as they were recorded.
pub record HasFound (skips : Option Network) (before after : CutDevices) (rs : List ReadLine) (stage : LedgerStage) (left : Option (List ℕ)) (frames_a frames_b frames : List Frame) : Type 0 where
  pub lines : ReadsLines stages.Head before.ledger.remaining rs stage left
  pub read_a : IsReadPart A any_late before.a after.a frames_a
  pub read_b : IsReadPart B any_late before.b after.b frames_b
  pub found : List Frame
  pub rise : Rise None (read_lines skips (frame_lines rs))
  pub named : AreFramesOf frames_a frames_b (read_lines skips (frame_lines rs)) found
  pub spread : AreSpread skips (frame_lines rs) found frames

-- Only the device that the fault names failed, if it names one, and just once.
pub record FailsOnly (fault : CutFault) (before after : CutDevices) : Type 0 where
  pub ledger : FailsWhere (names fault LedgerSource) before.ledger.failures after.ledger.failures
  pub a : FailsWhere (names fault (RecordingSource A)) before.a.failures after.a.failures
  pub b : FailsWhere (names fault (RecordingSource B)) before.b.failures after.b.failures
  pub output : FailsWhere (names fault OutputSink) before.output.failures after.output.failures

pub record NoFailures (before after : CutDevices) : Type 0 where
  pub ledger : after.ledger.failures ≡ before.ledger.failures
  pub a : after.a.failures ≡ before.a.failures
  pub b : after.b.failures ≡ before.b.failures
  pub output : after.output.failures ≡ before.output.failures

-- The ledger was read to its end, and the output has the capture of the lines that are taken, with their frames.
pub record IsCut (format : Format) (choice : Choice) (e : CutEnding) (before after : CutDevices) : Type 0 where
  pub rs : List ReadLine
  pub stage : LedgerStage
  pub left : Option (List ℕ)
  pub frames_a : List Frame
  pub frames_b : List Frame
  pub frames : List Frame
  pub taken : List (FrameLine × Frame)
  pub found : HasFound choice.skips before after rs stage left frames_a frames_b frames
  pub takes : TakesOf choice (frame_lines rs) (zip (frame_lines rs) frames) taken
  pub ends : EndsAt rs stage left (stop_of e)
  pub written : Appends before.output.contents after.output.contents (cut_capture format taken)
  pub no_failure : NoFailures before after

-- ---- a cut that is not begun

-- Nothing was written, and the ledger wasn't read: there was no memory for its block or for what a capture begins with, or a recording wasn't
-- opened, that of A first.
abbrev pub IsUnopened : CutFault → CutDevices → CutDevices → Type 0
IsUnopened faults.Memory before after = after ≡ before
IsUnopened (faults.Header A f) before after =
    HasHeaderFault f before.a after.a × (after.b ≡ before.b) × (after.ledger ≡ before.ledger) × (after.output ≡ before.output)
IsUnopened (faults.Header B f) before after =
    WasOpened before.a after.a × HasHeaderFault f before.b after.b × (after.ledger ≡ before.ledger) × (after.output ≡ before.output)
IsUnopened (faults.Read (source.Recording A)) before after =
    FailsAtHeader before.a after.a × (after.b ≡ before.b) × (after.ledger ≡ before.ledger) × (after.output ≡ before.output)
IsUnopened (faults.Read (source.Recording B)) before after =
    WasOpened before.a after.a × FailsAtHeader before.b after.b × (after.ledger ≡ before.ledger) × (after.output ≡ before.output)
IsUnopened fault before after = ⊥

-- The sink failed at what the capture begins with, of which it has a prefix, and the ledger wasn't read.
pub record FailsToBegin (format : Format) (before after : CutDevices) : Type 0 where
  pub a : WasOpened before.a after.a
  pub b : WasOpened before.b after.b
  pub ledger : after.ledger ≡ before.ledger
  pub written : AppendsPrefix before.output.contents after.output.contents (head_by format)

abbrev pub StopsAtOpening : Format → CutFault → CutDevices → CutDevices → Type 0
StopsAtOpening format fault before after = IsUnopened fault before after ⊎ ((fault ≡ faults.Write) × FailsToBegin format before after)

-- Recordings that weren't opened, whatever the other devices are: these stay.
abbrev pub AreRefused : CutFault → SourceView → SourceView → SourceView → SourceView → Type 0
AreRefused fault a b a_after b_after =
    (ledger : SourceView) (output : SinkView)
    → FailsOnly fault (record { ledger = ledger; a = a; b = b; output = output }) (record { ledger = ledger; a = a_after; b = b_after; output = output })
    × IsUnopened fault (record { ledger = ledger; a = a; b = b; output = output }) (record { ledger = ledger; a = a_after; b = b_after; output = output })

-- ---- a cut that was aborted at a line

-- the next line of the ledger is that of a frame, and says this
abbrev pub NextSays : LedgerStage → Option (List ℕ) → FrameLine → Type 0
NextSays stage left v = (text : List ℕ) × (rest : Option (List ℕ)) × TakesLine stage left rest (record { text = text; line = lines.Frame v })

-- A source still gives what is left, but for what was read ahead of it, which is no more than a block.
abbrev pub IsReadAhead : Option (List ℕ) → Option (List ℕ) → Type 0
IsReadAhead left rest = (unread : List ℕ) × (length unread ≤ BLOCK_LEN) × Consumes left rest unread

-- the line after these, the n-th, is none of a ledger, and what the source still gives stands after it
abbrev pub IsBadNext : ℕ → LineFault → List ReadLine → LedgerStage → Option (List ℕ) → Option (List ℕ) → Type 0
IsBadNext n fault rs stage left rest =
    (n ≡ length rs + 1) × ((text : List ℕ) × (after : Option (List ℕ))
    × IsBadLine (place_at stage (length rs) left) (place_at stage (length rs) after) text fault × IsReadAhead after rest)

-- The ledger's source failed after the last whole line that it gave: what was read ahead of it ends no line, and what it still gives stands
-- after that.
abbrev pub FailsInLine : Option (List ℕ) → Option (List ℕ) → Type 0
FailsInLine left rest = (unread : List ℕ) × NoNewline unread × (length unread ≤ BLOCK_LEN) × Consumes left rest unread

-- the next line of the ledger is that of a frame, and says this, and what the source still gives stands after it
abbrev pub StopsAfter : LedgerStage → Option (List ℕ) → Option (List ℕ) → FrameLine → Type 0
StopsAfter stage left rest v =
    (text : List ℕ) × (after : Option (List ℕ)) × TakesLine stage left after (record { text = text; line = lines.Frame v }) × IsReadAhead after rest

-- and it is looked up
abbrev pub ReadsNext : Option Network → LedgerStage → Option (List ℕ) → Option (List ℕ) → FrameLine → Type 0
ReadsNext skips stage left rest v = StopsAfter stage left rest v × (is_read skips v.network ≡ true)

-- The fault's word on the line after these, of which each frame was found; `rest` is what the ledger's source still gives.
abbrev pub IsLineFault : Option Network → CutFault → CutDevices → List ReadLine → LedgerStage → Option (List ℕ) → Option (List ℕ) → List Frame → List Frame → Type 0
IsLineFault skips (faults.Ledger n fault) before rs stage left rest frames_a frames_b = IsBadNext n fault rs stage left rest
IsLineFault skips (faults.Order n) before rs stage left rest frames_a frames_b =
    (n ≡ length rs + 1)
    × ((v : FrameLine) × ReadsNext skips stage left rest v × (ComesLater (last_key (read_lines skips (frame_lines rs))) v → ⊥))
IsLineFault skips (faults.Absent n) before rs stage left rest frames_a frames_b =
    (n ≡ length rs + 1)
    × ((v : FrameLine) × ReadsNext skips stage left rest v × LacksFrame (view_of v.network before.a before.b) (side v.network frames_a frames_b) v)
IsLineFault skips (faults.Read source.Ledger) before rs stage left rest frames_a frames_b = FailsInLine left rest
IsLineFault skips (faults.Read (source.Recording network)) before rs stage left rest frames_a frames_b =
    (v : FrameLine) × ReadsNext skips stage left rest v × (v.network ≡ network) × (length (side v.network frames_a frames_b) ≤ v.number)
IsLineFault skips faults.Memory before rs stage left rest frames_a frames_b = (v : FrameLine) × ReadsNext skips stage left rest v
IsLineFault skips faults.Write before rs stage left rest frames_a frames_b =
    (v : FrameLine) × ReadsNext skips stage left rest v × ((f : Frame) × IsFrameOf frames_a frames_b v f)
IsLineFault skips (faults.Header network fault) before rs stage left rest frames_a frames_b = ⊥

-- The output has the whole capture of what was taken. Where the sink failed, the next line is taken too, and a prefix of its frame's packet
-- follows.
abbrev pub HasWritten : Format → Choice → CutFault → List ReadLine → LedgerStage → Option (List ℕ) → List Frame → List Frame → List (FrameLine × Frame) → Option (List ℕ) → Option (List ℕ)
    → Type 0
HasWritten format choice faults.Write rs stage left frames_a frames_b taken before after =
    (v : FrameLine) × (f : Frame) × (part : ℕ) × NextSays stage left v × IsTakenNext choice frames_a frames_b (frame_lines rs) v f
    × (part < length (line_packet format v f))
    × Appends before after (cut_capture format taken ++ take part (line_packet format v f))
HasWritten format choice fault rs stage left frames_a frames_b taken before after = Appends before after (cut_capture format taken)

-- The cut was aborted at the line after these.
pub record StopsAtLine (format : Format) (choice : Choice) (fault : CutFault) (before after : CutDevices) : Type 0 where
  pub rs : List ReadLine
  pub stage : LedgerStage
  pub left : Option (List ℕ)
  pub frames_a : List Frame
  pub frames_b : List Frame
  pub frames : List Frame
  pub taken : List (FrameLine × Frame)
  pub found : HasFound choice.skips before after rs stage left frames_a frames_b frames
  pub takes : TakesOf choice (frame_lines rs) (zip (frame_lines rs) frames) taken
  pub why : IsLineFault choice.skips fault before rs stage left after.ledger.remaining frames_a frames_b
  pub written : HasWritten format choice fault rs stage left frames_a frames_b taken before.output.contents after.output.contents

-- why a cut was aborted, and what it leaves
abbrev pub AbortsCut : Format → Choice → CutFault → CutDevices → CutDevices → Type 0
AbortsCut format choice fault before after =
    FailsOnly fault before after × (StopsAtOpening format fault before after ⊎ StopsAtLine format choice fault before after)

-- the outcome of a cut, and what it leaves
abbrev pub IsCutRun : Format → Choice → Result CutEnding CutFault → CutDevices → CutDevices → Type 0
IsCutRun format choice (Ok e) before after = IsCut format choice e before after
IsCutRun format choice (Err fault) before after = AbortsCut format choice fault before after

-- the fault of a ledger's reader, as a cut tells it
abbrev pub ledger_fault : ReadFault → CutFault
ledger_fault (read.Line n fault) = faults.Ledger n fault
ledger_fault read.Device = faults.Read source.Ledger
ledger_fault read.Failed = faults.Read source.Ledger
