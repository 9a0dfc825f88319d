-- Why a ledger has no report: its first wrong line, or that it can't be read (this project's profile).
use Rattle.std.specs.Prelude.{◌≡◌, ℕ, ◌+◌, List, length, reverse, Option, Some, ⊤}
use Rattle.std.specs.Io.KnownBytes.{Consumes}
use Rattle.pcap_io.specs.Device.{CountsFailure}
use Rattle.pcap_io.specs.declared.device.TapSource.{Ghosts as SourceMembers}
use Rattle.vl_config.specs.Document.{VlTable}
use Rattle.ledger_text.specs.Ledger.{ReadLine, ReadsLines, TakesLine, frame_lines}
use Rattle.ledger_text.specs.Newlines.{NoNewline}
use Rattle.ledger_text.specs.Reader.{IsBadLine, Reading}
use Rattle.ledger_text.specs.declared.fault.ReadFault.{ReadFault}
use Rattle.ledger_text.specs.declared.fault.ReadFault.TheVariants as read
use Rattle.ledger_text.specs.declared.frame.FrameLine.{FrameLine}
use Rattle.ledger_text.specs.declared.order.Counts.{Counts as Kind}
use Rattle.ledger_text.specs.declared.order.LedgerLine.{LedgerLine}
use Rattle.ledger_text.specs.declared.order.LedgerLine.TheVariants as lines
use Rattle.ledger_text.specs.declared.order.LedgerStage.{LedgerStage}
use Rattle.ledger_text.specs.declared.order.LedgerStage.TheVariants as stages
use Rattle.ledger_report.specs.CountsLines.{AreCountsRight, IsRightCounts}
use Rattle.ledger_report.specs.Wrongs.{AreRight, wrong_of}
use Rattle.ledger_report.specs.declared.fault.Refusal.{Refusal}
use Rattle.ledger_report.specs.declared.fault.Refusal.TheVariants as refusals
use Rattle.ledger_report.specs.declared.fault.NoReport.{NoReport}
use Rattle.ledger_report.specs.declared.fault.NoReport.TheVariants as faults
use Rattle.ledger_report.specs.declared.fault.WrongLine.{WrongLine}
use Rattle.ledger_report.specs.declared.fault.WrongLine.TheVariants as wrongs

-- a source: the bytes that it still gives, where it exposes them, and how often it has failed
pub record Source : Type 0 where
  pub remaining : Option (List ℕ)
  pub failures : ℕ

-- by the ghost members of its trait
abbrev pub source_at : {S : Type 0} → SourceMembers S → S → Source
source_at s source = record { remaining = s.remaining source; failures = s.failures source }

-- Nothing is wrong with these lines of a ledger: those of frames, and those of counts.
pub record AreLinesRight (table : VlTable) (rs : List ReadLine) : Type 0 where
  pub frames : AreRight table.links (reverse (frame_lines rs))
  pub counts : AreCountsRight table (reverse rs)

-- where a reader of a ledger stands after so many lines
abbrev pub place_at : LedgerStage → ℕ → Option (List ℕ) → Reading
place_at stage number left = record { stage = stage; number = number; left = left; failures = 0 }

-- The next line of the ledger has this text and says this.
abbrev pub IsNext : LedgerStage → Option (List ℕ) → List ℕ → LedgerLine → Type 0
IsNext stage left text line = (rest : Option (List ℕ)) × TakesLine stage left rest (record { text = text; line = line })

-- The fault of the line after these: it is none of a ledger; or a line of counts that isn't that of the lines before; or the line of a frame,
-- against the table and the lines before.
abbrev pub IsWrongNext : VlTable → WrongLine → List ReadLine → LedgerStage → Option (List ℕ) → Type 0
IsWrongNext table (wrongs.Text fault) rs stage left =
    (text : List ℕ) × (rest : Option (List ℕ)) × IsBadLine (place_at stage (length rs) left) (place_at stage (length rs) rest) text fault
IsWrongNext table wrongs.Counts rs stage left =
    (kind : Kind) × (text : List ℕ) × IsNext stage left text (lines.Counts kind) × (IsRightCounts table (reverse rs) kind text → ⊥)
IsWrongNext table wrong rs stage left =
    (v : FrameLine) × (text : List ℕ) × IsNext stage left text (lines.Frame v) × (wrong_of table.links (reverse (frame_lines rs)) v ≡ Some wrong)

-- all that the fault says of the line after these. Where the source failed, what was read ahead of it ends no line, and what it still gives stands
-- after that.
abbrev pub IsReportFault : VlTable → NoReport → List ReadLine → LedgerStage → Option (List ℕ) → Option (List ℕ) → Type 0
IsReportFault table (faults.Line number wrong) rs stage left rest = (number ≡ length rs + 1) × IsWrongNext table wrong rs stage left
IsReportFault table faults.Read rs stage left rest = (unread : List ℕ) × NoNewline unread × Consumes left rest unread
IsReportFault table faults.Memory rs stage left rest = ⊤

-- The source failed once where the fault says so, and else didn't.
abbrev pub FailsFor : NoReport → ℕ → ℕ → Type 0
FailsFor faults.Read old new = CountsFailure old new
FailsFor fault old new = new ≡ old

-- The source's bytes begin with lines of a ledger that are right, and why the next one isn't noted.
pub record IsRefused (table : VlTable) (before after : Source) (fault : NoReport) : Type 0 where
  pub rs : List ReadLine
  pub stage : LedgerStage
  pub left : Option (List ℕ)
  pub lines : ReadsLines stages.Head before.remaining rs stage left
  pub right : AreLinesRight table rs
  pub why : IsReportFault table fault rs stage left after.remaining
  pub failures : FailsFor fault before.failures after.failures

-- ---- the faults as the code makes them

-- that of a line that isn't noted
abbrev pub line_fault : ℕ → Refusal → NoReport
line_fault number (refusals.Wrong wrong) = faults.Line number wrong
line_fault number refusals.Memory = faults.Memory

-- that of a reader that doesn't go on
abbrev pub read_fault : ReadFault → NoReport
read_fault (read.Line number fault) = faults.Line number (wrongs.Text fault)
read_fault read.Device = faults.Read
read_fault read.Failed = faults.Read
