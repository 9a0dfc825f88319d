-- A ledger that is read to its end, and what its report says of it.
use Rattle.std.specs.Prelude.{◌≡◌, ℕ, Bool, List, Option, reverse}
use Rattle.pcap_io.specs.declared.device.TapSource.{Ghosts as SourceMembers}
use Rattle.vl_config.specs.Document.{VlTable}
use Rattle.ledger_text.specs.Ledger.{EndsAt, HasReadLines, ReadLine, ReadsLines, frame_lines}
use Rattle.ledger_text.specs.declared.order.LedgerStage.{LedgerStage}
use Rattle.ledger_text.specs.declared.order.LedgerStage.TheVariants as stages
use Rattle.ledger_text.specs.declared.reader.LedgerReader.{LedgerReader}
use Rattle.ledger_text.specs.declared.reader.LedgerStop.{LedgerStop}
use Rattle.ledger_report.specs.Counts.{AreCountsOf}
use Rattle.ledger_report.specs.CountsLines.{HasCounted, HasEndings, is_whole, taps_of}
use Rattle.ledger_report.specs.FrameLines.{HasTaken}
use Rattle.ledger_report.specs.Refused.{AreLinesRight}
use Rattle.ledger_report.specs.declared.counts.FrameCounts.{FrameCounts}
use Rattle.ledger_report.specs.declared.counts_lines.CountsLines.{CountsLines}
use Rattle.ledger_report.specs.declared.counts_lines.TapEnding.{TapEnding}
use Rattle.ledger_report.specs.declared.frame_lines.FrameLines.{FrameLines}
use Rattle.findings.specs.declared.per_network.PerNetwork.{PerNetwork}
use Rattle.ledger_report.specs.declared.report.Report.{Report}

-- The bytes are the lines of a ledger from its head on, and nothing is left after them, or where its last line doesn't stand, the beginning of a
-- line. Nothing is wrong with any of them: each line of counts is that of the lines before it. The report's counts are those of the lines of
-- frames, its endings are those that the lines `tap` say, and it is whole exactly where the ledger has its last line. What else a report tells
-- is no part of this.
pub record IsRead (bytes : Option (List ℕ)) (table : VlTable) (stop : Option LedgerStop) (counts : FrameCounts)
    (endings : PerNetwork (Option TapEnding)) (whole : Bool) : Type 0 where
  pub rs : List ReadLine
  pub stage : LedgerStage
  pub left : Option (List ℕ)
  pub lines : ReadsLines stages.Head bytes rs stage left
  pub right : AreLinesRight table rs
  pub ends : EndsAt rs stage left stop
  pub counts_are : AreCountsOf (frame_lines rs) counts
  pub endings_are : HasEndings (taps_of (reverse rs)) endings
  pub whole_is : whole ≡ is_whole (reverse rs)

abbrev pub TellsLedger : Option (List ℕ) → VlTable → Report → Type 0
TellsLedger bytes table report = IsRead bytes table report.stop report.counts report.endings report.whole

-- These lines of the ledger were read and taken.
pub record HasNoted {S : Type 0} (s : SourceMembers S) (bytes : Option (List ℕ)) (failures : ℕ) (table : VlTable) (rs : List ReadLine)
    (ledger : LedgerReader S) (counts : FrameCounts) (frames : FrameLines) (counted : CountsLines) : Type 0 where
  pub read : HasReadLines s bytes failures rs ledger
  pub right : AreLinesRight table rs
  pub counts_are : AreCountsOf (frame_lines rs) counts
  pub frames_are : HasTaken (reverse (frame_lines rs)) frames
  pub counted_are : HasCounted (reverse rs) counted
