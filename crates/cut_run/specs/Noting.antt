-- The notes on a ledger's lines for their neighbours, and why there are none (this project's profile).
use Rattle.std.specs.Prelude.{◌≡◌, ◌⊎◌, ℕ, ◌≤◌, List, [], length, Option, None, Result, Ok, Err}
use Rattle.ledger_text.specs.Ledger.{EndsAt, HasReadLines, ReadLine, ReadsLines, frame_lines}
use Rattle.ledger_text.specs.Lines.{unread_of}
use Rattle.ledger_text.specs.Reader.{source_of}
use Rattle.ledger_text.specs.declared.bounds.TheConstants.{BLOCK_LEN}
use Rattle.ledger_text.specs.declared.frame.FrameLine.{FrameLine}
use Rattle.ledger_text.specs.declared.order.LedgerStage.{LedgerStage}
use Rattle.ledger_text.specs.declared.order.LedgerStage.TheVariants as stages
use Rattle.ledger_text.specs.declared.reader.LedgerReader.{LedgerReader}
use Rattle.ledger_text.specs.declared.reader.LedgerStop.{LedgerStop}
use Rattle.ledger_text.specs.Neighbours.{Around, HasAsked, HasNoted}
use Rattle.ledger_text.specs.declared.chooser.Chooser.{Chooser}
use Rattle.ledger_text.specs.declared.neighbours.Neighbours.{Neighbours}
use Rattle.ledger_text.specs.declared.selection.Selection.{Selection}
use Rattle.run_fault.specs.Device.{SourceMembers, SourceView, source_at}
use Rattle.run_fault.specs.Fault.{FailsWhere}
use Rattle.cut_run.specs.Cut.{FailsInLine, IsBadNext, StopsAfter}
use Rattle.cut_run.specs.Faults.{LedgerSource, names}
use Rattle.cut_run.specs.declared.fault.CutFault.{CutFault}
use Rattle.cut_run.specs.declared.fault.CutFault.TheVariants as faults
use Rattle.cut_run.specs.declared.fault.CutSource.TheVariants as source

-- these lines of a ledger, and so many neighbours on each side
abbrev pub around_lines : ℕ → List ReadLine → Around
around_lines count rs = record { count = count; lines = frame_lines rs }

-- All lines of the ledger were read, and those of frames were noted.
pub record NotesLines (selection : Selection) (count : ℕ) (before after : SourceView) (neighbours : Neighbours) : Type 0 where
  pub rs : List ReadLine
  pub stage : LedgerStage
  pub left : Option (List ℕ)
  pub lines : ReadsLines stages.Head before.remaining rs stage left
  pub ends : (stop : Option LedgerStop) × EndsAt rs stage left stop
  pub noted : HasNoted selection (around_lines count rs) neighbours
  pub no_failure : after.failures ≡ before.failures

-- all that the fault says of the line after these; there may be no memory before the first line, or at the line of a frame
abbrev pub IsNoteFault : CutFault → List ReadLine → LedgerStage → Option (List ℕ) → Option (List ℕ) → Type 0
IsNoteFault (faults.Ledger n fault) rs stage left rest = IsBadNext n fault rs stage left rest
IsNoteFault (faults.Read source.Ledger) rs stage left rest = FailsInLine left rest
IsNoteFault faults.Memory rs stage left rest = ((rs ≡ []) × (rest ≡ left)) ⊎ ((v : FrameLine) × StopsAfter stage left rest v)
IsNoteFault fault rs stage left rest = ⊥

-- The run was aborted at the line after these.
pub record AbortsNoting (fault : CutFault) (before after : SourceView) : Type 0 where
  pub rs : List ReadLine
  pub stage : LedgerStage
  pub left : Option (List ℕ)
  pub lines : ReadsLines stages.Head before.remaining rs stage left
  pub why : IsNoteFault fault rs stage left after.remaining
  pub failures : FailsWhere (names fault LedgerSource) before.failures after.failures

abbrev pub IsNeighboursRun : Selection → ℕ → Result Neighbours CutFault → SourceView → SourceView → Type 0
IsNeighboursRun selection count (Ok neighbours) before after = NotesLines selection count before after neighbours
IsNeighboursRun selection count (Err fault) before after = AbortsNoting fault before after

-- ---- between the first line and the last

-- These lines of the ledger were read and noted.
pub record HasNotedLines {L : Type 0} (l : SourceMembers L) (selection : Selection) (count : ℕ) (before : SourceView) (rs : List ReadLine) (ledger : LedgerReader L)
    (chooser : Chooser) (neighbours : Neighbours) : Type 0 where
  pub read : HasReadLines l before.remaining before.failures rs ledger
  pub asked : HasAsked selection None (frame_lines rs) chooser
  pub noted : HasNoted selection (around_lines count rs) neighbours

abbrev pub EndsNoting : {L : Type 0} → SourceMembers L → Selection → ℕ → SourceView → LedgerReader L → Neighbours → Type 0
EndsNoting l selection count before ledger neighbours = NotesLines selection count before (source_at l (source_of ledger)) neighbours

abbrev pub StopsNoting : {L : Type 0} → SourceMembers L → CutFault → SourceView → LedgerReader L → Type 0
StopsNoting l fault before ledger = length (unread_of ledger.lines) ≤ BLOCK_LEN → AbortsNoting fault before (source_at l (source_of ledger))
