-- Where a reader stands in a ledger: what stands before the next line, and how many lines do.
use Rattle.std.specs.Prelude.{◌≡◌, ℕ, ◌+◌, ◌<◌, List, Bool, true, false, Result, Ok, Err}
use Rattle.ledger_text.specs.FrameText.{version_of}
use Rattle.ledger_text.specs.Order.{IsLineAt, IsLineFaultAt}
use Rattle.ledger_text.specs.declared.order.Counts.TheVariants as counts
use Rattle.ledger_text.specs.declared.order.LedgerStage.{LedgerStage}
use Rattle.ledger_text.specs.declared.order.LedgerStage.TheVariants as stages
use Rattle.ledger_text.specs.declared.order.LedgerLine.{LedgerLine}
use Rattle.ledger_text.specs.declared.order.LedgerLine.TheVariants as lines
use Rattle.ledger_text.specs.declared.bounds.TheConstants.{MAX_LINES}
use Rattle.ledger_text.specs.declared.fault.LineFault.{LineFault}
use Rattle.ledger_text.specs.declared.fault.LineFault.TheVariants as wrong
use Rattle.ledger_text.specs.declared.fault.ReadFault.{ReadFault}
use Rattle.ledger_text.specs.declared.fault.ReadFault.TheVariants as faults
use Rattle.ledger_text.specs.declared.reader.FoundLine.{FoundLine}
use Rattle.ledger_text.specs.declared.reader.FoundLine.TheVariants as found

-- the stage before the line after this one
abbrev pub stage_after : LedgerLine → LedgerStage
stage_after (lines.Head version) = stages.Frames version
stage_after (lines.Frame v) = stages.Frames (version_of v)
stage_after (lines.Counts kind) = stages.Counts kind

-- the line `total` stands before
abbrev pub has_total : LedgerStage → Bool
has_total (stages.Counts counts.Total) = true
has_total _ = false

-- the end at this place, after so many lines: a ledger is complete after its line `total`
abbrev pub IsEnd : LedgerStage → ℕ → Bool → FoundLine → Type 0
IsEnd stage number within found.Complete = has_total stage ≡ true
IsEnd stage number within (found.Incomplete stop) = (has_total stage ≡ false) × (stop.lines ≡ number) × (stop.within_line ≡ within)
IsEnd stage number within (found.Line _) = ⊥

-- the reading of a last line without a newline, after so many lines: the end within it, and where the line `total` stands before, a fault
abbrev pub IsUnended : LedgerStage → ℕ → Result FoundLine ReadFault → Type 0
IsUnended stage number (Ok (found.Incomplete stop)) = (has_total stage ≡ false) × (stop.lines ≡ number) × (stop.within_line ≡ true)
IsUnended stage number (Err (faults.Line n wrong.Newline)) = (has_total stage ≡ true) × (n ≡ number + 1)
IsUnended stage number other = ⊥

-- the line is what is found at a place, and the next place is that after it
abbrev pub IsRead : LedgerStage → ℕ → List ℕ → LedgerStage → ℕ → FoundLine → Type 0
IsRead stage number line stage2 number2 (found.Line read) =
    IsLineAt stage line read × (stage2 ≡ stage_after read) × (number2 ≡ number + 1) × (number < MAX_LINES)
IsRead stage number line stage2 number2 found.Complete = ⊥
IsRead stage number line stage2 number2 (found.Incomplete stop) = ⊥

-- As many lines stand before the line as a ledger may have; or it is none that stands at its place.
abbrev pub IsLineRefused : LedgerStage → ℕ → List ℕ → LineFault → Type 0
IsLineRefused stage number line wrong.TooMany = number ≡ MAX_LINES
IsLineRefused stage number line fault = (number < MAX_LINES) × IsLineFaultAt stage line fault

-- the line is refused, and the fault has its number
abbrev pub IsReadRefused : LedgerStage → ℕ → List ℕ → ReadFault → Type 0
IsReadRefused stage number line (faults.Line n fault) = (n ≡ number + 1) × IsLineRefused stage number line fault
IsReadRefused stage number line faults.Device = ⊥
IsReadRefused stage number line faults.Failed = ⊥
