-- The lines of a ledger, by their places: the head, the lines of frames, and those of counts (this project's format).
use Rattle.std.specs.Prelude.{◌≡◌, ◌≢◌, ℕ, Bool, true, false, List, codes, Result, Ok, Err}
use Rattle.ledger_text.specs.Fields.{fields_of, first_field}
use Rattle.ledger_text.specs.FrameText.{IsFrameText, IsFrameFault}
use Rattle.verdict_ledger.specs.declared.version.LedgerVersion.{LedgerVersion}
use Rattle.verdict_ledger.specs.declared.version.LedgerVersion.TheVariants.{Two, Three}
use Rattle.ledger_text.specs.declared.order.Counts.{Counts}
use Rattle.ledger_text.specs.declared.order.Counts.TheVariants as counts
use Rattle.ledger_text.specs.declared.order.LedgerStage.{LedgerStage}
use Rattle.ledger_text.specs.declared.order.LedgerStage.TheVariants as stages
use Rattle.ledger_text.specs.declared.order.LedgerLine.{LedgerLine}
use Rattle.ledger_text.specs.declared.order.LedgerLine.TheVariants as lines
use Rattle.ledger_text.specs.declared.fault.LineFault.{LineFault}
use Rattle.ledger_text.specs.declared.fault.LineFault.TheVariants as faults

-- the head, without its newline
abbrev pub head_line : LedgerVersion → List ℕ
head_line Two = codes "afdx-ledger 2"
head_line Three = codes "afdx-ledger 3"

-- the word that a line of counts begins with
abbrev pub counts_word : Counts → List ℕ
counts_word counts.Link = codes "link"
counts_word counts.Filter = codes "filter"
counts_word counts.Tap = codes "tap"
counts_word counts.Total = codes "total"

-- a line of counts may stand after another: links, then filters, then taps, then the total, and nothing after that
abbrev pub may_follow : Counts → Counts → Bool
may_follow counts.Link next = true
may_follow counts.Filter counts.Link = false
may_follow counts.Filter _ = true
may_follow counts.Tap counts.Link = false
may_follow counts.Tap counts.Filter = false
may_follow counts.Tap _ = true
may_follow counts.Total next = false

-- the line begins with the word of these counts
abbrev pub IsCounts : List ℕ → Counts → Type 0
IsCounts line kind = counts_word kind ≡ first_field (fields_of line)

-- the kind of a line at this place
abbrev pub IsLineAt : LedgerStage → List ℕ → LedgerLine → Type 0
IsLineAt stages.Head line (lines.Head version) = line ≡ head_line version
IsLineAt (stages.Frames version) line (lines.Frame v) = IsFrameText version line v
IsLineAt (stages.Frames version) line (lines.Counts kind) = IsCounts line kind
IsLineAt (stages.Counts last) line (lines.Counts kind) = IsCounts line kind × (may_follow last kind ≡ true)
IsLineAt _ line _ = ⊥

-- the fault of a line at this place, at which none is that stands there
abbrev pub IsLineFaultAt : LedgerStage → List ℕ → LineFault → Type 0
IsLineFaultAt stages.Head line faults.Head = (version : LedgerVersion) → line ≢ head_line version
IsLineFaultAt (stages.Frames version) line (faults.Frame fault) = IsFrameFault version (fields_of line) fault × ((kind : Counts) → IsCounts line kind → ⊥)
IsLineFaultAt (stages.Counts last) line faults.Order = (kind : Counts) → IsCounts line kind → may_follow last kind ≡ true → ⊥
IsLineFaultAt _ line _ = ⊥

-- the reading of a line at this place
abbrev pub IsLineRead : LedgerStage → List ℕ → Result LedgerLine LineFault → Type 0
IsLineRead stage line (Ok read) = IsLineAt stage line read
IsLineRead stage line (Err fault) = IsLineFaultAt stage line fault
