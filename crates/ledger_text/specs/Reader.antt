-- A reader of a ledger, as contracts see it.
use Rattle.std.specs.Prelude.{◌≡◌, ℕ, ◌+◌, List, Option, Bool, true, false}
use Rattle.std.specs.Io.KnownBytes.{Keeps}
use Rattle.pcap_io.specs.Device.{CountsFailure}
use Rattle.ledger_text.specs.Newlines.{NoNewline}
use Rattle.ledger_text.specs.Lines.{IsNextLine, line_source, lines_left}
use Rattle.ledger_text.specs.Places.{IsLineRefused, IsRead, has_total}
use Rattle.ledger_text.specs.declared.lines.LineFound.{LineFound}
use Rattle.ledger_text.specs.declared.lines.LineFound.TheVariants as next
use Rattle.ledger_text.specs.declared.order.LedgerStage.{LedgerStage}
use Rattle.ledger_text.specs.declared.fault.LineFault.{LineFault}
use Rattle.ledger_text.specs.declared.fault.LineFault.TheVariants as wrong
use Rattle.ledger_text.specs.declared.fault.ReadFault.{ReadFault}
use Rattle.ledger_text.specs.declared.fault.ReadFault.TheVariants as faults
use Rattle.ledger_text.specs.declared.reader.FoundLine.{FoundLine}
use Rattle.ledger_text.specs.declared.reader.FoundLine.TheVariants as found
use Rattle.ledger_text.specs.declared.reader.LedgerReader.{LedgerReader}

-- the source that it reads from
abbrev pub source_of : {S : Type 0} → LedgerReader S → S
source_of reader = line_source reader.lines

-- Where it stands: what stands before the next line, how many lines do, which bytes are left where the source exposes them, and how
-- often the source has failed.
pub record Reading : Type 0 where
  pub stage : LedgerStage
  pub number : ℕ
  pub left : Option (List ℕ)
  pub failures : ℕ

abbrev pub reading_of : {S : Type 0} → (S → Option (List ℕ)) → (S → ℕ) → LedgerReader S → Reading
reading_of remaining failures reader = record {
  stage = reader.stage;
  number = reader.number;
  left = lines_left remaining reader.lines;
  failures = failures (source_of reader);
}

-- the reader stands at the same place
abbrev pub Stays : Reading → Reading → Type 0
Stays old new = (new.stage ≡ old.stage) × (new.number ≡ old.number) × (new.failures ≡ old.failures)

-- all that is found last: a line without a newline, or nothing
abbrev pub last_of : Bool → LineFound
last_of true = next.Unended
last_of false = next.End

-- The next line of the bytes is the one that is lent, and stands at its place; or nothing is left after the line `total`; or before it nothing
-- or the beginning of a line is, which is lent.
abbrev pub IsFound : Reading → Reading → List ℕ → FoundLine → Type 0
IsFound old new line (found.Line read) =
    IsNextLine old.left new.left line next.Line × IsRead old.stage old.number line new.stage new.number (found.Line read) × (new.failures ≡ old.failures)
IsFound old new line found.Complete = (has_total old.stage ≡ true) × IsNextLine old.left new.left line next.End × Stays old new
IsFound old new line (found.Incomplete stop) =
    (has_total old.stage ≡ false) × (stop.lines ≡ old.number) × IsNextLine old.left new.left line (last_of stop.within_line) × Stays old new

-- the fault of the next line of the bytes
abbrev pub IsBadLine : Reading → Reading → List ℕ → LineFault → Type 0
IsBadLine old new line wrong.Newline = (has_total old.stage ≡ true) × IsNextLine old.left new.left line next.Unended
IsBadLine old new line wrong.Long = IsNextLine old.left new.left line next.Long
IsBadLine old new line fault = IsNextLine old.left new.left line next.Line × IsLineRefused old.stage old.number line fault

-- The source failed, and no byte that it gave is lost, of which none ends a line; or the next line is wrong.
abbrev pub IsReadFault : Reading → Reading → List ℕ → List ℕ → ReadFault → Type 0
IsReadFault old new line unread faults.Device = CountsFailure old.failures new.failures × Keeps old.left new.left × NoNewline unread
IsReadFault old new line unread (faults.Line n fault) = (n ≡ old.number + 1) × IsBadLine old new line fault × (new.failures ≡ old.failures)
IsReadFault old new line unread faults.Failed = ⊥
