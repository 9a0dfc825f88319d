-- A ledger as its lines: what a reader has read from its beginning on (this project's format).
use Rattle.std.specs.Prelude.{◌≡◌, ℕ, ◌<◌, List, [], ◌∷◌, ◌++◌, length, flat_map, Bool, true, false, Option, Some, None}
use Rattle.std.specs.Io.KnownBytes.{Consumes}
use Rattle.pcap_io.specs.declared.device.TapSource.{Ghosts as SourceMembers}
use Rattle.ledger_text.specs.Lines.{IsNextLine, lent_line, lines_left}
use Rattle.ledger_text.specs.Newlines.{NoNewline}
use Rattle.ledger_text.specs.Order.{IsLineAt}
use Rattle.ledger_text.specs.Places.{has_total, stage_after}
use Rattle.ledger_text.specs.Reader.{last_of, source_of}
use Rattle.ledger_text.specs.declared.bounds.TheConstants.{BLOCK_LEN}
use Rattle.ledger_text.specs.declared.frame.FrameLine.{FrameLine}
use Rattle.ledger_text.specs.declared.order.LedgerLine.{LedgerLine}
use Rattle.ledger_text.specs.declared.order.LedgerLine.TheVariants as lines
use Rattle.ledger_text.specs.declared.order.LedgerStage.{LedgerStage}
use Rattle.ledger_text.specs.declared.order.LedgerStage.TheVariants as stages
use Rattle.ledger_text.specs.declared.reader.LedgerReader.{LedgerReader}
use Rattle.ledger_text.specs.declared.reader.LedgerStop.{LedgerStop}

-- a line without its newline, and what it says
pub record ReadLine : Type 0 where
  pub text : List ℕ
  pub line : LedgerLine

-- The bytes begin with this line and its newline, which stands at this place.
pub record TakesLine (stage : LedgerStage) (before after : Option (List ℕ)) (r : ReadLine) : Type 0 where
  pub one : NoNewline r.text
  pub short : length r.text < BLOCK_LEN
  pub gone : Consumes before after (r.text ++ 10 ∷ [])
  pub stands : IsLineAt stage r.text r.line

-- Nothing is left; or the beginning of a line, and nothing after it.
abbrev pub LeavesPart : Bool → Option (List ℕ) → Type 0
LeavesPart within left = (part : List ℕ) × (rest : Option (List ℕ)) × IsNextLine left rest part (last_of within)

-- The bytes begin with these lines, one after another, which lead from the first place and bytes to the last.
abbrev pub ReadsLines : LedgerStage → Option (List ℕ) → List ReadLine → LedgerStage → Option (List ℕ) → Type 0
ReadsLines stage before [] stage2 after = (stage ≡ stage2) × (before ≡ after)
ReadsLines stage before (r ∷ rs) stage2 after =
    (mid : Option (List ℕ)) × TakesLine stage before mid r × ReadsLines (stage_after r.line) mid rs stage2 after

-- How a ledger ends after these lines: after its line `total`, and nothing is left; or before it, and nothing is left or the beginning of a
-- line, which has no newline.
abbrev pub EndsAt : List ReadLine → LedgerStage → Option (List ℕ) → Option LedgerStop → Type 0
EndsAt rs stage left None = (has_total stage ≡ true) × LeavesPart false left
EndsAt rs stage left (Some stop) = (has_total stage ≡ false) × (stop.lines ≡ length rs) × LeavesPart stop.within_line left

-- all that the lines of frames say, in their order
abbrev pub frames_in : LedgerLine → List FrameLine
frames_in (lines.Frame v) = v ∷ []
frames_in line = []

abbrev pub frame_lines : List ReadLine → List FrameLine
frame_lines rs = flat_map (λ r. frames_in r.line) rs

-- A reader has read these lines of a ledger from its beginning on, and no fault was found.
pub record HasReadLines {S : Type 0} (s : SourceMembers S) (bytes : Option (List ℕ)) (failures : ℕ) (rs : List ReadLine) (reader : LedgerReader S) : Type 0 where
  pub lines : ReadsLines stages.Head bytes rs reader.stage (lines_left s.remaining reader.lines)
  pub number : reader.number ≡ length rs
  pub sound : reader.failed ≡ false
  pub no_failure : s.failures (source_of reader) ≡ failures

-- a reader has failed
abbrev pub has_failed : {S : Type 0} → LedgerReader S → Bool
has_failed reader = reader.failed

-- where it stands: what stands before the next line, how many lines do, and what is left
abbrev pub stage_of : {S : Type 0} → LedgerReader S → LedgerStage
stage_of reader = reader.stage

abbrev pub number_of : {S : Type 0} → LedgerReader S → ℕ
number_of reader = reader.number

abbrev pub left_of : {S : Type 0} → SourceMembers S → LedgerReader S → Option (List ℕ)
left_of s reader = lines_left s.remaining reader.lines

abbrev pub lent_of : {S : Type 0} → LedgerReader S → List ℕ
lent_of reader = lent_line reader.lines
