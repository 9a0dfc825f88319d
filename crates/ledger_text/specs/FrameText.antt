-- The line of a frame as its fields, and what is wrong with a line that is none (this project's profile).
use Rattle.std.specs.Prelude.{◌≡◌, ◌≢◌, ℕ, suc, ◌^◌, ◌<◌, Bool, true, false, List, [], ◌∷◌, Some, None, decimal, IfSome, is_some, nat_lt, Option, Result, Ok, Err, if◌then◌else◌, ⊤}
use Rattle.std.specs.Option.{option_map_or}
use Rattle.afdx_frame.specs.View.{link_of, sequence_of}
use Rattle.afdx_frame.specs.declared.key.VlId.{VlId}
use Rattle.vl_judge.specs.Judgement.{IsReached}
use Rattle.verdict_ledger.specs.Entry.{Entry}
use Rattle.redundancy.specs.Word.{redundancy_word}
use Rattle.integrity.specs.Word.{integrity_word}
use Rattle.policing.specs.Word.{policing_word}
use Rattle.vl_config.specs.Class.{class_word, is_addressed}
use Rattle.afdx_frame.specs.Frame.{network_letter}
use Rattle.verdict_ledger.specs.Text.{mask_text}
use Rattle.verdict_ledger.specs.declared.version.LedgerVersion.{LedgerVersion}
use Rattle.verdict_ledger.specs.declared.version.LedgerVersion.TheVariants.{Two, Three}
use Rattle.ledger_text.specs.Reads.{dash_or, Optional, Below}
use Rattle.ledger_text.specs.Fields.{fields_of, first_field, next_fields, Agrees}
use Rattle.ledger_text.specs.declared.frame.FrameLine.{FrameLine}
use Rattle.ledger_text.specs.declared.fault.FrameFault.{FrameFault}
use Rattle.ledger_text.specs.declared.fault.FrameFault.TheVariants as faults

abbrev pub link_text : VlId → List ℕ
link_text id = decimal id.0

-- the field after the mask: the length on the wire, where the line has it
abbrev pub length_fields : Option ℕ → List (List ℕ)
length_fields None = []
length_fields (Some length) = decimal length ∷ []

-- the fields of a frame's line
abbrev pub frame_fields : FrameLine → List (List ℕ)
frame_fields v =
    decimal v.stamp.0 ∷ network_letter v.network ∷ decimal v.number
    ∷ dash_or link_text v.link ∷ dash_or decimal v.sequence
    ∷ class_word v.verdict.class ∷ dash_or policing_word v.verdict.policing ∷ dash_or integrity_word v.verdict.integrity ∷ dash_or redundancy_word v.verdict.redundancy
    ∷ dash_or decimal v.kept ∷ mask_text v.mask ∷ length_fields v.length

-- timestamps are below 2^32 seconds, in nanoseconds
abbrev pub stamp_bound : ℕ
stamp_bound = 4294967296000000000

abbrev pub link_fits : VlId → Type 0
link_fits id = id.0 < 2 ^ 16

-- The mask has eight bits, and names a filter where bytes are kept and nowhere else: the capture holds a frame that a filter accepts.
pub record IsMaskOf (kept : Option ℕ) (mask : ℕ) : Type 0 where
  pub small : mask < 2 ^ 8
  pub names : nat_lt 0 mask ≡ is_some kept

-- a line of version 3 has the length on the wire
abbrev pub has_length : LedgerVersion → Bool
has_length Two = false
has_length Three = true

-- the version of a ledger that has this line
abbrev pub version_of : FrameLine → LedgerVersion
version_of v = option_map_or (λ length. Three) v.length Two

-- The values of a line go together: it has a link and a sequence number where its class says so, each verdict that was reached, bytes kept
-- where its mask names a filter, and a length where its version says so.
pub record IsFrameLine (version : LedgerVersion) (v : FrameLine) : Type 0 where
  pub stamp : v.stamp.0 < stamp_bound
  pub number : v.number < 2 ^ 32
  pub link : Optional link_fits (is_addressed v.verdict.class) v.link
  pub sequence : Optional (Below (2 ^ 8)) (is_addressed v.verdict.class) v.sequence
  pub reached : IsReached v.verdict
  pub kept : IfSome v.kept (Below (2 ^ 32))
  pub mask : IsMaskOf v.kept v.mask
  pub length : Optional (Below (2 ^ 32)) (has_length version) v.length

-- how many fields a line has
abbrev pub field_count : LedgerVersion → ℕ
field_count Two = 11
field_count Three = 12

-- how many fields stand before that of the fault
abbrev pub fields_before : LedgerVersion → FrameFault → ℕ
fields_before version faults.Timestamp = 0
fields_before version faults.Network = 1
fields_before version faults.Index = 2
fields_before version faults.Link = 3
fields_before version faults.Sequence = 4
fields_before version faults.Class = 5
fields_before version faults.Policing = 6
fields_before version faults.Integrity = 7
fields_before version faults.Redundancy = 8
fields_before version faults.Kept = 9
fields_before version faults.Mask = 10
fields_before version faults.Length = 11
fields_before version faults.Fields = field_count version

-- a line of version 2 has no length that may be wrong
abbrev pub MayBeWrong : LedgerVersion → FrameFault → Type 0
MayBeWrong version faults.Length = has_length version ≡ true
MayBeWrong version _ = ⊤

-- The fields before that of the fault stand in some frame's line, and with it they stand in none.
pub record IsFrameFault (version : LedgerVersion) (fields : List (List ℕ)) (fault : FrameFault) : Type 0 where
  pub field : MayBeWrong version fault
  pub before : (v : FrameLine) × IsFrameLine version v × Agrees (fields_before version fault) (frame_fields v) fields
  pub departs : (v : FrameLine) → IsFrameLine version v → Agrees (suc (fields_before version fault)) (frame_fields v) fields → ⊥

-- the line, without its newline, is the text of these values
pub record IsFrameText (version : LedgerVersion) (line : List ℕ) (v : FrameLine) : Type 0 where
  pub values : IsFrameLine version v
  pub fields : fields_of line ≡ frame_fields v

-- the reading of a line
abbrev pub IsReadOf : LedgerVersion → List ℕ → Result FrameLine FrameFault → Type 0
IsReadOf version line (Ok v) = IsFrameText version line v
IsReadOf version line (Err fault) = IsFrameFault version (fields_of line) fault

-- the length stands first of these fields, where there is one, and this holds of those after it
abbrev pub Leads : Option ℕ → (List (List ℕ) → Type 0) → List (List ℕ) → Type 0
Leads None After fields = After fields
Leads (Some length) After fields = (decimal length ≡ first_field fields) × After (next_fields fields)

-- The reading of the fields after the mask: the length alone, where the version has it; or no length stands there, or more does.
abbrev pub IsLengthRead : LedgerVersion → List (List ℕ) → Result (Option ℕ) FrameFault → Type 0
IsLengthRead version fields (Ok length) = Optional (Below (2 ^ 32)) (has_length version) length × Leads length (λ rest. rest ≡ []) fields
IsLengthRead version fields (Err faults.Length) = (has_length version ≡ true) × ((n : ℕ) → n < 2 ^ 32 → decimal n ≡ first_field fields → ⊥)
IsLengthRead version fields (Err faults.Fields) =
    (length : Option ℕ) × Optional (Below (2 ^ 32)) (has_length version) length × Leads length (λ rest. rest ≢ []) fields
IsLengthRead version fields (Err _) = ⊥

-- the length that a line of a version shows
abbrev pub length_shown : LedgerVersion → ℕ → Option ℕ
length_shown Two whole = None
length_shown Three whole = Some whole

-- the line of an entry, as it shows that
abbrev pub shown : LedgerVersion → Entry → FrameLine
shown version e = record {
  stamp = record { 0 = e.frame.stamp };
  network = e.frame.network;
  number = e.frame.number;
  link = if is_addressed e.verdict.class then link_of e.frame.bytes else None;
  sequence = if is_addressed e.verdict.class then sequence_of e.frame.bytes else None;
  verdict = e.verdict;
  kept = e.keep;
  mask = e.mask;
  length = length_shown version e.frame.whole;
}
