-- A ledger that is written is read back whole (this project's format).
use Rattle.std.specs.Prelude.{◌≡◌, ℕ, ◌^◌, ◌<◌, IsTrue, List, [], ◌∷◌, ◌++◌, length, map, take, Option, Some, IfSome}
use Rattle.std.specs.List.{AllByRecursion}
use Rattle.afdx_frame.specs.Frame.{Frame, IsFrame}
use Rattle.ledger_text.specs.FrameText.{IsFrameLine, IsMaskOf, shown}
use Rattle.ledger_text.specs.Ledger.{ReadLine, ReadsLines}
use Rattle.ledger_text.specs.Reader.{IsBadLine, IsFound, Reading}
use Rattle.ledger_text.specs.Reads.{Below}
use Rattle.ledger_text.specs.declared.bounds.TheConstants.{MAX_LINES}
use Rattle.ledger_text.specs.declared.fault.LineFault.{LineFault}
use Rattle.ledger_text.specs.declared.order.Counts.TheVariants as counts
use Rattle.ledger_text.specs.declared.order.LedgerLine.{LedgerLine}
use Rattle.ledger_text.specs.declared.order.LedgerLine.TheVariants as lines
use Rattle.ledger_text.specs.declared.order.LedgerStage.{LedgerStage}
use Rattle.ledger_text.specs.declared.order.LedgerStage.TheVariants as stages
use Rattle.ledger_text.specs.declared.reader.FoundLine.TheVariants as found
use Rattle.ledger_text.specs.declared.reader.LedgerStop.{LedgerStop}
use Rattle.pcap_io.specs.Bytes.{IsBytes}
use Rattle.pcap_io.specs.Word.{frames_before}
use Rattle.pcap_io.specs.declared.recording.Ending.{Ending}
use Rattle.verdict_ledger.specs.Entry.{Entry, entries_of}
use Rattle.verdict_ledger.specs.Tally.{totals_of}
use Rattle.verdict_ledger.specs.Text.{ledger_text}
use Rattle.verdict_ledger.specs.declared.version.LedgerVersion.{LedgerVersion}
use Rattle.vl_config.specs.Document.{VlTable}
use Rattle.vl_config.specs.Link.{VirtualLink, is_name}
use Rattle.vl_judge.specs.Verdicts.{verdicts}

-- ---- all that is written

-- the identifier of a link has 16 bits, and its name is one
pub record IsNamed (link : VirtualLink) : Type 0 where
  pub id : link.id.0 < 2 ^ 16
  pub name : IsTrue (is_name link.name)

-- The line of each entry reads as what it shows, each link has a name, and no count has more than 64 bits.
pub record AreWritable (version : LedgerVersion) (links : List VirtualLink) (entries : List Entry) (a b : Ending) : Type 0 where
  pub shown : AllByRecursion (λ e. IsFrameLine version (shown version e)) entries
  pub named : AllByRecursion IsNamed links
  pub few : length entries < 2 ^ 64
  pub few_a : frames_before a < 2 ^ 64
  pub few_b : frames_before b < 2 ^ 64

-- ---- all that its lines say

-- a line of counts of each link and of each filter, two of taps, and the total
abbrev pub counts_lines : List VirtualLink → List ℕ → List LedgerLine
counts_lines links filters =
    map (λ link. lines.Counts counts.Link) links
    ++ (map (λ accepted. lines.Counts counts.Filter) filters
    ++ lines.Counts counts.Tap ∷ lines.Counts counts.Tap ∷ lines.Counts counts.Total ∷ [])

-- the head, what the line of each frame shows, and the lines of counts
abbrev pub written_lines : LedgerVersion → VlTable → ℕ → List Entry → List LedgerLine
written_lines version vl_table filters entries =
    lines.Head version ∷ (map (λ e. lines.Frame (shown version e)) entries ++ counts_lines vl_table.links (take filters (totals_of entries).filters))

-- A written ledger is lines that say this, one after another, and nothing more.
abbrev pub WrittenLedgerIsRead : Type 0
WrittenLedgerIsRead = (version : LedgerVersion) (vl_table : VlTable) (filters : ℕ) (entries : List Entry) (a b : Ending)
    → AreWritable version vl_table.links entries a b
    → (rs : List ReadLine) × (map (λ r. r.line) rs ≡ written_lines version vl_table filters entries)
    × ReadsLines stages.Head (Some (ledger_text version vl_table filters entries a b)) rs (stages.Counts counts.Total) (Some [])

-- a frame as a recording holds it, which gives its length on the wire 32 bits
pub record IsHeld (f : Frame) : Type 0 where
  pub frame : IsFrame f
  pub whole : f.whole < 2 ^ 32
  pub bytes : IsBytes f.bytes

-- The things that a run puts beside a verdict: the frame, and bytes kept of it where its mask names a filter.
pub record IsKept (e : Entry) : Type 0 where
  pub held : IsHeld e.frame
  pub kept : IfSome e.keep (Below (2 ^ 32))
  pub mask : IsMaskOf e.keep e.mask

-- The lines of frames with their verdicts read as what they show.
abbrev pub VerdictsAreShown : Type 0
VerdictsAreShown = (version : LedgerVersion) (vl_table : VlTable) (frames : List Frame) (keeps : List (Option ℕ)) (masks : List ℕ)
    → AllByRecursion IsKept (entries_of frames (verdicts vl_table frames) keeps masks)
    → AllByRecursion (λ e. IsFrameLine version (shown version e)) (entries_of frames (verdicts vl_table frames) keeps masks)

-- ---- and nothing else is read of it

-- Where bytes are whole lines, those that were read of them are the first, and the others are left.
abbrev pub ReadsFirstLines : Type 0
ReadsFirstLines = (stage here end : LedgerStage) (bytes : List ℕ) (left : Option (List ℕ)) (rs all : List ReadLine)
    → ReadsLines stage (Some bytes) rs here left → ReadsLines stage (Some bytes) all end (Some [])
    → (others : List ReadLine) × (all ≡ rs ++ others) × ReadsLines here left others end (Some [])

-- Where whole lines up to `total` are left, a reader refuses none of them, unless it has read as many as it may.
abbrev pub NoLineIsRefused : Type 0
NoLineIsRefused = (old new : Reading) (bytes line : List ℕ) (others : List ReadLine) (fault : LineFault) → old.left ≡ Some bytes
    → ReadsLines old.stage (Some bytes) others (stages.Counts counts.Total) (Some []) → old.number < MAX_LINES → IsBadLine old new line fault → ⊥

-- And it finds no end before they are read.
abbrev pub NoEndIsFoundBefore : Type 0
NoEndIsFoundBefore = (old new : Reading) (bytes line : List ℕ) (others : List ReadLine) (stop : LedgerStop) → old.left ≡ Some bytes
    → ReadsLines old.stage (Some bytes) others (stages.Counts counts.Total) (Some []) → IsFound old new line (found.Incomplete stop) → ⊥
