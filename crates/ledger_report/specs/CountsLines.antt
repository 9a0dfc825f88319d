-- Which lines of counts may stand after a ledger's lines, and what they say (this project's format). Lists of a ledger's lines stand with the
-- newest first.
use Rattle.std.specs.Prelude.{◌≡◌, ℕ, zero, suc, ◌+◌, ◌<◌, ◌≤◌, Bool, true, false, List, [], ◌∷◌, ◌++◌, codes, count_by, length, reverse, slice_index_or, Option, is_some, Result, Ok, Err, if◌then◌else◌, ⊤}
use Rattle.std.specs.List.{list_any}
use Rattle.afdx_frame.specs.declared.key.Network.{Network}
use Rattle.afdx_frame.specs.declared.key.Network.TheVariants.{A, B}
use Rattle.vl_config.specs.Document.{VlTable}
use Rattle.vl_config.specs.Link.{VirtualLink}
use Rattle.verdict_ledger.specs.Text.{filter_line, link_line, total_line}
use Rattle.ledger_text.specs.Ledger.{ReadLine, frame_lines}
use Rattle.ledger_text.specs.declared.frame.FrameLine.{FrameLine}
use Rattle.ledger_text.specs.declared.order.Counts.{Counts as Kind}
use Rattle.ledger_text.specs.declared.order.Counts.TheVariants as kinds
use Rattle.ledger_text.specs.declared.order.LedgerLine.{LedgerLine}
use Rattle.ledger_text.specs.declared.order.LedgerLine.TheVariants as lines
use Rattle.ledger_report.specs.Counts.{counts_of, filter_count, link_counts, network_counts}
use Rattle.ledger_report.specs.TapLines.{IsEnding, IsTapLine, Said}
use Rattle.ledger_report.specs.declared.counts_lines.CountsLines.{CountsLines}
use Rattle.ledger_report.specs.declared.counts_lines.TapEnding.{TapEnding}
use Rattle.ledger_report.specs.declared.fault.Refusal.{Refusal}
use Rattle.ledger_report.specs.declared.fault.Refusal.TheVariants as refusals
use Rattle.ledger_report.specs.declared.fault.WrongLine.TheVariants as wrongs
use Rattle.findings.specs.declared.per_network.PerNetwork.{PerNetwork}

-- ---- which lines

abbrev pub is_link_line : LedgerLine → Bool
is_link_line (lines.Counts kinds.Link) = true
is_link_line _ = false

abbrev pub is_filter_line : LedgerLine → Bool
is_filter_line (lines.Counts kinds.Filter) = true
is_filter_line _ = false

abbrev pub is_total_line : LedgerLine → Bool
is_total_line (lines.Counts kinds.Total) = true
is_total_line _ = false

abbrev pub links_told : List ReadLine → ℕ
links_told rs = count_by (λ r. is_link_line r.line) rs

abbrev pub filters_told : List ReadLine → ℕ
filters_told rs = count_by (λ r. is_filter_line r.line) rs

-- The ledger has its last line.
abbrev pub is_whole : List ReadLine → Bool
is_whole rs = list_any (λ r. is_total_line r.line) rs

-- a line `tap`, and the lines of frames before it
pub record Tap : Type 0 where
  pub text : List ℕ
  pub frames : List FrameLine

-- one more, where the line is one
abbrev pub taps_with : LedgerLine → ReadLine → List ReadLine → List Tap → List Tap
taps_with (lines.Counts kinds.Tap) r before taps = record { text = r.text; frames = frame_lines (reverse before) } ∷ taps
taps_with line r before taps = taps

-- the lines `tap` of a ledger
abbrev pub taps_of : List ReadLine → List Tap
taps_of [] = []
taps_of (r ∷ before) = taps_with r.line r before (taps_of before)

-- the network that the next line `tap` is of: network A has the first
abbrev pub tap_network : ℕ → Network
tap_network zero = A
tap_network (suc n) = B

-- how many of these lines of frames are the network's
abbrev pub tap_frames : List FrameLine → Network → ℕ
tap_frames frames network = (network_counts frames network).frames

-- Both endings are what these lines say. No ending is known where there is no line of it.
abbrev pub HasEndings : List Tap → PerNetwork (Option TapEnding) → Type 0
HasEndings [] endings = (is_some endings.a ≡ false) × (is_some endings.b ≡ false)
HasEndings (a ∷ []) endings = IsEnding A (tap_frames a.frames A) a.text endings.a × (is_some endings.b ≡ false)
HasEndings (b ∷ a ∷ []) endings = IsEnding A (tap_frames a.frames A) a.text endings.a × IsEnding B (tap_frames b.frames B) b.text endings.b
HasEndings taps endings = ⊥

-- ---- which line of counts may stand next

-- Where so many lines of links, of filters and of taps stand before: the lines of filters stand after those of all links, one for each filter of the
-- table and one more, then both lines `tap`, and then the line `total`.
abbrev pub IsInPlace : VlTable → ℕ → ℕ → ℕ → Kind → Type 0
IsInPlace table links filters taps kinds.Link = links < length table.links
IsInPlace table links filters taps kinds.Filter = (length table.links ≤ links) × (filters ≤ length table.filters)
IsInPlace table links filters taps kinds.Tap = (length table.filters < filters) × (taps < 2)
IsInPlace table links filters taps kinds.Total = 2 ≤ taps

-- A line and its newline are this text.
abbrev pub Writes : List ℕ → List ℕ → Type 0
Writes line text = line ++ codes "\n" ≡ text

-- Of these lines of frames, where so many lines of counts stand before: the line of a link is that of the table's next, the line of a filter that
-- of the next filter, a line `tap` says how the recording of the next network ends, after as many frames as there are lines of it, and the line
-- `total` is that of all frames.
abbrev pub SaysCounts : VlTable → List FrameLine → ℕ → ℕ → ℕ → Kind → List ℕ → Type 0
SaysCounts table frames links filters taps kinds.Link text =
    (link : VirtualLink)
    → Writes text (link_line (slice_index_or table.links links link) (link_counts frames (slice_index_or table.links links link).id.0))
SaysCounts table frames links filters taps kinds.Filter text = Writes text (filter_line filters (filter_count frames filters))
SaysCounts table frames links filters taps kinds.Tap text =
    (said : Said) × IsTapLine (tap_network taps) (tap_frames frames (tap_network taps)) said text
SaysCounts table frames links filters taps kinds.Total text = Writes text (total_line (counts_of frames))

-- The line is that of these lines of frames, where so many lines of counts stand before.
pub record IsRightLine (table : VlTable) (frames : List FrameLine) (links filters taps : ℕ) (kind : Kind) (text : List ℕ) : Type 0 where
  pub place : IsInPlace table links filters taps kind
  pub says : SaysCounts table frames links filters taps kind text

-- The line of counts is that of these lines of the ledger.
abbrev pub IsRightCounts : VlTable → List ReadLine → Kind → List ℕ → Type 0
IsRightCounts table before kind text =
    IsRightLine table (frame_lines (reverse before)) (links_told before) (filters_told before) (length (taps_of before)) kind text

-- So is it, where the line is one of counts.
abbrev pub IsRightNext : VlTable → List ReadLine → LedgerLine → List ℕ → Type 0
IsRightNext table before (lines.Counts kind) text = IsRightCounts table before kind text
IsRightNext table before line text = ⊤

-- Each line of counts is that of the lines before it.
abbrev pub AreCountsRight : VlTable → List ReadLine → Type 0
AreCountsRight table [] = ⊤
AreCountsRight table (r ∷ before) = IsRightNext table before r.line r.text × AreCountsRight table before

-- A line of counts is taken where it is right, and refused where it isn't; or there is no memory.
abbrev pub TakesWhere : Type 0 → Result (Unit {0}) Refusal → Type 0
TakesWhere P (Ok _) = P
TakesWhere P (Err (refusals.Wrong wrong)) = (wrong ≡ wrongs.Counts) × (P → ⊥)
TakesWhere P (Err refusals.Memory) = ⊤

-- ---- in a reading

-- So many lines of counts stood among these, and the endings are what they say.
pub record HasCounted (rs : List ReadLine) (counted : CountsLines) : Type 0 where
  pub links : counted.links ≡ links_told rs
  pub filters : counted.filters ≡ filters_told rs
  pub whole : counted.whole ≡ is_whole rs
  pub endings : HasEndings (taps_of rs) counted.endings

-- how many lines `tap` stood
abbrev pub taps_in : PerNetwork (Option TapEnding) → ℕ
taps_in endings = if is_some endings.b then 2 else (if is_some endings.a then 1 else 0)

-- One more ending is known, that of the network.
abbrev pub TakesEnding : Network → ℕ → List ℕ → PerNetwork (Option TapEnding) → PerNetwork (Option TapEnding) → Type 0
TakesEnding A frames text old new = IsEnding A frames text new.a × (new.b ≡ old.b)
TakesEnding B frames text old new = IsEnding B frames text new.b × (new.a ≡ old.a)

-- One more line of its kind stands. A line `tap` makes the ending of the next network known.
abbrev pub Moves : List FrameLine → Kind → List ℕ → CountsLines → CountsLines → Type 0
Moves frames kinds.Link text old new =
    (new.links ≡ old.links + 1) × (new.filters ≡ old.filters) × (new.whole ≡ old.whole) × (new.endings ≡ old.endings)
Moves frames kinds.Filter text old new =
    (new.links ≡ old.links) × (new.filters ≡ old.filters + 1) × (new.whole ≡ old.whole) × (new.endings ≡ old.endings)
Moves frames kinds.Tap text old new =
    (new.links ≡ old.links) × (new.filters ≡ old.filters) × (new.whole ≡ old.whole)
    × TakesEnding (tap_network (taps_in old.endings)) (tap_frames frames (tap_network (taps_in old.endings))) text old.endings new.endings
Moves frames kinds.Total text old new =
    (new.links ≡ old.links) × (new.filters ≡ old.filters) × (new.whole ≡ true) × (new.endings ≡ old.endings)
