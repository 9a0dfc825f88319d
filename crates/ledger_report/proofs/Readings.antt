-- One more line of a ledger that is right.
use Rattle.std.proofs.Common.{◌≡◌, ◌∙◌, ℕ, ◌+◌, ◌<◌, ◌≤◌, Bool, true, false, cond, List, [], ◌∷◌, ◌++◌, length, reverse, count_by, Option, Some, None, is_some, refl, sym, ap, subst, arith}
use Rattle.std.proofs.lemmas.List.Sums.{sum_by-cons}
use Rattle.std.proofs.lemmas.List.{append-nil, length-append, reverse-append, reverse-reverse}
use Rattle.std.specs.Io.KnownBytes.{prepend_known}
use Rattle.afdx_frame.specs.declared.key.Network.{Network}
use Rattle.afdx_frame.specs.declared.key.Network.TheVariants.{A, B}
use Rattle.pcap_io.specs.declared.device.TapSource.{Ghosts as SourceMembers}
use Rattle.vl_config.specs.Document.{VlTable}
use Rattle.verdict_ledger.specs.declared.version.LedgerVersion.{LedgerVersion}
use Rattle.ledger_text.specs.Ledger.{EndsAt, HasReadLines, ReadLine, frame_lines, frames_in, has_failed as ledger_failed, left_of, lent_of, stage_of}
use Rattle.ledger_text.specs.Lines.{unread_of}
use Rattle.ledger_text.specs.Reader.{IsFound, reading_of, source_of}
use Rattle.ledger_text.specs.declared.bounds.TheConstants.{MAX_LINES}
use Rattle.ledger_text.specs.declared.frame.FrameLine.{FrameLine}
use Rattle.ledger_text.specs.declared.order.Counts.{Counts as Kind}
use Rattle.ledger_text.specs.declared.order.Counts.TheVariants as kinds
use Rattle.ledger_text.specs.declared.order.LedgerLine.{LedgerLine}
use Rattle.ledger_text.specs.declared.order.LedgerLine.TheVariants as lines
use Rattle.ledger_text.specs.declared.order.LedgerStage.TheVariants as stages
use Rattle.ledger_text.specs.declared.reader.FoundLine.TheVariants as found
use Rattle.ledger_text.specs.declared.reader.LedgerReader.{LedgerReader}
use Rattle.ledger_text.specs.declared.reader.LedgerStop.{LedgerStop}
use Rattle.ledger_text.proofs.Ledgers.{found_one_more, frame_lines_one_more}
use Rattle.ledger_report.specs.Counts.{AreCountsOf}
use Rattle.ledger_report.specs.CountsLines.{AreCountsRight, HasCounted, HasEndings, IsInPlace, IsRightCounts, IsRightLine, Moves, TakesEnding, Tap, filters_told, is_filter_line, is_link_line, is_whole, links_told, tap_frames, tap_network, taps_in, taps_of}
use Rattle.ledger_report.specs.FrameLines.{HasTaken}
use Rattle.ledger_report.specs.Reading.{HasNoted, IsRead}
use Rattle.ledger_report.specs.TapLines.{IsEnding}
use Rattle.ledger_report.specs.Wrongs.{AreRight, wrong_of}
use Rattle.ledger_report.specs.declared.counts.FrameCounts.{FrameCounts}
use Rattle.ledger_report.specs.declared.counts_lines.CountsLines.{CountsLines}
use Rattle.ledger_report.specs.declared.counts_lines.TapEnding.{TapEnding}
use Rattle.ledger_report.specs.declared.frame_lines.FrameLines.{FrameLines}
use Rattle.findings.specs.declared.per_network.PerNetwork.{PerNetwork}

abbrev pub read_as : List ℕ → LedgerLine → ReadLine
read_as text line = record { text = text; line = line }

-- ---- the lists of lines

-- the lines of frames, the newest first, with one more line
frames_more : (rs : List ReadLine) (r : ReadLine) → reverse (frame_lines (rs ++ r ∷ [])) ≡ reverse (frame_lines rs ++ frames_in r.line)
frames_more rs r = ap (λ (vs : List FrameLine). reverse vs) (frame_lines_one_more rs r)

frame_more : (rs : List ReadLine) (text : List ℕ) (v : FrameLine)
    → reverse (frame_lines (rs ++ read_as text (lines.Frame v) ∷ [])) ≡ v ∷ reverse (frame_lines rs)
frame_more rs text v = frames_more rs (read_as text (lines.Frame v)) ∙ reverse-append (frame_lines rs) (v ∷ [])

lines_more : (rs : List ReadLine) (r : ReadLine) → reverse (rs ++ r ∷ []) ≡ r ∷ reverse rs
lines_more rs r = reverse-append rs (r ∷ [])

-- a ledger that goes on has fewer lines than it may have
one_frame : (line : LedgerLine) → length (frames_in line) ≤ 1
one_frame (lines.Frame v) = omega arith
one_frame (lines.Head version) = omega arith
one_frame (lines.Counts kind) = omega arith

few_frames : (rs : List ReadLine) → length (frame_lines rs) ≤ length rs
few_frames [] = omega arith
few_frames (r ∷ rs) = omega (arith, length-append (frames_in r.line) (frame_lines rs), one_frame r.line, few_frames rs)

pub few_before : {S : Type 0} (s : SourceMembers S) (bytes : Option (List ℕ)) (failures : ℕ) (rs : List ReadLine) (old new : LedgerReader S) (line : LedgerLine)
    → HasReadLines s bytes failures rs old
    → IsFound (reading_of s.remaining s.failures old) (reading_of s.remaining s.failures new) (lent_of new) (found.Line line)
    → length (frame_lines rs) < MAX_LINES
few_before s bytes failures rs old new line h is = omega (arith, few_frames rs, h.number, is.1.3)

-- ---- the lines of counts

count_cons : (p : ReadLine → Bool) (r : ReadLine) (rs : List ReadLine) (n : ℕ) → cond (p r) 1 0 ≡ n → count_by p (r ∷ rs) ≡ n + count_by p rs
count_cons p r rs n is = sum_by-cons (λ y. cond (p y) 1 0) r rs ∙ ap (λ k. k + count_by p rs) is

is_known : (network : Network) (frames : ℕ) (text : List ℕ) (ending : Option TapEnding) → IsEnding network frames text ending → is_some ending ≡ true
is_known network frames text None is = absurd is
is_known network frames text (Some ending) is = refl

-- so many lines `tap` stood
taps_count : (taps : List Tap) (endings : PerNetwork (Option TapEnding)) → HasEndings taps endings → taps_in endings ≡ length taps
taps_count [] endings (a, b) = rw (b, a) refl
taps_count (a ∷ []) endings (is, b) = rw (b, is_known A (tap_frames a.frames A) a.text endings.a is) refl
taps_count (b ∷ a ∷ []) endings (first, second) = rw (is_known B (tap_frames b.frames B) b.text endings.b second) refl
taps_count (c ∷ b ∷ a ∷ taps) endings is = absurd is

endings_more : (taps : List Tap) (tap : Tap) (old new : PerNetwork (Option TapEnding)) → HasEndings taps old → length taps < 2
    → TakesEnding (tap_network (length taps)) (tap_frames tap.frames (tap_network (length taps))) tap.text old new → HasEndings (tap ∷ taps) new
endings_more [] tap old new h few (is, same) = (is, ap (λ (o : Option TapEnding). is_some o) same ∙ h.1)
endings_more (a ∷ []) tap old new h few (is, same) =
    (subst (λ (o : Option TapEnding). IsEnding A (tap_frames a.frames A) a.text o) (sym same) h.0, is)
endings_more (b ∷ a ∷ taps) tap old new h few is = absurd (omega (arith, few))

-- The line is right by the numbers of lines that stood, as by the lines.
right_at : (table : VlTable) (f g : List FrameLine) (i j m n k l : ℕ) (kind : Kind) (text : List ℕ) → f ≡ g → i ≡ j → m ≡ n → k ≡ l
    → IsRightLine table f i m k kind text → IsRightLine table g j n l kind text
right_at table f g i j m n k l kind text one two three four h =
    subst (λ (a : ℕ). IsRightLine table g j n a kind text) four
    (subst (λ (a : ℕ). IsRightLine table g j a k kind text) three
    (subst (λ (a : ℕ). IsRightLine table g a m k kind text) two
    (subst (λ (vs : List FrameLine). IsRightLine table vs i m k kind text) one h)))

frames_back : (rs : List ReadLine) → frame_lines rs ≡ frame_lines (reverse (reverse rs))
frames_back rs = ap (λ (qs : List ReadLine). frame_lines qs) (sym (reverse-reverse rs))

pub right_counts : (table : VlTable) (rs : List ReadLine) (counted : CountsLines) (kind : Kind) (text : List ℕ) → HasCounted (reverse rs) counted
    → IsRightLine table (frame_lines rs) counted.links counted.filters (taps_in counted.endings) kind text
    → IsRightCounts table (reverse rs) kind text
right_counts table rs counted kind text h is =
    right_at table (frame_lines rs) (frame_lines (reverse (reverse rs))) counted.links (links_told (reverse rs)) counted.filters
    (filters_told (reverse rs)) (taps_in counted.endings) (length (taps_of (reverse rs))) kind text (frames_back rs) h.links h.filters
    (taps_count (taps_of (reverse rs)) counted.endings h.endings) is

pub right_line : (table : VlTable) (rs : List ReadLine) (counted : CountsLines) (kind : Kind) (text : List ℕ) → HasCounted (reverse rs) counted
    → IsRightCounts table (reverse rs) kind text
    → IsRightLine table (frame_lines rs) counted.links counted.filters (taps_in counted.endings) kind text
right_line table rs counted kind text h is =
    right_at table (frame_lines (reverse (reverse rs))) (frame_lines rs) (links_told (reverse rs)) counted.links (filters_told (reverse rs))
    counted.filters (length (taps_of (reverse rs))) (taps_in counted.endings) kind text (sym (frames_back rs)) (sym h.links) (sym h.filters)
    (sym (taps_count (taps_of (reverse rs)) counted.endings h.endings)) is

-- a line that isn't one of counts
same_counts : (qs : List ReadLine) (counted : CountsLines) (text : List ℕ) (line : LedgerLine) → links_told (read_as text line ∷ qs) ≡ 0 + links_told qs
    → filters_told (read_as text line ∷ qs) ≡ 0 + filters_told qs → is_whole (read_as text line ∷ qs) ≡ is_whole qs
    → taps_of (read_as text line ∷ qs) ≡ taps_of qs → HasCounted qs counted → HasCounted (read_as text line ∷ qs) counted
same_counts qs counted text line links filters whole taps h = record {
  links = omega (arith, h.links, links);
  filters = omega (arith, h.filters, filters);
  whole = h.whole ∙ sym whole;
  endings = subst (λ (ts : List Tap). HasEndings ts counted.endings) (sym taps) h.endings;
}

counted_frame : (qs : List ReadLine) (counted : CountsLines) (text : List ℕ) (v : FrameLine) → HasCounted qs counted
    → HasCounted (read_as text (lines.Frame v) ∷ qs) counted
counted_frame qs counted text v =
    same_counts qs counted text (lines.Frame v) (count_cons (λ r. is_link_line r.line) (read_as text (lines.Frame v)) qs 0 refl)
    (count_cons (λ r. is_filter_line r.line) (read_as text (lines.Frame v)) qs 0 refl) refl refl

pub counted_head : (qs : List ReadLine) (counted : CountsLines) (text : List ℕ) (version : LedgerVersion) → HasCounted qs counted
    → HasCounted (read_as text (lines.Head version) ∷ qs) counted
counted_head qs counted text version =
    same_counts qs counted text (lines.Head version) (count_cons (λ r. is_link_line r.line) (read_as text (lines.Head version)) qs 0 refl)
    (count_cons (λ r. is_filter_line r.line) (read_as text (lines.Head version)) qs 0 refl) refl refl

counted_by : (qs : List ReadLine) (table : VlTable) (fs : List FrameLine) (old new : CountsLines) (text : List ℕ) (kind : Kind)
    → fs ≡ frame_lines (reverse qs) → HasCounted qs old → IsInPlace table old.links old.filters (taps_in old.endings) kind
    → Moves fs kind text old new → links_told (read_as text (lines.Counts kind) ∷ qs) ≡ cond (is_link_line (lines.Counts kind)) 1 0 + links_told qs
    → filters_told (read_as text (lines.Counts kind) ∷ qs) ≡ cond (is_filter_line (lines.Counts kind)) 1 0 + filters_told qs
    → HasCounted (read_as text (lines.Counts kind) ∷ qs) new
counted_by qs table fs old new text kinds.Link frames h place moves links filters = record {
  links = omega (arith, moves.0, h.links, links);
  filters = omega (arith, moves.1, h.filters, filters);
  whole = moves.2 ∙ h.whole;
  endings = subst (λ (e : PerNetwork (Option TapEnding)). HasEndings (taps_of qs) e) (sym moves.3) h.endings;
}
counted_by qs table fs old new text kinds.Filter frames h place moves links filters = record {
  links = omega (arith, moves.0, h.links, links);
  filters = omega (arith, moves.1, h.filters, filters);
  whole = moves.2 ∙ h.whole;
  endings = subst (λ (e : PerNetwork (Option TapEnding)). HasEndings (taps_of qs) e) (sym moves.3) h.endings;
}
counted_by qs table fs old new text kinds.Tap frames h place moves links filters =
    let count = taps_count (taps_of qs) old.endings h.endings in
    let taken = subst (λ (n : ℕ). TakesEnding (tap_network n) (tap_frames fs (tap_network n)) text old.endings new.endings) count moves.3 in record {
      links = omega (arith, moves.0, h.links, links);
      filters = omega (arith, moves.1, h.filters, filters);
      whole = moves.2 ∙ h.whole;
      endings = endings_more (taps_of qs) (record { text = text; frames = frame_lines (reverse qs) }) old.endings new.endings h.endings
          (omega (arith, count, place.1))
          (subst (λ (vs : List FrameLine). TakesEnding (tap_network (length (taps_of qs))) (tap_frames vs (tap_network (length (taps_of qs)))) text
          old.endings new.endings) frames taken);
    }
counted_by qs table fs old new text kinds.Total frames h place moves links filters = record {
  links = omega (arith, moves.0, h.links, links);
  filters = omega (arith, moves.1, h.filters, filters);
  whole = moves.2;
  endings = subst (λ (e : PerNetwork (Option TapEnding)). HasEndings (taps_of qs) e) (sym moves.3) h.endings;
}

pub counted_more : (rs : List ReadLine) (table : VlTable) (old new : CountsLines) (text : List ℕ) (kind : Kind) → HasCounted (reverse rs) old
    → IsInPlace table old.links old.filters (taps_in old.endings) kind → Moves (frame_lines rs) kind text old new
    → HasCounted (read_as text (lines.Counts kind) ∷ reverse rs) new
counted_more rs table old new text kind h place moves =
    counted_by (reverse rs) table (frame_lines rs) old new text kind (frames_back rs) h place moves
    (count_cons (λ r. is_link_line r.line) (read_as text (lines.Counts kind)) (reverse rs) (cond (is_link_line (lines.Counts kind)) 1 0) refl)
    (count_cons (λ r. is_filter_line r.line) (read_as text (lines.Counts kind)) (reverse rs) (cond (is_filter_line (lines.Counts kind)) 1 0) refl)

-- ---- a reading

abbrev pub line_of : {S : Type 0} → LedgerReader S → LedgerLine → ReadLine
line_of reader line = read_as (lent_of reader) line

abbrev pub IsNoting : {S : Type 0} → SourceMembers S → Option (List ℕ) → ℕ → VlTable → LedgerReader S → FrameCounts → FrameLines → CountsLines → Type 0
IsNoting s bytes failures table ledger counts frames counted = (rs : List ReadLine) × HasNoted s bytes failures table rs ledger counts frames counted

module _ {S : Type 0} (s : SourceMembers S) (bytes : Option (List ℕ)) (failures : ℕ) (table : VlTable) (rs : List ReadLine) (old new : LedgerReader S)
    (was : FrameCounts) (before : FrameLines) (counted : CountsLines) (h : HasNoted s bytes failures table rs old was before counted) where
  pub frame_noted : (v : FrameLine) (now : FrameCounts) (after : FrameLines)
      → IsFound (reading_of s.remaining s.failures old) (reading_of s.remaining s.failures new) (lent_of new) (found.Line (lines.Frame v))
      → ledger_failed new ≡ false → AreCountsOf (frame_lines rs ++ v ∷ []) now → wrong_of table.links (reverse (frame_lines rs)) v ≡ None
      → HasTaken (v ∷ reverse (frame_lines rs)) after → IsNoting s bytes failures table new now after counted
  frame_noted v now after is sound counts right taken =
      let more = sym (frame_more rs (lent_of new) v) in
      let one = sym (lines_more rs (line_of new (lines.Frame v))) in (
        rs ++ line_of new (lines.Frame v) ∷ [],
        record {
          read = found_one_more s bytes failures rs old new (lines.Frame v) h.read is sound;
          right = record {
            frames = subst (λ (vs : List FrameLine). AreRight table.links vs) more (right, h.right.frames);
            counts = subst (λ (qs : List ReadLine). AreCountsRight table qs) one (tt, h.right.counts);
          };
          counts_are = subst (λ (vs : List FrameLine). AreCountsOf vs now) (sym (frame_lines_one_more rs (line_of new (lines.Frame v)))) counts;
          frames_are = subst (λ (vs : List FrameLine). HasTaken vs after) more taken;
          counted_are = subst (λ (qs : List ReadLine). HasCounted qs counted) one
              (counted_frame (reverse rs) counted (lent_of new) v h.counted_are);
        },
      )

  pub other_noted : (line : LedgerLine) (now : CountsLines) → frames_in line ≡ []
      → IsFound (reading_of s.remaining s.failures old) (reading_of s.remaining s.failures new) (lent_of new) (found.Line line)
      → ledger_failed new ≡ false → AreCountsRight table (line_of new line ∷ reverse rs) → HasCounted (line_of new line ∷ reverse rs) now
      → IsNoting s bytes failures table new was before now
  other_noted line now none is sound right moved =
      let same = sym (frame_lines_one_more rs (line_of new line) ∙ ap (λ (vs : List FrameLine). frame_lines rs ++ vs) none
      ∙ append-nil (frame_lines rs)) in
      let one = sym (lines_more rs (line_of new line)) in (
        rs ++ line_of new line ∷ [],
        record {
          read = found_one_more s bytes failures rs old new line h.read is sound;
          right = record {
            frames = subst (λ (vs : List FrameLine). AreRight table.links (reverse vs)) same h.right.frames;
            counts = subst (λ (qs : List ReadLine). AreCountsRight table qs) one right;
          };
          counts_are = subst (λ (vs : List FrameLine). AreCountsOf vs was) same h.counts_are;
          frames_are = subst (λ (vs : List FrameLine). HasTaken (reverse vs) before) same h.frames_are;
          counted_are = subst (λ (qs : List ReadLine). HasCounted qs now) one moved;
        },
      )

  pub all_read : (stop : Option LedgerStop) → EndsAt rs (stage_of old) (left_of s old) stop
      → IsRead bytes table stop was counted.endings counted.whole
  all_read stop at = record {
    rs = rs;
    stage = stage_of old;
    left = left_of s old;
    lines = h.read.lines;
    right = h.right;
    ends = at;
    counts_are = h.counts_are;
    endings_are = h.counted_are.endings;
    whole_is = h.counted_are.whole;
  }

-- ---- nothing is read yet

prepend_none : (bytes : Option (List ℕ)) → bytes ≡ prepend_known [] bytes
prepend_none None = refl
prepend_none (Some xs) = refl

none_ahead : (unread : List ℕ) (bytes : Option (List ℕ)) → unread ≡ [] → bytes ≡ prepend_known unread bytes
none_ahead unread bytes none = rw none (prepend_none bytes)

reads_nothing : {S : Type 0} (s : SourceMembers S) (source : S) (reader : LedgerReader S) → source_of reader ≡ source → unread_of reader.lines ≡ []
    → (reader.stage ≡ stages.Head) × (reader.number ≡ 0) × (reader.failed ≡ false)
    → HasReadLines s (s.remaining source) (s.failures source) [] reader
reads_nothing {S = S} s source reader same none (stage, number, sound) = record {
  lines = (sym stage, ap (λ (x : S). s.remaining x) (sym same) ∙ none_ahead (unread_of reader.lines) (s.remaining (source_of reader)) none);
  number = number;
  sound = sound;
  no_failure = ap (λ (x : S). s.failures x) same;
}

pub notes_nothing : {S : Type 0} (s : SourceMembers S) (source : S) (table : VlTable) (reader : LedgerReader S) (counts : FrameCounts)
    (frames : FrameLines) (counted : CountsLines) → source_of reader ≡ source → unread_of reader.lines ≡ []
    → (reader.stage ≡ stages.Head) × (reader.number ≡ 0) × (reader.failed ≡ false)
    → AreCountsOf [] counts → HasTaken [] frames → HasCounted [] counted
    → HasNoted s (s.remaining source) (s.failures source) table [] reader counts frames counted
notes_nothing s source table reader counts frames counted same none start counts_are frames_are counted_are = record {
  read = reads_nothing s source reader same none start;
  right = record { frames = tt; counts = tt };
  counts_are = counts_are;
  frames_are = frames_are;
  counted_are = counted_are;
}
