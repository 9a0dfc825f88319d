-- One more line of the ledger beside what is noted of it.
use Rattle.std.proofs.Common.{◌≡◌, ◌∙◌, ℕ, false, List, [], ◌∷◌, ◌++◌, Option, None, sym, ap, subst, inr}
use Rattle.std.proofs.lemmas.List.{append-nil}
use Rattle.ledger_text.specs.Ledger.{EndsAt, ReadLine, frame_lines, frames_in, has_failed as ledger_failed, left_of, lent_of, stage_of}
use Rattle.ledger_text.specs.Lines.{unread_of}
use Rattle.ledger_text.specs.Reader.{IsFound, IsReadFault, reading_of, source_of}
use Rattle.ledger_text.specs.declared.fault.ReadFault.{ReadFault}
use Rattle.ledger_text.specs.declared.fault.ReadFault.TheVariants as read
use Rattle.ledger_text.specs.declared.frame.FrameLine.{FrameLine}
use Rattle.ledger_text.specs.declared.order.LedgerLine.{LedgerLine}
use Rattle.ledger_text.specs.declared.order.LedgerLine.TheVariants as lines
use Rattle.ledger_text.specs.declared.reader.FoundLine.TheVariants as found
use Rattle.ledger_text.specs.declared.reader.LedgerReader.{LedgerReader}
use Rattle.ledger_text.specs.declared.reader.LedgerStop.{LedgerStop}
use Rattle.ledger_text.proofs.Ledgers.{found_one_more, frame_lines_one_more}
use Rattle.ledger_text.specs.Neighbours.{HasAsked, HasNoted}
use Rattle.ledger_text.specs.declared.chooser.Chooser.{Chooser}
use Rattle.ledger_text.specs.declared.neighbours.Neighbours.{Neighbours}
use Rattle.ledger_text.specs.declared.selection.Selection.{Selection}
use Rattle.run_fault.specs.Device.{SourceMembers, SourceView}
use Rattle.cut_run.specs.Cut.{ledger_fault}
use Rattle.cut_run.specs.Noting.{EndsNoting, HasNotedLines, StopsNoting}
use Rattle.cut_run.specs.declared.fault.CutFault.TheVariants as faults
use Rattle.cut_run.proofs.Ledgers.{bad_next, line_of, part_ahead, stops_after}

-- so many lines, and what was noted of them
abbrev pub IsNoting : {L : Type 0} → SourceMembers L → Selection → ℕ → SourceView → LedgerReader L → Chooser → Neighbours → Type 0
IsNoting l selection count before ledger chooser neighbours = (rs : List ReadLine) × HasNotedLines l selection count before rs ledger chooser neighbours

-- ---- the next line

pub frame_noted : {L : Type 0} (l : SourceMembers L) (selection : Selection) (count : ℕ) (before : SourceView) (rs : List ReadLine) (old new : LedgerReader L)
    (was now : Chooser) (neighbours noted : Neighbours) (v : FrameLine) → HasNotedLines l selection count before rs old was neighbours
    → IsFound (reading_of l.remaining l.failures old) (reading_of l.remaining l.failures new) (lent_of new) (found.Line (lines.Frame v)) → ledger_failed new ≡ false
    → HasAsked selection None (frame_lines rs ++ v ∷ []) now → HasNoted selection (record { count = count; lines = frame_lines rs ++ v ∷ [] }) noted
    → IsNoting l selection count before new now noted
frame_noted l selection count before rs old new was now neighbours noted v h is sound asked has =
    let one = frame_lines_one_more rs (line_of new (lines.Frame v)) in (
      rs ++ line_of new (lines.Frame v) ∷ [],
      record {
        read = found_one_more l before.remaining before.failures rs old new (lines.Frame v) h.read is sound;
        asked = subst (λ (vs : List FrameLine). HasAsked selection None vs now) (sym one) asked;
        noted = subst (λ (vs : List FrameLine). HasNoted selection (record { count = count; lines = vs }) noted) (sym one) has;
      },
    )

pub other_noted : {L : Type 0} (l : SourceMembers L) (selection : Selection) (count : ℕ) (before : SourceView) (rs : List ReadLine) (old new : LedgerReader L)
    (chooser : Chooser) (neighbours : Neighbours) (line : LedgerLine) → frames_in line ≡ [] → HasNotedLines l selection count before rs old chooser neighbours
    → IsFound (reading_of l.remaining l.failures old) (reading_of l.remaining l.failures new) (lent_of new) (found.Line line) → ledger_failed new ≡ false
    → IsNoting l selection count before new chooser neighbours
other_noted l selection count before rs old new chooser neighbours line none h is sound =
    let same : frame_lines (rs ++ line_of new line ∷ []) ≡ frame_lines rs = frame_lines_one_more rs (line_of new line) ∙ ap (λ (vs : List FrameLine). frame_lines rs ++ vs) none
    ∙ append-nil (frame_lines rs) in (
      rs ++ line_of new line ∷ [],
      record {
        read = found_one_more l before.remaining before.failures rs old new line h.read is sound;
        asked = subst (λ (vs : List FrameLine). HasAsked selection None vs chooser) (sym same) h.asked;
        noted = subst (λ (vs : List FrameLine). HasNoted selection (record { count = count; lines = vs }) neighbours) (sym same) h.noted;
      },
    )

-- ---- the end

pub ends_noting : {L : Type 0} (l : SourceMembers L) (selection : Selection) (count : ℕ) (before : SourceView) (rs : List ReadLine) (old new : LedgerReader L)
    (chooser : Chooser) (neighbours : Neighbours) (stop : Option LedgerStop) → HasNotedLines l selection count before rs old chooser neighbours
    → EndsAt rs (stage_of old) (left_of l old) stop → l.failures (source_of new) ≡ l.failures (source_of old) → EndsNoting l selection count before new neighbours
ends_noting l selection count before rs old new chooser neighbours stop h at same = record {
  rs = rs;
  stage = stage_of old;
  left = left_of l old;
  lines = h.read.lines;
  ends = (stop, at);
  noted = h.noted;
  no_failure = same ∙ h.read.no_failure;
}

-- ---- a line that stops it

pub no_memory : {L : Type 0} (l : SourceMembers L) (selection : Selection) (count : ℕ) (before : SourceView) (rs : List ReadLine) (old new : LedgerReader L)
    (chooser : Chooser) (neighbours : Neighbours) (v : FrameLine) → HasNotedLines l selection count before rs old chooser neighbours
    → IsFound (reading_of l.remaining l.failures old) (reading_of l.remaining l.failures new) (lent_of new) (found.Line (lines.Frame v))
    → StopsNoting l faults.Memory before new
no_memory l selection count before rs old new chooser neighbours v h is = λ few. record {
  rs = rs;
  stage = stage_of old;
  left = left_of l old;
  lines = h.read.lines;
  why = inr (v, stops_after l old new v is few);
  failures = is.2 ∙ h.read.no_failure;
}

pub ledger_stops_noting : {L : Type 0} (l : SourceMembers L) (selection : Selection) (count : ℕ) (before : SourceView) (rs : List ReadLine) (old new : LedgerReader L)
    (chooser : Chooser) (neighbours : Neighbours) (text : List ℕ) (fault : ReadFault) → HasNotedLines l selection count before rs old chooser neighbours
    → IsReadFault (reading_of l.remaining l.failures old) (reading_of l.remaining l.failures new) text (unread_of new.lines) fault
    → StopsNoting l (ledger_fault fault) before new
ledger_stops_noting l selection count before rs old new chooser neighbours text (read.Line n f) h is = λ few. record {
  rs = rs;
  stage = stage_of old;
  left = left_of l old;
  lines = h.read.lines;
  why = bad_next l before.remaining before.failures rs old new text n f h.read is.0 is.1 few;
  failures = is.2 ∙ h.read.no_failure;
}
ledger_stops_noting l selection count before rs old new chooser neighbours text read.Device h is = λ few. record {
  rs = rs;
  stage = stage_of old;
  left = left_of l old;
  lines = h.read.lines;
  why = (unread_of new.lines, is.2, few, part_ahead (left_of l old) (l.remaining (source_of new)) (unread_of new.lines) is.1);
  failures = rw (sym h.read.no_failure) is.0;
}
ledger_stops_noting l selection count before rs old new chooser neighbours text read.Failed h is = absurd is
