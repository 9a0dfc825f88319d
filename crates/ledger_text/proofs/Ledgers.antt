-- A ledger's lines, one more after those that were read.
use Rattle.std.proofs.Common.{◌≡◌, ◌∙◌, ℕ, ◌+◌, false, List, [], ◌∷◌, ◌++◌, Option, Some, None, refl, subst, sym, ap, append_assoc}
use Rattle.std.proofs.lemmas.List.{append-nil, length-append}
use Rattle.pcap_io.specs.declared.device.TapSource.{Ghosts as SourceMembers}
use Rattle.ledger_text.specs.Ledger.{EndsAt, HasReadLines, ReadLine, ReadsLines, TakesLine, frame_lines, frames_in, has_failed, left_of, lent_of, stage_of}
use Rattle.ledger_text.specs.Places.{stage_after}
use Rattle.ledger_text.specs.declared.frame.FrameLine.{FrameLine}
use Rattle.ledger_text.specs.Reader.{IsFound, reading_of}
use Rattle.ledger_text.specs.declared.order.LedgerLine.{LedgerLine}
use Rattle.ledger_text.specs.declared.order.LedgerStage.{LedgerStage}
use Rattle.ledger_text.specs.declared.order.LedgerStage.TheVariants as stages
use Rattle.ledger_text.specs.declared.reader.FoundLine.TheVariants as found
use Rattle.ledger_text.specs.declared.reader.LedgerReader.{LedgerReader}
use Rattle.ledger_text.specs.declared.reader.LedgerStop.{LedgerStop}

pub reads_one_more : (stage here : LedgerStage) (bytes mid after : Option (List ℕ)) (rs : List ReadLine) (r : ReadLine)
    → ReadsLines stage bytes rs here mid → TakesLine here mid after r → ReadsLines stage bytes (rs ++ r ∷ []) (stage_after r.line) after
reads_one_more stage here bytes mid after [] r (same, left) takes =
    let moved : TakesLine stage bytes after r =
    subst (λ (x : LedgerStage). TakesLine x bytes after r) (sym same) (subst (λ (x : Option (List ℕ)). TakesLine here x after r) (sym left) takes) in
    (after, moved, (refl, refl))
reads_one_more stage here bytes mid after (q ∷ rs) r (next, first, more) takes =
    (next, first, reads_one_more (stage_after q.line) here next mid after rs r more takes)

pub frame_lines_one_more : (rs : List ReadLine) (r : ReadLine) → frame_lines (rs ++ r ∷ []) ≡ frame_lines rs ++ frames_in r.line
frame_lines_one_more [] r = append-nil (frames_in r.line)
frame_lines_one_more (q ∷ rs) r =
    ap (λ (vs : List FrameLine). frames_in q.line ++ vs) (frame_lines_one_more rs r)
    ∙ sym (append_assoc (frames_in q.line) (frame_lines rs) (frames_in r.line))

abbrev line_of : {S : Type 0} → LedgerReader S → LedgerLine → ReadLine
line_of reader read = record { text = lent_of reader; line = read }

-- the line that a reader finds is the next one
pub found_line : {S : Type 0} (s : SourceMembers S) (old new : LedgerReader S) (read : LedgerLine)
    → IsFound (reading_of s.remaining s.failures old) (reading_of s.remaining s.failures new) (lent_of new) (found.Line read)
    → TakesLine (stage_of old) (left_of s old) (left_of s new) (line_of new read)
found_line s old new read (next, is, same) = record { one = next.0; short = next.1; gone = next.2; stands = is.0 }

pub found_one_more : {S : Type 0} (s : SourceMembers S) (bytes : Option (List ℕ)) (failures : ℕ) (rs : List ReadLine) (old new : LedgerReader S) (read : LedgerLine)
    → HasReadLines s bytes failures rs old
    → IsFound (reading_of s.remaining s.failures old) (reading_of s.remaining s.failures new) (lent_of new) (found.Line read) → has_failed new ≡ false
    → HasReadLines s bytes failures (rs ++ line_of new read ∷ []) new
found_one_more s bytes failures rs old new read h is sound = record {
  lines = subst (λ (x : LedgerStage). ReadsLines stages.Head bytes (rs ++ line_of new read ∷ []) x (left_of s new)) (sym is.1.1)
      (reads_one_more stages.Head (stage_of old) bytes (left_of s old) (left_of s new) rs (line_of new read) h.lines (found_line s old new read is));
  number = is.1.2 ∙ ap (λ (n : ℕ). n + 1) h.number ∙ sym (length-append rs (line_of new read ∷ []));
  sound = sound;
  no_failure = is.2 ∙ h.no_failure;
}

-- ---- the end

pub found_complete : {S : Type 0} (s : SourceMembers S) (bytes : Option (List ℕ)) (failures : ℕ) (rs : List ReadLine) (old new : LedgerReader S)
    → HasReadLines s bytes failures rs old
    → IsFound (reading_of s.remaining s.failures old) (reading_of s.remaining s.failures new) (lent_of new) found.Complete
    → EndsAt rs (stage_of old) (left_of s old) None
found_complete s bytes failures rs old new h is = (is.0, (lent_of new, left_of s new, is.1))

pub found_incomplete : {S : Type 0} (s : SourceMembers S) (bytes : Option (List ℕ)) (failures : ℕ) (rs : List ReadLine) (old new : LedgerReader S) (stop : LedgerStop)
    → HasReadLines s bytes failures rs old
    → IsFound (reading_of s.remaining s.failures old) (reading_of s.remaining s.failures new) (lent_of new) (found.Incomplete stop)
    → EndsAt rs (stage_of old) (left_of s old) (Some stop)
found_incomplete s bytes failures rs old new stop h is = (is.0, is.1 ∙ h.number, (lent_of new, left_of s new, is.2))
