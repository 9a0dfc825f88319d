-- A line of a ledger that is wrong, or can't be read.
use Rattle.std.proofs.Common.{◌≡◌, ◌∙◌, ℕ, ◌+◌, Bool, true, false, cond, List, [], length, reverse, Option, Some, None, Err, refl, sym, ap, subst}
use Rattle.std.specs.Io.KnownBytes.{Consumes, Keeps, prepend_known}
use Rattle.pcap_io.specs.declared.device.TapSource.{Ghosts as SourceMembers}
use Rattle.vl_config.specs.Document.{VlTable}
use Rattle.ledger_text.specs.Ledger.{ReadLine, frame_lines, left_of, lent_of, number_of, stage_of}
use Rattle.ledger_text.specs.Lines.{unread_of}
use Rattle.ledger_text.specs.Reader.{IsBadLine, IsFound, IsReadFault, reading_of, source_of}
use Rattle.ledger_text.specs.declared.fault.LineFault.{LineFault}
use Rattle.ledger_text.specs.declared.fault.LineFault.TheVariants as faulty
use Rattle.ledger_text.specs.declared.fault.ReadFault.{ReadFault}
use Rattle.ledger_text.specs.declared.fault.ReadFault.TheVariants as read
use Rattle.ledger_text.specs.declared.frame.FrameLine.{FrameLine}
use Rattle.ledger_text.specs.declared.order.Counts.{Counts as Kind}
use Rattle.ledger_text.specs.declared.order.LedgerLine.TheVariants as lines
use Rattle.ledger_text.specs.declared.order.LedgerStage.{LedgerStage}
use Rattle.ledger_text.specs.declared.order.LedgerStage.TheVariants as stages
use Rattle.ledger_text.specs.declared.reader.FoundLine.TheVariants as found
use Rattle.ledger_text.specs.declared.reader.LedgerReader.{LedgerReader}
use Rattle.ledger_text.proofs.Ledgers.{found_line}
use Rattle.ledger_report.specs.CountsLines.{IsRightCounts, IsRightLine, TakesWhere, taps_in}
use Rattle.ledger_report.specs.Reading.{HasNoted}
use Rattle.ledger_report.specs.Refused.{IsRefused, IsWrongNext, Source, line_fault, place_at, read_fault, source_at}
use Rattle.ledger_report.specs.Wrongs.{TellsWrong, is_wrong, wrong_of}
use Rattle.ledger_report.specs.declared.counts.FrameCounts.{FrameCounts}
use Rattle.ledger_report.specs.declared.counts_lines.CountsLines.{CountsLines}
use Rattle.ledger_report.specs.declared.fault.NoReport.TheVariants as told
use Rattle.ledger_report.specs.declared.fault.Refusal.{Refusal}
use Rattle.ledger_report.specs.declared.fault.Refusal.TheVariants as refusals
use Rattle.ledger_report.specs.declared.fault.WrongLine.{WrongLine}
use Rattle.ledger_report.specs.declared.fault.WrongLine.TheVariants as wrongs
use Rattle.ledger_report.specs.declared.frame_lines.FrameLines.{FrameLines}
use Rattle.ledger_report.proofs.Readings.{right_line}

-- ---- a line that is wrong

-- the possible faults of the line of a frame
abbrev IsFrameWrong : WrongLine → Type 0
IsFrameWrong (wrongs.Text fault) = ⊥
IsFrameWrong wrongs.Counts = ⊥
IsFrameWrong wrong = Unit {0}

frame_wrong : (a b c d e f : Bool) (wrong : WrongLine)
    → cond a (Some wrongs.Order) (cond b (Some wrongs.UnknownLink)
    (cond c (Some wrongs.KnownLink) (cond d (Some wrongs.Off) (cond e (Some wrongs.Copy) (cond f (Some wrongs.Skew) None)))))
    ≡ Some wrong → IsFrameWrong wrong
frame_wrong true b c d e f wrong is = (let same : wrongs.Order ≡ wrong = cc in subst IsFrameWrong same tt)
frame_wrong false true c d e f wrong is = (let same : wrongs.UnknownLink ≡ wrong = cc in subst IsFrameWrong same tt)
frame_wrong false false true d e f wrong is = (let same : wrongs.KnownLink ≡ wrong = cc in subst IsFrameWrong same tt)
frame_wrong false false false true e f wrong is = (let same : wrongs.Off ≡ wrong = cc in subst IsFrameWrong same tt)
frame_wrong false false false false true f wrong is = (let same : wrongs.Copy ≡ wrong = cc in subst IsFrameWrong same tt)
frame_wrong false false false false false true wrong is = (let same : wrongs.Skew ≡ wrong = cc in subst IsFrameWrong same tt)
frame_wrong false false false false false false wrong is = absurd (cc is)

wrong_frame : (table : VlTable) (before : List FrameLine) (v : FrameLine) (wrong : WrongLine) → wrong_of table.links before v ≡ Some wrong
    → IsFrameWrong wrong
wrong_frame table before v wrong is =
    frame_wrong (is_wrong table.links before v wrongs.Order) (is_wrong table.links before v wrongs.UnknownLink)
    (is_wrong table.links before v wrongs.KnownLink)
    (is_wrong table.links before v wrongs.Off) (is_wrong table.links before v wrongs.Copy) (is_wrong table.links before v wrongs.Skew) wrong is

wrong_next : {S : Type 0} (s : SourceMembers S) (table : VlTable) (rs : List ReadLine) (old new : LedgerReader S) (v : FrameLine) (wrong : WrongLine)
    → IsFound (reading_of s.remaining s.failures old) (reading_of s.remaining s.failures new) (lent_of new) (found.Line (lines.Frame v))
    → IsFrameWrong wrong → wrong_of table.links (reverse (frame_lines rs)) v ≡ Some wrong → IsWrongNext table wrong rs (stage_of old) (left_of s old)
wrong_next s table rs old new v (wrongs.Text fault) found one is = absurd one
wrong_next s table rs old new v wrongs.Counts found one is = absurd one
wrong_next s table rs old new v wrongs.Order found one is = (v, lent_of new, (left_of s new, found_line s old new (lines.Frame v) found), is)
wrong_next s table rs old new v wrongs.UnknownLink found one is = (v, lent_of new, (left_of s new, found_line s old new (lines.Frame v) found), is)
wrong_next s table rs old new v wrongs.KnownLink found one is = (v, lent_of new, (left_of s new, found_line s old new (lines.Frame v) found), is)
wrong_next s table rs old new v wrongs.Off found one is = (v, lent_of new, (left_of s new, found_line s old new (lines.Frame v) found), is)
wrong_next s table rs old new v wrongs.Copy found one is = (v, lent_of new, (left_of s new, found_line s old new (lines.Frame v) found), is)
wrong_next s table rs old new v wrongs.Skew found one is = (v, lent_of new, (left_of s new, found_line s old new (lines.Frame v) found), is)

module _ {S : Type 0} (s : SourceMembers S) (bytes : Option (List ℕ)) (failures : ℕ) (table : VlTable) (rs : List ReadLine) (old new : LedgerReader S)
    (counts : FrameCounts) (frames : FrameLines) (counted : CountsLines) (h : HasNoted s bytes failures table rs old counts frames counted) where
  pub refused_frame : (v : FrameLine) (n : ℕ) (refusal : Refusal)
      → IsFound (reading_of s.remaining s.failures old) (reading_of s.remaining s.failures new) (lent_of new) (found.Line (lines.Frame v))
      → n ≡ number_of new → TellsWrong (wrong_of table.links (reverse (frame_lines rs)) v) (Err refusal)
      → IsRefused table (record { remaining = bytes; failures = failures }) (source_at s (source_of new)) (line_fault n refusal)
  refused_frame v n refusals.Memory is number told = record {
    rs = rs;
    stage = stage_of old;
    left = left_of s old;
    lines = h.read.lines;
    right = h.right;
    why = tt;
    failures = is.2 ∙ h.read.no_failure;
  }
  refused_frame v n (refusals.Wrong wrong) is number told = record {
    rs = rs;
    stage = stage_of old;
    left = left_of s old;
    lines = h.read.lines;
    right = h.right;
    why = (
      number ∙ is.1.2 ∙ ap (λ (m : ℕ). m + 1) h.read.number,
      wrong_next s table rs old new v wrong is (wrong_frame table (reverse (frame_lines rs)) v wrong told) told,
    );
    failures = is.2 ∙ h.read.no_failure;
  }

  pub refused_counts : (kind : Kind) (n : ℕ) (line : List ℕ) (refusal : Refusal)
      → IsFound (reading_of s.remaining s.failures old) (reading_of s.remaining s.failures new) (lent_of new) (found.Line (lines.Counts kind))
      → n ≡ number_of new → line ≡ lent_of new
      → TakesWhere (IsRightLine table (frame_lines rs) counted.links counted.filters (taps_in counted.endings) kind line) (Err refusal)
      → IsRefused table (record { remaining = bytes; failures = failures }) (source_at s (source_of new)) (line_fault n refusal)
  refused_counts kind n line refusals.Memory is number lent told = record {
    rs = rs;
    stage = stage_of old;
    left = left_of s old;
    lines = h.read.lines;
    right = h.right;
    why = tt;
    failures = is.2 ∙ h.read.no_failure;
  }
  refused_counts kind n line (refusals.Wrong wrong) is number lent told = record {
    rs = rs;
    stage = stage_of old;
    left = left_of s old;
    lines = h.read.lines;
    right = h.right;
    why = (
      number ∙ is.1.2 ∙ ap (λ (m : ℕ). m + 1) h.read.number,
      subst (λ (w : WrongLine). IsWrongNext table w rs (stage_of old) (left_of s old)) (sym told.0) (
        kind,
        lent_of new,
        (left_of s new, found_line s old new (lines.Counts kind) is),
        (λ (right : IsRightCounts table (reverse rs) kind (lent_of new)). told.1
            (subst (λ (x : List ℕ). IsRightLine table (frame_lines rs) counted.links counted.filters (taps_in counted.endings) kind x) (sym lent)
            (right_line table rs counted kind (lent_of new) h.counted_are right))),
      ),
    );
    failures = is.2 ∙ h.read.no_failure;
  }

-- ---- a line that is none of a ledger, or a source that fails

bad_at : (stage : LedgerStage) (n m : ℕ) (left rest : Option (List ℕ)) (text : List ℕ) (x y : ℕ) (stage2 : LedgerStage) (n2 : ℕ) (fault : LineFault) → n ≡ m
    → IsBadLine (record { stage = stage; number = n; left = left; failures = x })
    (record { stage = stage2; number = n2; left = rest; failures = y }) text fault
    → IsBadLine (place_at stage m left) (place_at stage m rest) text fault
bad_at stage n m left rest text x y stage2 n2 faulty.Newline same h = h
bad_at stage n m left rest text x y stage2 n2 faulty.Long same h = h
bad_at stage n m left rest text x y stage2 n2 faulty.Head same h = rw same at h
bad_at stage n m left rest text x y stage2 n2 (faulty.Frame f) same h = rw same at h
bad_at stage n m left rest text x y stage2 n2 faulty.Order same h = rw same at h
bad_at stage n m left rest text x y stage2 n2 faulty.TooMany same h = rw same at h

consumes : (left rest : Option (List ℕ)) (unread : List ℕ) → Keeps left (prepend_known unread rest) → Consumes left rest unread
consumes None rest unread is = tt
consumes (Some xs) None unread is = is
consumes (Some xs) (Some ys) unread is = sym is

pub refused_read : {S : Type 0} (s : SourceMembers S) (bytes : Option (List ℕ)) (failures : ℕ) (table : VlTable) (rs : List ReadLine)
    (old new : LedgerReader S)
    (counts : FrameCounts) (frames : FrameLines) (counted : CountsLines) (text : List ℕ) (fault : ReadFault)
    → HasNoted s bytes failures table rs old counts frames counted
    → IsReadFault (reading_of s.remaining s.failures old) (reading_of s.remaining s.failures new) text (unread_of new.lines) fault
    → IsRefused table (record { remaining = bytes; failures = failures }) (source_at s (source_of new)) (read_fault fault)
refused_read s bytes failures table rs old new counts frames counted text (read.Line n f) h is = record {
  rs = rs;
  stage = stage_of old;
  left = left_of s old;
  lines = h.read.lines;
  right = h.right;
  why = (
    is.0 ∙ ap (λ (m : ℕ). m + 1) h.read.number,
    (
      text,
      left_of s new,
      bad_at (stage_of old) (number_of old) (length rs) (left_of s old) (left_of s new) text (s.failures (source_of old))
          (s.failures (source_of new)) (stage_of new) (number_of new) f
          h.read.number is.1,
    ),
  );
  failures = is.2 ∙ h.read.no_failure;
}
refused_read s bytes failures table rs old new counts frames counted text read.Device h is = record {
  rs = rs;
  stage = stage_of old;
  left = left_of s old;
  lines = h.read.lines;
  right = h.right;
  why = (unread_of new.lines, is.2, consumes (left_of s old) (s.remaining (source_of new)) (unread_of new.lines) is.1);
  failures = rw (sym h.read.no_failure) is.0;
}
refused_read s bytes failures table rs old new counts frames counted text read.Failed h is = absurd is

-- ---- no memory, and a fault that is handed on

pub no_memory : (table : VlTable) (source : Source) → IsRefused table source source told.Memory
no_memory table source = record {
  rs = [];
  stage = stages.Head;
  left = source.remaining;
  lines = (refl, refl);
  right = record { frames = tt; counts = tt };
  why = tt;
  failures = refl;
}
