-- One more line of the ledger beside what is cut of it.
use Rattle.std.proofs.Common.{◌≡◌, ◌∙◌, ℕ, ◌+◌, ◌<◌, ◌≤◌, false, List, [], ◌∷◌, ◌++◌, length, Option, Some, None, refl, sym, ap, subst, arith, length-append}
use Rattle.std.proofs.lemmas.List.{append-nil}
use Rattle.std.specs.Io.KnownBytes.{Consumes, Keeps, prepend_known}
use Rattle.afdx_frame.specs.Frame.{Frame}
use Rattle.afdx_frame.specs.declared.key.Network.{Network}
use Rattle.afdx_frame.specs.declared.key.Network.TheVariants.{A, B}
use Rattle.cut_run.specs.Finder.{finding_of}
use Rattle.ledger_text.specs.Ledger.{EndsAt, HasReadLines, ReadLine, frame_lines, frames_in, has_failed as ledger_failed, left_of, lent_of, number_of, stage_of}
use Rattle.ledger_text.specs.Lines.{unread_of}
use Rattle.ledger_text.specs.Reader.{IsBadLine, IsFound, IsReadFault, reading_of, source_of}
use Rattle.ledger_text.specs.declared.bounds.TheConstants.{BLOCK_LEN, MAX_LINES}
use Rattle.ledger_text.specs.declared.fault.LineFault.{LineFault}
use Rattle.ledger_text.specs.declared.fault.LineFault.TheVariants as wrong
use Rattle.ledger_text.specs.declared.fault.ReadFault.{ReadFault}
use Rattle.ledger_text.specs.declared.fault.ReadFault.TheVariants as read
use Rattle.ledger_text.specs.declared.frame.FrameLine.{FrameLine}
use Rattle.ledger_text.specs.declared.order.LedgerLine.{LedgerLine}
use Rattle.ledger_text.specs.declared.order.LedgerLine.TheVariants as lines
use Rattle.ledger_text.specs.declared.order.LedgerStage.{LedgerStage}
use Rattle.ledger_text.specs.declared.reader.FoundLine.TheVariants as found
use Rattle.ledger_text.specs.declared.reader.LedgerReader.{LedgerReader}
use Rattle.ledger_text.specs.declared.reader.LedgerStop.{LedgerStop}
use Rattle.ledger_text.proofs.Ledgers.{found_complete, found_incomplete, found_line, found_one_more, frame_lines_one_more}
use Rattle.packet_format.specs.Packets.{Format}
use Rattle.packet_format.specs.Writer.{sink_of}
use Rattle.run_fault.specs.Device.{SinkMembers, SourceMembers, SourceView}
use Rattle.run_fault.specs.Fault.{FailsWhere}
use Rattle.cut_run.specs.Cut.{CutDevices, HasWritten, IsBadNext, IsLineFault, IsReadAhead, NextSays, ReadsNext, StopsAfter, ledger_fault, place_at, stop_of}
use Rattle.cut_run.specs.Cutting.{EndsCut, HasCut, HasTaken, IsTakeFault, StopsCut, StopsTaking, TakesMore, WritesUpTo}
use Rattle.cut_run.specs.Faults.{LedgerSource, names}
use Rattle.cut_run.specs.Lines.{Choice, read_lines}
use Rattle.cut_run.specs.Naming.{opening_at}
use Rattle.cut_run.specs.declared.cut.CutEnding.{CutEnding}
use Rattle.cut_run.specs.declared.cut.CutEnding.TheVariants as ending
use Rattle.cut_run.specs.declared.cut.Taking.{Taking}
use Rattle.cut_run.specs.declared.fault.CutFault.{CutFault}
use Rattle.cut_run.specs.declared.fault.CutFault.TheVariants as faults
use Rattle.cut_run.specs.declared.fault.CutSource.TheVariants as source
use Rattle.cut_run.proofs.Naming.{part_read}

-- so many lines, and what was taken of them
abbrev pub IsCutting : {L S T W : Type 0} → SourceMembers L → SourceMembers S → SourceMembers T → SinkMembers W → Format → Choice → CutDevices → LedgerReader L
    → Taking S T W → Type 0
IsCutting l s t w format choice before ledger taking =
    (rs : List ReadLine) × (fs : List Frame) × (taken : List (FrameLine × Frame)) × (fa : List Frame) × (fb : List Frame)
    × HasCut l s t w format choice before rs fs taken fa fb ledger taking

abbrev pub line_of : {L : Type 0} → LedgerReader L → LedgerLine → ReadLine
line_of reader line = record { text = lent_of reader; line = line }

-- ---- how many lines of frames there are

one_frame : (line : LedgerLine) → length (frames_in line) ≤ 1
one_frame (lines.Frame v) = omega arith
one_frame (lines.Head version) = omega arith
one_frame (lines.Counts kind) = omega arith

few_frames : (rs : List ReadLine) → length (frame_lines rs) ≤ length rs
few_frames [] = omega arith
few_frames (r ∷ rs) = omega (arith, length-append (frames_in r.line) (frame_lines rs), one_frame r.line, few_frames rs)

-- a ledger that goes on has fewer lines than it may have
pub few_before : {L : Type 0} (l : SourceMembers L) (bytes : Option (List ℕ)) (failures : ℕ) (rs : List ReadLine) (old new : LedgerReader L) (line : LedgerLine)
    → HasReadLines l bytes failures rs old
    → IsFound (reading_of l.remaining l.failures old) (reading_of l.remaining l.failures new) (lent_of new) (found.Line line)
    → length (frame_lines rs) < MAX_LINES
few_before l bytes failures rs old new line h is = omega (arith, few_frames rs, h.number, is.1.3)

-- ---- the next line

pub frame_cut : {L S T W : Type 0} (l : SourceMembers L) (s : SourceMembers S) (t : SourceMembers T) (w : SinkMembers W) (format : Format) (choice : Choice) (before : CutDevices)
    (rs : List ReadLine) (fs : List Frame) (taken : List (FrameLine × Frame)) (fa fb : List Frame) (old new : LedgerReader L) (was now : Taking S T W) (v : FrameLine)
    → HasCut l s t w format choice before rs fs taken fa fb old was
    → IsFound (reading_of l.remaining l.failures old) (reading_of l.remaining l.failures new) (lent_of new) (found.Line (lines.Frame v)) → ledger_failed new ≡ false
    → TakesMore s t w format choice before.a before.b before.output (frame_lines rs) fs v now
    → IsCutting l s t w format choice before new now
frame_cut l s t w format choice before rs fs taken fa fb old new was now v h is sound more = (
  rs ++ line_of new (lines.Frame v) ∷ [],
  fs ++ more.0 ∷ [],
  more.1,
  more.2,
  more.3,
  record {
    read = found_one_more l before.ledger.remaining before.ledger.failures rs old new (lines.Frame v) h.read is sound;
    took = subst (λ (vs : List FrameLine). HasTaken s t w format choice before.a before.b before.output vs (fs ++ more.0 ∷ []) more.1 more.2 more.3 now)
        (sym (frame_lines_one_more rs (line_of new (lines.Frame v)))) more.4;
  },
)

pub other_cut : {L S T W : Type 0} (l : SourceMembers L) (s : SourceMembers S) (t : SourceMembers T) (w : SinkMembers W) (format : Format) (choice : Choice) (before : CutDevices)
    (rs : List ReadLine) (fs : List Frame) (taken : List (FrameLine × Frame)) (fa fb : List Frame) (old new : LedgerReader L) (taking : Taking S T W) (line : LedgerLine) → frames_in line ≡ []
    → HasCut l s t w format choice before rs fs taken fa fb old taking
    → IsFound (reading_of l.remaining l.failures old) (reading_of l.remaining l.failures new) (lent_of new) (found.Line line) → ledger_failed new ≡ false
    → IsCutting l s t w format choice before new taking
other_cut l s t w format choice before rs fs taken fa fb old new taking line none h is sound = (
  rs ++ line_of new line ∷ [],
  fs,
  taken,
  fa,
  fb,
  record {
    read = found_one_more l before.ledger.remaining before.ledger.failures rs old new line h.read is sound;
    took = subst (λ (vs : List FrameLine). HasTaken s t w format choice before.a before.b before.output vs fs taken fa fb taking)
        (sym (frame_lines_one_more rs (line_of new line) ∙ ap (λ (vs : List FrameLine). frame_lines rs ++ vs) none ∙ append-nil (frame_lines rs))) h.took;
  },
)

-- ---- the end

ends_with : {L S T W : Type 0} (l : SourceMembers L) (s : SourceMembers S) (t : SourceMembers T) (w : SinkMembers W) (format : Format) (choice : Choice) (before : CutDevices)
    (rs : List ReadLine) (fs : List Frame) (taken : List (FrameLine × Frame)) (fa fb : List Frame) (old new : LedgerReader L) (taking : Taking S T W) (e : CutEnding)
    → EndsAt rs (stage_of old) (left_of l old) (stop_of e) → l.failures (source_of new) ≡ l.failures (source_of old)
    → HasCut l s t w format choice before rs fs taken fa fb old taking → EndsCut l s t w format choice e before new taking
ends_with l s t w format choice before rs fs taken fa fb old new taking e at same h = record {
  rs = rs;
  stage = stage_of old;
  left = left_of l old;
  fs = fs;
  taken = taken;
  frames_a = fa;
  frames_b = fb;
  lines = h.read.lines;
  took = h.took;
  ends = at;
  no_failure = same ∙ h.read.no_failure;
}

pub ends_complete : {L S T W : Type 0} (l : SourceMembers L) (s : SourceMembers S) (t : SourceMembers T) (w : SinkMembers W) (format : Format) (choice : Choice)
    (before : CutDevices) (rs : List ReadLine) (fs : List Frame) (taken : List (FrameLine × Frame)) (fa fb : List Frame) (old new : LedgerReader L) (taking : Taking S T W)
    → IsFound (reading_of l.remaining l.failures old) (reading_of l.remaining l.failures new) (lent_of new) found.Complete
    → HasCut l s t w format choice before rs fs taken fa fb old taking → EndsCut l s t w format choice ending.Complete before new taking
ends_complete l s t w format choice before rs fs taken fa fb old new taking is h =
    ends_with l s t w format choice before rs fs taken fa fb old new taking ending.Complete
    (found_complete l before.ledger.remaining before.ledger.failures rs old new h.read is) is.2.2 h

pub ends_incomplete : {L S T W : Type 0} (l : SourceMembers L) (s : SourceMembers S) (t : SourceMembers T) (w : SinkMembers W) (format : Format) (choice : Choice)
    (before : CutDevices) (rs : List ReadLine) (fs : List Frame) (taken : List (FrameLine × Frame)) (fa fb : List Frame) (old new : LedgerReader L) (taking : Taking S T W) (stop : LedgerStop)
    → IsFound (reading_of l.remaining l.failures old) (reading_of l.remaining l.failures new) (lent_of new) (found.Incomplete stop)
    → HasCut l s t w format choice before rs fs taken fa fb old taking → EndsCut l s t w format choice (ending.Incomplete stop) before new taking
ends_incomplete l s t w format choice before rs fs taken fa fb old new taking stop is h =
    ends_with l s t w format choice before rs fs taken fa fb old new taking (ending.Incomplete stop)
    (found_incomplete l before.ledger.remaining before.ledger.failures rs old new stop h.read is) is.3.2 h

-- ---- all that was read ahead

ahead : (unread : List ℕ) (rest : Option (List ℕ)) → Consumes (prepend_known unread rest) rest unread
ahead unread None = tt
ahead unread (Some ys) = refl

pub read_ahead : {L : Type 0} (l : SourceMembers L) (reader : LedgerReader L) → length (unread_of reader.lines) ≤ BLOCK_LEN
    → IsReadAhead (left_of l reader) (l.remaining (source_of reader))
read_ahead l reader few = (unread_of reader.lines, few, ahead (unread_of reader.lines) (l.remaining (source_of reader)))

pub stops_after : {L : Type 0} (l : SourceMembers L) (old new : LedgerReader L) (v : FrameLine)
    → IsFound (reading_of l.remaining l.failures old) (reading_of l.remaining l.failures new) (lent_of new) (found.Line (lines.Frame v))
    → length (unread_of new.lines) ≤ BLOCK_LEN → StopsAfter (stage_of old) (left_of l old) (l.remaining (source_of new)) v
stops_after l old new v is few = (lent_of new, left_of l new, found_line l old new (lines.Frame v) is, read_ahead l new few)

-- ---- a line that stops the cut

-- all that a line's fault says of the ledger
pub line_fault : (skips : Option Network) (fault : CutFault) (before : CutDevices) (rs : List ReadLine) (stage : LedgerStage) (left rest : Option (List ℕ)) (fa fb : List Frame) (n : ℕ)
    (v : FrameLine) → n ≡ length rs + 1 → ReadsNext skips stage left rest v → IsTakeFault fault n before.a before.b (read_lines skips (frame_lines rs)) v fa fb
    → IsLineFault skips fault before rs stage left rest fa fb
line_fault skips (faults.Ledger k f) before rs stage left rest fa fb n v count says why = absurd why
line_fault skips (faults.Order k) before rs stage left rest fa fb n v count says why = (why.0 ∙ count, (v, says, why.1))
line_fault skips (faults.Absent k) before rs stage left rest fa fb n v count says why = (why.0 ∙ count, (v, says, why.1))
line_fault skips (faults.Header network f) before rs stage left rest fa fb n v count says why = absurd why
line_fault skips (faults.Read source.Ledger) before rs stage left rest fa fb n v count says why = absurd why
line_fault skips (faults.Read (source.Recording A)) before rs stage left rest fa fb n v count says why = (v, says, sym why.0, why.1)
line_fault skips (faults.Read (source.Recording B)) before rs stage left rest fa fb n v count says why = (v, says, sym why.0, why.1)
line_fault skips faults.Write before rs stage left rest fa fb n v count says why = (v, says, why)
line_fault skips faults.Memory before rs stage left rest fa fb n v count says why = (v, says)

-- and the ledger didn't fail
pub ledger_well : (fault : CutFault) (n : ℕ) (a b : SourceView) (vs : List FrameLine) (v : FrameLine) (fa fb : List Frame) (x y : ℕ) → IsTakeFault fault n a b vs v fa fb → y ≡ x
    → FailsWhere (names fault LedgerSource) x y
ledger_well (faults.Ledger k f) n a b vs v fa fb x y why same = absurd why
ledger_well (faults.Order k) n a b vs v fa fb x y why same = same
ledger_well (faults.Absent k) n a b vs v fa fb x y why same = same
ledger_well (faults.Header network f) n a b vs v fa fb x y why same = absurd why
ledger_well (faults.Read source.Ledger) n a b vs v fa fb x y why same = absurd why
ledger_well (faults.Read (source.Recording A)) n a b vs v fa fb x y why same = same
ledger_well (faults.Read (source.Recording B)) n a b vs v fa fb x y why same = same
ledger_well faults.Write n a b vs v fa fb x y why same = same
ledger_well faults.Memory n a b vs v fa fb x y why same = same

written_at : (format : Format) (choice : Choice) (fault : CutFault) (rs : List ReadLine) (stage : LedgerStage) (left : Option (List ℕ)) (fa fb : List Frame) (taken : List (FrameLine × Frame)) (v : FrameLine)
    (bytes now : Option (List ℕ)) → NextSays stage left v → WritesUpTo format choice fault fa fb (frame_lines rs) v taken bytes now
    → HasWritten format choice fault rs stage left fa fb taken bytes now
written_at format choice (faults.Ledger k f) rs stage left fa fb taken v bytes now says wrote = wrote
written_at format choice (faults.Order k) rs stage left fa fb taken v bytes now says wrote = wrote
written_at format choice (faults.Absent k) rs stage left fa fb taken v bytes now says wrote = wrote
written_at format choice (faults.Header network f) rs stage left fa fb taken v bytes now says wrote = wrote
written_at format choice (faults.Read x) rs stage left fa fb taken v bytes now says wrote = wrote
written_at format choice faults.Write rs stage left fa fb taken v bytes now says wrote = (v, wrote.0, wrote.1, says, wrote.2, wrote.3, wrote.4)
written_at format choice faults.Memory rs stage left fa fb taken v bytes now says wrote = wrote

pub frame_stops : {L S T W : Type 0} (l : SourceMembers L) (s : SourceMembers S) (t : SourceMembers T) (w : SinkMembers W) (format : Format) (choice : Choice) (before : CutDevices)
    (rs : List ReadLine) (fs : List Frame) (taken : List (FrameLine × Frame)) (fa fb : List Frame) (old new : LedgerReader L) (was now : Taking S T W) (v : FrameLine) (fault : CutFault)
    → HasCut l s t w format choice before rs fs taken fa fb old was
    → IsFound (reading_of l.remaining l.failures old) (reading_of l.remaining l.failures new) (lent_of new) (found.Line (lines.Frame v))
    → StopsTaking s t w format choice before.a before.b before.output (frame_lines rs) fs taken v (number_of new) fault now
    → StopsCut l s t w format choice fault before new now
frame_stops l s t w format choice before rs fs taken fa fb old new was now v fault h is stops =
    let count : number_of new ≡ length rs + 1 = is.1.2 ∙ ap (λ (n : ℕ). n + 1) h.read.number in
    let says : NextSays (stage_of old) (left_of l old) v = (lent_of new, left_of l new, found_line l old new (lines.Frame v) is) in
    record {
      rs = rs;
      stage = stage_of old;
      left = left_of l old;
      fs = fs;
      taken = taken;
      frames_a = stops.frames_a;
      frames_b = stops.frames_b;
      lines = h.read.lines;
      read_a = stops.read_a;
      read_b = stops.read_b;
      found = stops.found;
      rise = stops.rise;
      named = stops.named;
      spread = stops.spread;
      takes = stops.takes;
      why = λ few. line_fault choice.skips fault before rs (stage_of old) (left_of l old) (l.remaining (source_of new)) stops.frames_a stops.frames_b (number_of new) v count
          (stops_after l old new v is few, stops.read) stops.why;
      written = written_at format choice fault rs (stage_of old) (left_of l old) stops.frames_a stops.frames_b taken v before.output.contents (w.contents (sink_of now.output)) says stops.written;
      ledger_failures = ledger_well fault (number_of new) before.a before.b (read_lines choice.skips (frame_lines rs)) v stops.frames_a stops.frames_b before.ledger.failures (l.failures (source_of new)) stops.why (is.2 ∙ h.read.no_failure);
      a_failures = stops.a_failures;
      b_failures = stops.b_failures;
      output_failures = stops.output_failures;
    }

-- ---- a line that is none of a ledger

bad_at : (stage : LedgerStage) (n m : ℕ) (left rest : Option (List ℕ)) (text : List ℕ) (x y : ℕ) (stage2 : LedgerStage) (n2 : ℕ) (fault : LineFault) → n ≡ m
    → IsBadLine (record { stage = stage; number = n; left = left; failures = x }) (record { stage = stage2; number = n2; left = rest; failures = y }) text fault
    → IsBadLine (place_at stage m left) (place_at stage m rest) text fault
bad_at stage n m left rest text x y stage2 n2 wrong.Newline same h = h
bad_at stage n m left rest text x y stage2 n2 wrong.Long same h = h
bad_at stage n m left rest text x y stage2 n2 wrong.Head same h = rw same at h
bad_at stage n m left rest text x y stage2 n2 (wrong.Frame f) same h = rw same at h
bad_at stage n m left rest text x y stage2 n2 wrong.Order same h = rw same at h
bad_at stage n m left rest text x y stage2 n2 wrong.TooMany same h = rw same at h

pub bad_next : {L : Type 0} (l : SourceMembers L) (bytes : Option (List ℕ)) (failures : ℕ) (rs : List ReadLine) (old new : LedgerReader L) (text : List ℕ) (n : ℕ)
    (fault : LineFault) → HasReadLines l bytes failures rs old → n ≡ number_of old + 1
    → IsBadLine (reading_of l.remaining l.failures old) (reading_of l.remaining l.failures new) text fault → length (unread_of new.lines) ≤ BLOCK_LEN
    → IsBadNext n fault rs (stage_of old) (left_of l old) (l.remaining (source_of new))
bad_next l bytes failures rs old new text n fault h count is few = (
  count ∙ ap (λ (m : ℕ). m + 1) h.number,
  (
    text,
    left_of l new,
    bad_at (stage_of old) (number_of old) (length rs) (left_of l old) (left_of l new) text (l.failures (source_of old)) (l.failures (source_of new)) (stage_of new) (number_of new) fault h.number is,
    read_ahead l new few,
  ),
)

-- the bytes read ahead are a part of a line, before those that the source still gives
pub part_ahead : (left rest : Option (List ℕ)) (unread : List ℕ) → Keeps left (prepend_known unread rest) → Consumes left rest unread
part_ahead None rest unread is = tt
part_ahead (Some xs) None unread is = is
part_ahead (Some xs) (Some ys) unread is = sym is

pub ledger_stops : {L S T W : Type 0} (l : SourceMembers L) (s : SourceMembers S) (t : SourceMembers T) (w : SinkMembers W) (format : Format) (choice : Choice)
    (before : CutDevices) (rs : List ReadLine) (fs : List Frame) (taken : List (FrameLine × Frame)) (fa fb : List Frame) (old new : LedgerReader L) (taking : Taking S T W) (text : List ℕ) (fault : ReadFault)
    → HasCut l s t w format choice before rs fs taken fa fb old taking
    → IsReadFault (reading_of l.remaining l.failures old) (reading_of l.remaining l.failures new) text (unread_of new.lines) fault
    → StopsCut l s t w format choice (ledger_fault fault) before new taking
ledger_stops l s t w format choice before rs fs taken fa fb old new taking text (read.Line n f) h is = record {
  rs = rs;
  stage = stage_of old;
  left = left_of l old;
  fs = fs;
  taken = taken;
  frames_a = fa;
  frames_b = fb;
  lines = h.read.lines;
  read_a = part_read (opening_at A before.a) fa h.took.named.floor_a (finding_of s taking.recordings.a) h.took.named.read_a;
  read_b = part_read (opening_at B before.b) fb h.took.named.floor_b (finding_of t taking.recordings.b) h.took.named.read_b;
  found = h.took.found;
  rise = h.took.named.rise;
  named = h.took.named.named;
  spread = h.took.spread;
  takes = h.took.takes;
  why = λ few. bad_next l before.ledger.remaining before.ledger.failures rs old new text n f h.read is.0 is.1 few;
  written = h.took.written;
  ledger_failures = is.2 ∙ h.read.no_failure;
  a_failures = h.took.named.read_a.no_failure;
  b_failures = h.took.named.read_b.no_failure;
  output_failures = h.took.no_failure;
}
ledger_stops l s t w format choice before rs fs taken fa fb old new taking text read.Device h is = record {
  rs = rs;
  stage = stage_of old;
  left = left_of l old;
  fs = fs;
  taken = taken;
  frames_a = fa;
  frames_b = fb;
  lines = h.read.lines;
  read_a = part_read (opening_at A before.a) fa h.took.named.floor_a (finding_of s taking.recordings.a) h.took.named.read_a;
  read_b = part_read (opening_at B before.b) fb h.took.named.floor_b (finding_of t taking.recordings.b) h.took.named.read_b;
  found = h.took.found;
  rise = h.took.named.rise;
  named = h.took.named.named;
  spread = h.took.spread;
  takes = h.took.takes;
  why = λ few. (unread_of new.lines, is.2, few, part_ahead (left_of l old) (l.remaining (source_of new)) (unread_of new.lines) is.1);
  written = h.took.written;
  ledger_failures = rw (sym h.read.no_failure) is.0;
  a_failures = h.took.named.read_a.no_failure;
  b_failures = h.took.named.read_b.no_failure;
  output_failures = h.took.no_failure;
}
ledger_stops l s t w format choice before rs fs taken fa fb old new taking text read.Failed h is = absurd is
