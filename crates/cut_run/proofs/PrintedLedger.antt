-- One more line of the ledger beside what is printed of it, and its end.
use Rattle.std.proofs.Common.{◌≡◌, ◌∙◌, ◌≢◌, ℕ, ◌+◌, false, List, [], ◌∷◌, ◌++◌, length, Option, None, Some, Ok, Err, refl, sym, ap, subst, inl, inr, arith, append_assoc}
use Rattle.std.proofs.lemmas.List.{append-nil}
use Rattle.std.specs.Io.KnownBytes.{Appends}
use Rattle.afdx_frame.specs.Frame.{Frame}
use Rattle.afdx_frame.specs.declared.key.Network.{Network}
use Rattle.afdx_frame.specs.declared.key.Network.TheVariants.{A, B}
use Rattle.cut_run.specs.Finder.{finding_of}
use Rattle.ledger_text.specs.Ledger.{EndsAt, ReadLine, frame_lines, frames_in, has_failed as ledger_failed, left_of, lent_of, number_of, stage_of}
use Rattle.ledger_text.specs.Lines.{unread_of}
use Rattle.ledger_text.specs.Reader.{IsFound, IsReadFault, reading_of, source_of}
use Rattle.ledger_text.specs.declared.fault.LineFault.{LineFault}
use Rattle.ledger_text.specs.declared.fault.ReadFault.{ReadFault}
use Rattle.ledger_text.specs.declared.fault.ReadFault.TheVariants as read
use Rattle.ledger_text.specs.declared.frame.FrameLine.{FrameLine}
use Rattle.ledger_text.specs.declared.order.LedgerLine.{LedgerLine}
use Rattle.ledger_text.specs.declared.order.LedgerLine.TheVariants as lines
use Rattle.ledger_text.specs.declared.order.LedgerStage.{LedgerStage}
use Rattle.ledger_text.specs.declared.reader.FoundLine.TheVariants as found
use Rattle.ledger_text.specs.declared.reader.LedgerReader.{LedgerReader}
use Rattle.ledger_text.proofs.Ledgers.{found_line, found_one_more, frame_lines_one_more}
use Rattle.run_fault.specs.Device.{SinkMembers, SinkView, SourceMembers, sink_at, source_at}
use Rattle.run_fault.specs.Fault.{FailsWhere}
use Rattle.cut_run.specs.Cut.{AreRefused, CutDevices, FailsInLine, FailsOnly, IsLineFault, ReadsNext, ledger_fault, stop_of}
use Rattle.cut_run.specs.Faults.{LedgerSource, OutputSink, names}
use Rattle.cut_run.specs.Lines.{Choice, read_lines}
use Rattle.cut_run.specs.Naming.{HasNamed, opening_at}
use Rattle.cut_run.specs.Printed.{AreChecked, AreCheckedUpTo, GivesBack, HasChecked, HasPrinted, HasPrintedLedger, HasPrintedLines, IsLinesRun, IsLoneFault, LeavesLines, LineDevices, NextIs, PrintsMore, PrintsUpTo, Sources, SourcesFailOnly, StopsAtText, StopsChecking, cut_devices, frame_texts, line_devices_at, sources_at, text_in}
use Rattle.cut_run.specs.declared.cut.CutEnding.{CutEnding}
use Rattle.cut_run.specs.declared.fault.CutFault.{CutFault}
use Rattle.cut_run.specs.declared.fault.CutFault.TheVariants as faults
use Rattle.cut_run.specs.declared.fault.CutSource.TheVariants as source
use Rattle.cut_run.specs.declared.print.Printing.{Printing}
use Rattle.cut_run.specs.declared.recordings.Recordings.{Recordings}
use Rattle.cut_run.proofs.Ledgers.{bad_next, ledger_well, line_fault, line_of, part_ahead, stops_after}
use Rattle.cut_run.proofs.Naming.{part_read}
use Rattle.cut_run.proofs.Whole.{part_of}

-- so many lines, and what was printed of them
abbrev pub IsPrinting : {L S T W : Type 0} → SourceMembers L → SourceMembers S → SourceMembers T → SinkMembers W → Choice → LineDevices → LedgerReader L
    → Printing S T W → Type 0
IsPrinting l s t w choice before ledger printing =
    (rs : List ReadLine) × (printed : List (List ℕ)) × HasPrintedLedger l s t w choice before rs printed ledger printing

-- ---- the next line

texts_one_more : (rs : List ReadLine) (r : ReadLine) → frame_texts (rs ++ r ∷ []) ≡ frame_texts rs ++ text_in r.line r.text
texts_one_more [] r = append-nil (text_in r.line r.text)
texts_one_more (q ∷ rs) r = ap (λ (ts : List (List ℕ)). text_in q.line q.text ++ ts) (texts_one_more rs r) ∙ sym (append_assoc (text_in q.line q.text) (frame_texts rs) (text_in r.line r.text))

pub frame_printed : {L S T W : Type 0} (l : SourceMembers L) (s : SourceMembers S) (t : SourceMembers T) (w : SinkMembers W) (choice : Choice) (before : LineDevices)
    (rs : List ReadLine) (printed : List (List ℕ)) (old new : LedgerReader L) (was now : Printing S T W) (v : FrameLine)
    → HasPrintedLedger l s t w choice before rs printed old was
    → IsFound (reading_of l.remaining l.failures old) (reading_of l.remaining l.failures new) (lent_of new) (found.Line (lines.Frame v)) → ledger_failed new ≡ false
    → PrintsMore s t w choice before (frame_lines rs) (frame_texts rs) v (lent_of new) now → IsPrinting l s t w choice before new now
frame_printed l s t w choice before rs printed old new was now v h is sound more =
    let r = line_of new (lines.Frame v) in (
      rs ++ r ∷ [],
      more.0,
      record {
        read = found_one_more l before.ledger.remaining before.ledger.failures rs old new (lines.Frame v) h.read is sound;
        print = subst (λ (vs : List FrameLine). HasPrintedLines s t w choice before vs (frame_texts (rs ++ r ∷ [])) more.0 now) (sym (frame_lines_one_more rs r))
            (subst (λ (ts : List (List ℕ)). HasPrintedLines s t w choice before (frame_lines rs ++ v ∷ []) ts more.0 now) (sym (texts_one_more rs r)) more.1);
      },
    )

pub other_printed : {L S T W : Type 0} (l : SourceMembers L) (s : SourceMembers S) (t : SourceMembers T) (w : SinkMembers W) (choice : Choice) (before : LineDevices)
    (rs : List ReadLine) (printed : List (List ℕ)) (old new : LedgerReader L) (printing : Printing S T W) (line : LedgerLine) → frames_in line ≡ []
    → text_in line (lent_of new) ≡ [] → HasPrintedLedger l s t w choice before rs printed old printing
    → IsFound (reading_of l.remaining l.failures old) (reading_of l.remaining l.failures new) (lent_of new) (found.Line line) → ledger_failed new ≡ false
    → IsPrinting l s t w choice before new printing
other_printed l s t w choice before rs printed old new printing line none no_text h is sound =
    let r = line_of new line in
    let same : frame_lines (rs ++ r ∷ []) ≡ frame_lines rs = frame_lines_one_more rs r ∙ ap (λ (vs : List FrameLine). frame_lines rs ++ vs) none ∙ append-nil (frame_lines rs) in
    let texts : frame_texts (rs ++ r ∷ []) ≡ frame_texts rs = texts_one_more rs r ∙ ap (λ (ts : List (List ℕ)). frame_texts rs ++ ts) no_text ∙ append-nil (frame_texts rs) in (
      rs ++ r ∷ [],
      printed,
      record {
        read = found_one_more l before.ledger.remaining before.ledger.failures rs old new line h.read is sound;
        print = subst (λ (vs : List FrameLine). HasPrintedLines s t w choice before vs (frame_texts (rs ++ r ∷ [])) printed printing) (sym same)
            (subst (λ (ts : List (List ℕ)). HasPrintedLines s t w choice before (frame_lines rs) ts printed printing) (sym texts) h.print);
      },
    )

-- ---- the recordings come back

pub checked_back : {S T : Type 0} (s : SourceMembers S) (t : SourceMembers T) (before : Option Sources) (vs : List FrameLine) (recordings : Option (Recordings S T))
    (sources : Option (S × T)) → HasChecked s t before vs recordings → GivesBack s t recordings sources → AreChecked before (sources_at s t sources) vs
checked_back s t None vs None None h back = tt
checked_back s t None vs None (Some x) h back = absurd back
checked_back s t None vs (Some r) sources h back = absurd h
checked_back s t (Some b) vs None sources h back = absurd h
checked_back s t (Some b) vs (Some r) None h back = absurd back
checked_back s t (Some b) vs (Some r) (Some x) h back =
    let named = h.3 in (
      h.1,
      h.2,
      h.0,
      record {
        read_a = rw back.0 (part_of s A b.a h.1 r.a back.2 (part_read (opening_at A b.a) h.1 named.floor_a (finding_of s r.a) named.read_a));
        read_b = rw back.1 (part_of t B b.b h.2 r.b back.3 (part_read (opening_at B b.b) h.2 named.floor_b (finding_of t r.b) named.read_b));
        rise = named.rise;
        named = named.named;
      },
      rw back.0 named.read_a.no_failure,
      rw back.1 named.read_b.no_failure,
    )

-- ---- the end

pub ends_printing : {L S T W : Type 0} (l : SourceMembers L) (s : SourceMembers S) (t : SourceMembers T) (w : SinkMembers W) (choice : Choice) (before : LineDevices)
    (rs : List ReadLine) (printed : List (List ℕ)) (old new : LedgerReader L) (printing : Printing S T W) (e : CutEnding)
    → EndsAt rs (stage_of old) (left_of l old) (stop_of e) → l.failures (source_of new) ≡ l.failures (source_of old) → HasPrintedLedger l s t w choice before rs printed old printing
    → LeavesLines l s t w choice (Ok e) before new printing
ends_printing l s t w choice before rs printed old new printing e at same h = λ few sources back. record {
  rs = rs;
  stage = stage_of old;
  left = left_of l old;
  printed = printed;
  lines = h.read.lines;
  checked = checked_back s t before.recordings (read_lines choice.skips (frame_lines rs)) printing.recordings sources h.print.checked back;
  takes = h.print.takes;
  ends = at;
  written = h.print.written;
  ledger_failures = same ∙ h.read.no_failure;
  output_failures = h.print.no_failure;
}

-- ---- a line that stops the run

-- all that a fault at a line says of the recordings and the ledger
record Stopped (skips : Option Network) (fault : CutFault) (before : LineDevices) (was now : Option Sources) (rs : List ReadLine) (stage : LedgerStage) (left rest : Option (List ℕ)) (x y : ℕ) : Type 0 where
  checked : AreCheckedUpTo skips fault before was now rs stage left rest
  recordings : SourcesFailOnly fault was now
  ledger : FailsWhere (names fault LedgerSource) x y

stopped : {S T : Type 0} (s : SourceMembers S) (t : SourceMembers T) (skips : Option Network) (before : LineDevices) (was : Option Sources) (rs : List ReadLine) (stage : LedgerStage) (left rest : Option (List ℕ))
    (v : FrameLine) (n : ℕ) (fault : CutFault) (recordings : Option (Recordings S T)) (sources : Option (S × T)) (x y : ℕ) → n ≡ length rs + 1 → ReadsNext skips stage left rest v
    → StopsChecking s t was (read_lines skips (frame_lines rs)) v n fault recordings → GivesBack s t recordings sources → y ≡ x
    → Stopped skips fault before was (sources_at s t sources) rs stage left rest x y
stopped s t skips before None rs stage left rest v n fault None None x y count says stops back same =
    subst (λ (f : CutFault). Stopped skips f before None None rs stage left rest x y) (sym stops) (record { checked = (v, says.0); recordings = tt; ledger = same })
stopped s t skips before None rs stage left rest v n fault None (Some z) x y count says stops back same = absurd back
stopped s t skips before None rs stage left rest v n fault (Some r) sources x y count says stops back same = absurd stops
stopped s t skips before (Some b) rs stage left rest v n fault None sources x y count says stops back same = absurd stops
stopped s t skips before (Some b) rs stage left rest v n fault (Some r) None x y count says stops back same = absurd back
stopped s t skips before (Some b) rs stage left rest v n fault (Some r) (Some z) x y count says stops back same = record {
  checked = (
    stops.frames_a,
    stops.frames_b,
    stops.frames,
    record {
      read_a = rw back.0 (part_of s A b.a stops.frames_a r.a back.2 stops.read_a);
      read_b = rw back.1 (part_of t B b.b stops.frames_b r.b back.3 stops.read_b);
      rise = stops.rise;
      named = stops.named;
    },
    line_fault skips fault (cut_devices before b) rs stage left rest stops.frames_a stops.frames_b n v count says stops.why,
  );
  recordings = (rw back.0 stops.a_failures, rw back.1 stops.b_failures);
  ledger = ledger_well fault n b.a b.b (read_lines skips (frame_lines rs)) v stops.frames_a stops.frames_b x y stops.why same;
}

printed_at : (choice : Choice) (fault : CutFault) (rs : List ReadLine) (stage : LedgerStage) (left : Option (List ℕ)) (v : FrameLine) (text : List ℕ)
    (printed : List (List ℕ)) (bytes now : Option (List ℕ)) → NextIs stage left text v → PrintsUpTo choice fault (frame_lines rs) v text printed bytes now
    → HasPrinted choice fault rs stage left printed bytes now
printed_at choice (faults.Ledger k f) rs stage left v text printed bytes now says wrote = wrote
printed_at choice (faults.Order k) rs stage left v text printed bytes now says wrote = wrote
printed_at choice (faults.Absent k) rs stage left v text printed bytes now says wrote = wrote
printed_at choice (faults.Header network f) rs stage left v text printed bytes now says wrote = wrote
printed_at choice (faults.Read x) rs stage left v text printed bytes now says wrote = wrote
printed_at choice faults.Write rs stage left v text printed bytes now says wrote = (v, text, wrote.0, says, wrote.1, wrote.2, wrote.3)
printed_at choice faults.Memory rs stage left v text printed bytes now says wrote = wrote

pub stops_printing : {L S T W : Type 0} (l : SourceMembers L) (s : SourceMembers S) (t : SourceMembers T) (w : SinkMembers W) (choice : Choice) (before : LineDevices)
    (rs : List ReadLine) (printed : List (List ℕ)) (old new : LedgerReader L) (was now : Printing S T W) (v : FrameLine) (fault : CutFault)
    → HasPrintedLedger l s t w choice before rs printed old was
    → IsFound (reading_of l.remaining l.failures old) (reading_of l.remaining l.failures new) (lent_of new) (found.Line (lines.Frame v))
    → StopsAtText s t w choice before (frame_lines rs) (frame_texts rs) printed v (lent_of new) (number_of new) fault now
    → LeavesLines l s t w choice (Err fault) before new now
stops_printing l s t w choice before rs printed old new was now v fault h is stops = λ few sources back.
    (let count : number_of new ≡ length rs + 1 = is.1.2 ∙ ap (λ (n : ℕ). n + 1) h.read.number in
    let line = found_line l old new (lines.Frame v) is in
    let stop = stopped s t choice.skips before before.recordings rs (stage_of old) (left_of l old) (l.remaining (source_of new)) v (number_of new) fault now.recordings sources before.ledger.failures
    (l.failures (source_of new)) count (stops_after l old new v is few, stops.read) stops.checked back (is.2 ∙ h.read.no_failure) in (
      record { ledger = stop.ledger; recordings = stop.recordings; output = stops.output_failures },
      inr (record {
        rs = rs;
        stage = stage_of old;
        left = left_of l old;
        printed = printed;
        lines = h.read.lines;
        checked = stop.checked;
        takes = stops.takes;
        written = printed_at choice fault rs (stage_of old) (left_of l old) v (lent_of new) printed before.output.contents (w.contents now.output) (left_of l new, line) stops.written;
      }),
    ))

-- ---- a line that is none of a ledger

well_up_to : (was now : Option Sources) (vs : List FrameLine) → AreChecked was now vs → SourcesFailOnly (faults.Read source.Ledger) was now
well_up_to None None vs h = tt
well_up_to None (Some n) vs h = absurd h
well_up_to (Some b) None vs h = absurd h
well_up_to (Some b) (Some n) vs h = (h.4, h.5)

well_bad : (k : ℕ) (f : LineFault) (was now : Option Sources) (vs : List FrameLine) → AreChecked was now vs → SourcesFailOnly (faults.Ledger k f) was now
well_bad k f None None vs h = tt
well_bad k f None (Some n) vs h = absurd h
well_bad k f (Some b) None vs h = absurd h
well_bad k f (Some b) (Some n) vs h = (h.4, h.5)

checked_to : (skips : Option Network) (fault : CutFault) (before : LineDevices) (was now : Option Sources) (rs : List ReadLine) (stage : LedgerStage) (left rest : Option (List ℕ))
    → AreChecked was now (read_lines skips (frame_lines rs)) → IsLoneFault fault rs stage left rest
    → ((b : Sources) (fa fb : List Frame) → IsLineFault skips fault (cut_devices before b) rs stage left rest fa fb) → AreCheckedUpTo skips fault before was now rs stage left rest
checked_to skips fault before None None rs stage left rest h lone why = lone
checked_to skips fault before None (Some n) rs stage left rest h lone why = absurd h
checked_to skips fault before (Some b) None rs stage left rest h lone why = absurd h
checked_to skips fault before (Some b) (Some n) rs stage left rest h lone why = (h.0, h.1, h.2, h.3, why b h.0 h.1)

pub ledger_stops_printing : {L S T W : Type 0} (l : SourceMembers L) (s : SourceMembers S) (t : SourceMembers T) (w : SinkMembers W) (choice : Choice) (before : LineDevices)
    (rs : List ReadLine) (printed : List (List ℕ)) (old new : LedgerReader L) (printing : Printing S T W) (text : List ℕ) (fault : ReadFault)
    → HasPrintedLedger l s t w choice before rs printed old printing
    → IsReadFault (reading_of l.remaining l.failures old) (reading_of l.remaining l.failures new) text (unread_of new.lines) fault
    → LeavesLines l s t w choice (Err (ledger_fault fault)) before new printing
ledger_stops_printing l s t w choice before rs printed old new printing text (read.Line n f) h is = λ few sources back.
    (let checked = checked_back s t before.recordings (read_lines choice.skips (frame_lines rs)) printing.recordings sources h.print.checked back in
    let bad = bad_next l before.ledger.remaining before.ledger.failures rs old new text n f h.read is.0 is.1 few in (
      record {
        ledger = is.2 ∙ h.read.no_failure;
        recordings = well_bad n f before.recordings (sources_at s t sources) (read_lines choice.skips (frame_lines rs)) checked;
        output = h.print.no_failure;
      },
      inr (record {
        rs = rs;
        stage = stage_of old;
        left = left_of l old;
        printed = printed;
        lines = h.read.lines;
        checked = checked_to choice.skips (faults.Ledger n f) before before.recordings (sources_at s t sources) rs (stage_of old) (left_of l old) (l.remaining (source_of new)) checked bad (λ b fa fb. bad);
        takes = h.print.takes;
        written = h.print.written;
      }),
    ))
ledger_stops_printing l s t w choice before rs printed old new printing text read.Device h is = λ few sources back.
    (let checked = checked_back s t before.recordings (read_lines choice.skips (frame_lines rs)) printing.recordings sources h.print.checked back in
    let part : FailsInLine (left_of l old) (l.remaining (source_of new)) = (unread_of new.lines, is.2, few, part_ahead (left_of l old) (l.remaining (source_of new)) (unread_of new.lines) is.1) in (
      record {
        ledger = rw (sym h.read.no_failure) is.0;
        recordings = well_up_to before.recordings (sources_at s t sources) (read_lines choice.skips (frame_lines rs)) checked;
        output = h.print.no_failure;
      },
      inr (record {
        rs = rs;
        stage = stage_of old;
        left = left_of l old;
        printed = printed;
        lines = h.read.lines;
        checked = checked_to choice.skips (faults.Read source.Ledger) before before.recordings (sources_at s t sources) rs (stage_of old) (left_of l old) (l.remaining (source_of new)) checked part (λ b fa fb. part);
        takes = h.print.takes;
        written = h.print.written;
      }),
    ))
ledger_stops_printing l s t w choice before rs printed old new printing text read.Failed h is = absurd is

-- ---- the beginning

pub appends_none : (bytes : Option (List ℕ)) → Appends bytes bytes []
appends_none None = tt
appends_none (Some xs) = sym (append-nil xs)

pub opened_none : {S T : Type 0} (s : SourceMembers S) (t : SourceMembers T) (sources : Option (S × T)) (recordings : Option (Recordings S T)) → sources ≡ None
    → recordings ≡ None → HasChecked s t (sources_at s t sources) [] recordings
opened_none s t sources recordings is none = rw (is, none) tt

pub opened_both : {S T : Type 0} (s : SourceMembers S) (t : SourceMembers T) (sources : Option (S × T)) (recordings : Option (Recordings S T)) (a : S) (b : T)
    (opened : Recordings S T) → sources ≡ Some (a, b) → recordings ≡ Some opened → HasNamed s t (source_at s a) (source_at t b) [] [] [] [] opened
    → HasChecked s t (sources_at s t sources) [] recordings
opened_both s t sources recordings a b opened is both named = rw (is, both) ([], [], [], named)

-- ---- recordings that aren't opened

fails_write : (fault : CutFault) (before after : CutDevices) → FailsOnly fault before after → before.output.failures ≡ 0 → after.output.failures ≡ 0 → fault ≢ faults.Write
fails_write fault before after only x y = λ is.
    (let f = subst (λ (e : CutFault). FailsWhere (names e OutputSink) before.output.failures after.output.failures) is only.output in
    omega (arith, f, x, y))

pub lines_refused : {L S T W : Type 0} (l : SourceMembers L) (s : SourceMembers S) (t : SourceMembers T) (w : SinkMembers W) (choice : Choice) (fault : CutFault)
    (ledger now : L) (sources : Option (S × T)) (a a' : S) (b b' : T) (output : W) → now ≡ ledger → sources ≡ Some (a, b)
    → AreRefused fault (source_at s a) (source_at t b) (source_at s a') (source_at t b')
    → IsLinesRun choice (Err fault) (line_devices_at l s t w ledger sources output) (line_devices_at l s t w now (Some (a', b')) output)
lines_refused l s t w choice fault ledger now sources a a' b b' output same is refused =
    let x = source_at l ledger in
    let y = sink_at w output in
    let none : SinkView = record { contents = None; failures = 0 } in
    let only = (refused x y).0 in
    rw (same, is) (
      record { ledger = only.ledger; recordings = (only.a, only.b); output = only.output },
      inl (fails_write fault _ _ (refused x none).0 refl refl, (refused x y).1),
    )
