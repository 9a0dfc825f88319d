-- One more line of a ledger: it is printed or passed over, or stops the run.
use Rattle.std.proofs.Common.{◌≡◌, ◌∙◌, ◌≢◌, ℕ, ◌+◌, true, false, List, [], ◌∷◌, ◌++◌, length, take, Option, None, Some, Result, Ok, Err, refl, sym, ap, subst, inl, inr, arith, length-append}
use Rattle.std.proofs.KnownBytes.{Appends-trans}
use Rattle.std.proofs.Math.Seq.{take-append-add}
use Rattle.std.proofs.lemmas.Grind.{flat_map-append}
use Rattle.std.proofs.lemmas.List.{append-nil}
use Rattle.std.specs.Prelude.{IfErr, MatchResult}
use Rattle.std.specs.Io.KnownBytes.{Appends}
use Rattle.afdx_frame.specs.Frame.{Frame}
use Rattle.afdx_frame.specs.declared.key.Network.TheVariants.{A, B}
use Rattle.cut_run.specs.Finder.{finding_of}
use Rattle.ledger_text.specs.declared.frame.FrameLine.{FrameLine}
use Rattle.ledger_text.specs.Neighbours.{HasAsked}
use Rattle.pcap_io.specs.Device.{Writes}
use Rattle.run_fault.specs.Device.{SinkMembers, SourceMembers, SourceView}
use Rattle.run_fault.specs.Fault.{FailsWhere}
use Rattle.cut_run.specs.Cutting.{IsTakeFault}
use Rattle.cut_run.specs.Faults.{OutputSink, names}
use Rattle.cut_run.specs.Lines.{Choice, is_read, read_lines}
use Rattle.cut_run.specs.Naming.{HasNamed, IsNameFault, Names, StopsNaming, opening_at}
use Rattle.cut_run.specs.Printed.{HasChecked, HasPrintedLines, LineDevices, PrintsMore, PrintsTaken, PrintsUpTo, Sources, StopsAtText, StopsChecking, whole_line, whole_lines}
use Rattle.cut_run.specs.declared.fault.CutFault.{CutFault}
use Rattle.cut_run.specs.declared.fault.CutFault.TheVariants as faults
use Rattle.cut_run.specs.declared.fault.CutSource.TheVariants as source
use Rattle.cut_run.specs.declared.print.Printing.{Printing}
use Rattle.cut_run.specs.declared.recordings.Recordings.{Recordings}
use Rattle.cut_run.proofs.Lines.{named_some, passes_more, read_more, read_same, takes_more}
use Rattle.cut_run.proofs.Naming.{part_read}

-- ---- a line and its newline

-- all that is written after other bytes
pub written_after : {T E : Type 0} (r : Result T E) (old mid new : Option (List ℕ)) (x y z : ℕ) (text more : List ℕ) → Appends old mid text → y ≡ x
    → Writes r mid new y z more → Writes r old new x z (text ++ more)
written_after (Ok t) old mid new x y z text more first same w =
    record { complete = Appends-trans old mid new text more first w.complete; prefix = tt; no_failure = w.no_failure ∙ same; fault = tt }
written_after (Err e) old mid new x y z text more first same w = record {
  complete = tt;
  prefix = (
    length text + w.prefix.0,
    omega (arith, length-append text more, w.prefix.1),
    subst (λ (bytes : List ℕ). Appends old new bytes) (sym (take-append-add text more w.prefix.0)) (Appends-trans old mid new text (take w.prefix.0 more) first w.prefix.2),
  );
  no_failure = tt;
  fault = rw (sym same) w.fault;
}

-- ---- a line is checked

found_more : {S T : Type 0} (s : SourceMembers S) (t : SourceMembers T) (before : Option Sources) (vs : List FrameLine) (v : FrameLine) (f : Frame) (old new : Recordings S T)
    → HasChecked s t before vs (Some old)
    → ((b : Sources) (fs fa fb : List Frame) → HasNamed s t b.a b.b vs fs fa fb old → Names s t b.a b.b vs fs v f new) → HasChecked s t before (vs ++ v ∷ []) (Some new)
found_more s t None vs v f old new h names = absurd h
found_more s t (Some b) vs v f old new h names =
    let named = names b h.0 h.1 h.2 h.3 in
    (h.0 ++ f ∷ [], named.0, named.1, named.2)

record NotWrite (fault : CutFault) (n : ℕ) (a b : SourceView) (vs : List FrameLine) (v : FrameLine) (fa fb : List Frame) : Type 0 where
  why : IsTakeFault fault n a b vs v fa fb
  other : fault ≢ faults.Write

not_write : (fault : CutFault) (n : ℕ) (a b : SourceView) (vs : List FrameLine) (v : FrameLine) (fa fb : List Frame) → IsNameFault fault n a b vs v fa fb
    → NotWrite fault n a b vs v fa fb
not_write (faults.Ledger k f) n a b vs v fa fb h = absurd h
not_write (faults.Order k) n a b vs v fa fb h = record { why = h; other = λ e. cc }
not_write (faults.Absent k) n a b vs v fa fb h = record { why = h; other = λ e. cc }
not_write (faults.Header network f) n a b vs v fa fb h = absurd h
not_write (faults.Read source.Ledger) n a b vs v fa fb h = absurd h
not_write (faults.Read (source.Recording A)) n a b vs v fa fb h = record { why = h; other = λ e. cc }
not_write (faults.Read (source.Recording B)) n a b vs v fa fb h = record { why = h; other = λ e. cc }
not_write faults.Write n a b vs v fa fb h = absurd h
not_write faults.Memory n a b vs v fa fb h = record { why = h; other = λ e. cc }

pub found_none : {S T : Type 0} (s : SourceMembers S) (t : SourceMembers T) (before : Option Sources) (vs : List FrameLine) (v : FrameLine) (n : ℕ) (fault : CutFault)
    (old new : Recordings S T) → HasChecked s t before vs (Some old)
    → ((b : Sources) (fs fa fb : List Frame) → HasNamed s t b.a b.b vs fs fa fb old → StopsNaming s t b.a b.b vs fs v n fault new)
    → StopsChecking s t before vs v n fault (Some new) × (fault ≢ faults.Write)
found_none s t None vs v n fault old new h stops = absurd h
found_none s t (Some b) vs v n fault old new h stops =
    let stop = stops b h.0 h.1 h.2 h.3 in
    let not = not_write fault n b.a b.b vs v stop.frames_a stop.frames_b stop.why in (
      record {
        frames_a = stop.frames_a;
        frames_b = stop.frames_b;
        frames = h.0;
        read_a = stop.read_a;
        read_b = stop.read_b;
        rise = stop.rise;
        named = stop.named;
        why = not.why;
        a_failures = stop.a_failures;
        b_failures = stop.b_failures;
      },
      not.other,
    )

pub found_one : {S T : Type 0} (s : SourceMembers S) (t : SourceMembers T) (before : Option Sources) (vs : List FrameLine) (v : FrameLine) (f : Frame) (old new : Recordings S T)
    → HasChecked s t before vs (Some old)
    → ((b : Sources) (fs fa fb : List Frame) → HasNamed s t b.a b.b vs fs fa fb old → Names s t b.a b.b vs fs v f new) → HasChecked s t before (vs ++ v ∷ []) (Some new)
found_one s t before vs v f old new h names = found_more s t before vs v f old new h names

pub none_found : {S T : Type 0} (s : SourceMembers S) (t : SourceMembers T) (before : Option Sources) (vs : List FrameLine) (v : FrameLine)
    (recordings : Option (Recordings S T)) → recordings ≡ None → HasChecked s t before vs recordings → HasChecked s t before (vs ++ v ∷ []) recordings
none_found s t None vs v None is h = tt
none_found s t None vs v (Some r) is h = absurd h
none_found s t (Some b) vs v None is h = absurd h
none_found s t (Some b) vs v (Some r) is h = cc

-- a line that was checked isn't written
unwritten_line : {S T : Type 0} (s : SourceMembers S) (t : SourceMembers T) (before : Option Sources) (vs : List FrameLine) (v : FrameLine) (n : ℕ)
    (old new : Option (Recordings S T)) → HasChecked s t before vs old → HasChecked s t before (vs ++ v ∷ []) new → StopsChecking s t before vs v n faults.Write new
unwritten_line s t None vs v n old None h more = refl
unwritten_line s t None vs v n old (Some r) h more = absurd more
unwritten_line s t (Some b) vs v n old None h more = absurd more
unwritten_line s t (Some b) vs v n None (Some r) h more = absurd h
unwritten_line s t (Some b) vs v n (Some q) (Some r) h more =
    let named = more.3 in
    let before = named_some more.1 more.2 vs more.0 v named.named in
    record {
      frames_a = more.1;
      frames_b = more.2;
      frames = before.0;
      read_a = part_read (opening_at A b.a) more.1 named.floor_a (finding_of s r.a) named.read_a;
      read_b = part_read (opening_at B b.b) more.2 named.floor_b (finding_of t r.b) named.read_b;
      rise = h.3.rise;
      named = before.1;
      why = before.2;
      a_failures = named.read_a.no_failure;
      b_failures = named.read_b.no_failure;
    }

-- ---- a line is printed

pub lines_more : (printed : List (List ℕ)) (text : List ℕ) → whole_lines (printed ++ text ∷ []) ≡ whole_lines printed ++ whole_line text
lines_more printed text =
    flat_map-append whole_line printed (text ∷ []) ∙ ap (λ (bytes : List ℕ). whole_lines printed ++ bytes) (append-nil (whole_line text))

record Unwritten (choice : Choice) (fault : CutFault) (vs : List FrameLine) (v : FrameLine) (text : List ℕ) (printed : List (List ℕ)) (before now : Option (List ℕ)) (x y : ℕ)
    : Type 0 where
  written : PrintsUpTo choice fault vs v text printed before now
  failures : FailsWhere (names fault OutputSink) x y

unwritten : (choice : Choice) (fault : CutFault) (vs : List FrameLine) (v : FrameLine) (text : List ℕ) (printed : List (List ℕ)) (before now : Option (List ℕ)) (x y : ℕ)
    → fault ≢ faults.Write → Appends before now (whole_lines printed) → y ≡ x → Unwritten choice fault vs v text printed before now x y
unwritten choice (faults.Ledger k f) vs v text printed before now x y not h same = record { written = h; failures = same }
unwritten choice (faults.Order k) vs v text printed before now x y not h same = record { written = h; failures = same }
unwritten choice (faults.Absent k) vs v text printed before now x y not h same = record { written = h; failures = same }
unwritten choice (faults.Header network f) vs v text printed before now x y not h same = record { written = h; failures = same }
unwritten choice (faults.Read source.Ledger) vs v text printed before now x y not h same = record { written = h; failures = same }
unwritten choice (faults.Read (source.Recording A)) vs v text printed before now x y not h same = record { written = h; failures = same }
unwritten choice (faults.Read (source.Recording B)) vs v text printed before now x y not h same = record { written = h; failures = same }
unwritten choice faults.Write vs v text printed before now x y not h same = absurd (not refl)
unwritten choice faults.Memory vs v text printed before now x y not h same = record { written = h; failures = same }

pub stops_checking : {S T W : Type 0} (s : SourceMembers S) (t : SourceMembers T) (w : SinkMembers W) (choice : Choice) (before : LineDevices) (vs : List FrameLine)
    (texts printed : List (List ℕ)) (v : FrameLine) (text : List ℕ) (n : ℕ) (fault : CutFault) (old new : Printing S T W)
    → HasPrintedLines s t w choice before vs texts printed old → is_read choice.skips v.network ≡ true
    → StopsChecking s t before.recordings (read_lines choice.skips vs) v n fault new.recordings × (fault ≢ faults.Write) → new.output ≡ old.output → StopsAtText s t w choice before vs texts printed v text n fault new
stops_checking s t w choice before vs texts printed v text n fault old new h read stops same =
    let u = unwritten choice fault vs v text printed before.output.contents (w.contents new.output) before.output.failures (w.failures new.output) stops.1
    (rw same h.written) (rw same h.no_failure) in
    record { checked = stops.0; read = read; takes = h.takes; written = u.written; output_failures = u.failures }

pub printed_line : {S T W : Type 0} (s : SourceMembers S) (t : SourceMembers T) (w : SinkMembers W) (choice : Choice) (before : LineDevices) (vs : List FrameLine)
    (texts printed : List (List ℕ)) (v : FrameLine) (text : List ℕ) (n : ℕ) (r : Result (Unit {0}) CutFault) (old mid new : Printing S T W)
    → HasPrintedLines s t w choice before vs texts printed old → is_read choice.skips v.network ≡ true → mid.output ≡ old.output
    → HasChecked s t before.recordings (read_lines choice.skips vs ++ v ∷ []) new.recordings
    → HasAsked choice.selection choice.around (vs ++ v ∷ []) new.chooser → PrintsTaken w choice vs v text r mid new → IfErr r (λ fault. fault ≡ faults.Write)
    → MatchResult r (λ _. PrintsMore s t w choice before vs texts v text new) (λ fault. StopsAtText s t w choice before vs texts printed v text n fault new)
printed_line s t w choice before vs texts printed v text n (Ok tt) old mid new h read same checked asked (inl (is, wrote)) fault = (
  printed ++ text ∷ [],
  record {
    checked = subst (λ (ws : List FrameLine). HasChecked s t before.recordings ws new.recordings) (sym (read_more choice.skips vs v read)) checked;
    takes = takes_more choice vs texts printed v text h.takes (read, is);
    asked = asked;
    written = subst (λ (x : List ℕ). Appends before.output.contents (w.contents new.output) x) (sym (lines_more printed text))
        (Appends-trans before.output.contents (w.contents mid.output) (w.contents new.output) (whole_lines printed) (whole_line text) (rw same h.written) wrote.complete);
    no_failure = wrote.no_failure ∙ rw same h.no_failure;
  },
)
printed_line s t w choice before vs texts printed v text n (Ok tt) old mid new h read same checked asked (inr (not, ok, stays)) fault = (
  printed,
  record {
    checked = subst (λ (ws : List FrameLine). HasChecked s t before.recordings ws new.recordings) (sym (read_more choice.skips vs v read)) checked;
    takes = passes_more choice vs texts printed v text h.takes (λ chosen. not chosen.1);
    asked = asked;
    written = rw (stays, same) h.written;
    no_failure = rw (stays, same) h.no_failure;
  },
)
printed_line {W = W} s t w choice before vs texts printed v text n (Err e) old mid new h read same checked asked (inl (is, wrote)) fault =
    subst (λ (x : CutFault). StopsAtText s t w choice before vs texts printed v text n x new) (sym fault)
    (record {
      checked = unwritten_line s t before.recordings (read_lines choice.skips vs) v n old.recordings new.recordings h.checked checked;
      read = read;
      takes = h.takes;
      written = (
        wrote.prefix.0,
        (read, is),
        wrote.prefix.1,
        Appends-trans before.output.contents (w.contents mid.output) (w.contents new.output) (whole_lines printed) (take wrote.prefix.0 (whole_line text)) (rw same h.written) wrote.prefix.2,
      );
      output_failures = subst (λ (x : ℕ). FailsWhere true x (w.failures new.output)) (ap (λ (o : W). w.failures o) same ∙ h.no_failure) wrote.fault;
    })
printed_line s t w choice before vs texts printed v text n (Err e) old mid new h read same checked asked (inr (not, ok, stays)) fault = cc

-- ---- a line is passed over

pub passed_text : {S T W : Type 0} (s : SourceMembers S) (t : SourceMembers T) (w : SinkMembers W) (choice : Choice) (before : LineDevices) (vs : List FrameLine)
    (texts printed : List (List ℕ)) (v : FrameLine) (text : List ℕ) (old new : Printing S T W) → HasPrintedLines s t w choice before vs texts printed old
    → is_read choice.skips v.network ≡ false → new.recordings ≡ old.recordings → new.output ≡ old.output
    → HasAsked choice.selection choice.around (vs ++ v ∷ []) new.chooser → PrintsMore s t w choice before vs texts v text new
passed_text {S = S} {T = T} s t w choice before vs texts printed v text old new h skip recordings same asked = (
  printed,
  record {
    checked = subst (λ (ws : List FrameLine). HasChecked s t before.recordings ws new.recordings) (sym (read_same choice.skips vs v skip))
        (subst (λ (rs : Option (Recordings S T)). HasChecked s t before.recordings (read_lines choice.skips vs) rs) (sym recordings) h.checked);
    takes = passes_more choice vs texts printed v text h.takes (λ chosen. (let read = chosen.0 in cc));
    asked = asked;
    written = rw same h.written;
    no_failure = rw same h.no_failure;
  },
)
