-- One more line of a cut: it is written or passed over, or stops the cut.
use Rattle.std.proofs.Common.{◌≡◌, ◌∙◌, ℕ, true, false, List, [], ◌∷◌, ◌++◌, take, Option, Result, Ok, Err, sym, subst, inl, inr}
use Rattle.std.proofs.KnownBytes.{Appends-trans}
use Rattle.std.specs.List.{zip}
use Rattle.std.specs.Prelude.{MatchResult, OnOk}
use Rattle.std.specs.Io.KnownBytes.{Appends}
use Rattle.afdx_frame.specs.Frame.{Frame}
use Rattle.afdx_frame.specs.declared.key.Network.{Network}
use Rattle.afdx_frame.specs.declared.key.Network.TheVariants.{A, B}
use Rattle.cut_run.specs.Finder.{finding_of}
use Rattle.ledger_text.specs.declared.frame.FrameLine.{FrameLine}
use Rattle.ledger_text.specs.Neighbours.{HasAsked, IsChosen}
use Rattle.packet_format.specs.Packets.{Format}
use Rattle.packet_format.specs.Writer.{format_in, has_failed, sink_of}
use Rattle.run_fault.specs.Device.{SinkMembers, SinkView, SourceMembers, SourceView}
use Rattle.run_fault.specs.Fault.{FailsWhere}
use Rattle.cut_run.specs.Cutting.{HasTaken, IsTakeFault, StopsTaking, TakesMore, WritesPacket, WritesTaken, WritesUpTo}
use Rattle.cut_run.specs.Faults.{OutputSink, names}
use Rattle.cut_run.specs.Lines.{AreSpread, Choice, TakesOf, cut_capture, is_read, line_packet, read_lines}
use Rattle.cut_run.specs.Naming.{HasNamed, IsNameFault, Names, StopsNaming, opening_at}
use Rattle.cut_run.specs.declared.cut.Taking.{Taking}
use Rattle.cut_run.specs.declared.fault.CutFault.{CutFault}
use Rattle.cut_run.specs.declared.fault.CutFault.TheVariants as faults
use Rattle.cut_run.specs.declared.fault.CutSource.TheVariants as source
use Rattle.cut_run.specs.declared.recordings.Recordings.{Recordings}
use Rattle.cut_run.proofs.Lines.{capture_more, named_before, named_last, passes_more, read_more, read_same, spread_more, spread_over, takes_more, zip_more}
use Rattle.cut_run.proofs.Naming.{part_read}

-- ---- a line whose frame wasn't found

record Parts (format : Format) (choice : Choice) (fault : CutFault) (n : ℕ) (a b : SourceView) (vs ws : List FrameLine) (v : FrameLine) (fa fb : List Frame) (taken : List (FrameLine × Frame)) (before now : Option (List ℕ)) (x y : ℕ) : Type 0 where
  why : IsTakeFault fault n a b ws v fa fb
  written : WritesUpTo format choice fault fa fb vs v taken before now
  failures : FailsWhere (names fault OutputSink) x y

parts : (format : Format) (choice : Choice) (fault : CutFault) (n : ℕ) (a b : SourceView) (vs ws : List FrameLine) (v : FrameLine) (fa fb : List Frame) (taken : List (FrameLine × Frame)) (before now : Option (List ℕ)) (x y : ℕ)
    → IsNameFault fault n a b ws v fa fb → Appends before now (cut_capture format taken) → y ≡ x → Parts format choice fault n a b vs ws v fa fb taken before now x y
parts format choice (faults.Ledger k f) n a b vs ws v fa fb taken before now x y h w e = absurd h
parts format choice (faults.Order k) n a b vs ws v fa fb taken before now x y h w e = record { why = h; written = w; failures = e }
parts format choice (faults.Absent k) n a b vs ws v fa fb taken before now x y h w e = record { why = h; written = w; failures = e }
parts format choice (faults.Header network f) n a b vs ws v fa fb taken before now x y h w e = absurd h
parts format choice (faults.Read source.Ledger) n a b vs ws v fa fb taken before now x y h w e = absurd h
parts format choice (faults.Read (source.Recording A)) n a b vs ws v fa fb taken before now x y h w e = record { why = h; written = w; failures = e }
parts format choice (faults.Read (source.Recording B)) n a b vs ws v fa fb taken before now x y h w e = record { why = h; written = w; failures = e }
parts format choice faults.Write n a b vs ws v fa fb taken before now x y h w e = absurd h
parts format choice faults.Memory n a b vs ws v fa fb taken before now x y h w e = record { why = h; written = w; failures = e }

pub stops_naming : {S T W : Type 0} (s : SourceMembers S) (t : SourceMembers T) (w : SinkMembers W) (format : Format) (choice : Choice) (a b : SourceView) (output : SinkView)
    (vs : List FrameLine) (fs : List Frame) (taken : List (FrameLine × Frame)) (fa fb : List Frame) (v : FrameLine) (n : ℕ) (fault : CutFault) (old new : Taking S T W)
    → (h : HasTaken s t w format choice a b output vs fs taken fa fb old) → is_read choice.skips v.network ≡ true
    → StopsNaming s t a b (read_lines choice.skips vs) h.found v n fault new.recordings → new.output ≡ old.output
    → StopsTaking s t w format choice a b output vs fs taken v n fault new
stops_naming s t w format choice a b output vs fs taken fa fb v n fault old new h read stops same =
    let p = parts format choice fault n a b vs (read_lines choice.skips vs) v stops.frames_a stops.frames_b taken output.contents (w.contents (sink_of new.output)) output.failures (w.failures (sink_of new.output)) stops.why
    (rw same h.written) (rw same h.no_failure) in
    record {
      frames_a = stops.frames_a;
      frames_b = stops.frames_b;
      read_a = stops.read_a;
      read_b = stops.read_b;
      found = h.found;
      rise = stops.rise;
      named = stops.named;
      spread = h.spread;
      takes = h.takes;
      read = read;
      why = p.why;
      written = p.written;
      a_failures = stops.a_failures;
      b_failures = stops.b_failures;
      output_failures = p.failures;
    }

-- ---- a line whose frame was found

-- one more line beside its frame
takes_zipped : (skips : Option Network) (choice : Choice) (vs ws : List FrameLine) (found fs : List Frame) (v : FrameLine) (f : Frame) (taken : List (FrameLine × Frame))
    → AreSpread skips vs found fs → TakesOf choice ws (zip vs fs ++ (v, f) ∷ []) taken → TakesOf choice ws (zip (vs ++ v ∷ []) (fs ++ f ∷ [])) taken
takes_zipped skips choice vs ws found fs v f taken spread takes =
    subst (λ (ps : List (FrameLine × Frame)). TakesOf choice ws ps taken) (sym (zip_more skips vs found fs v f spread)) takes

-- the packet of a line that is taken wasn't written
stopped_line : {S T W : Type 0} (s : SourceMembers S) (t : SourceMembers T) (w : SinkMembers W) (format : Format) (choice : Choice) (a b : SourceView) (output : SinkView)
    (vs : List FrameLine) (fs : List Frame) (taken : List (FrameLine × Frame)) (fa fb : List Frame) (v : FrameLine) (n : ℕ) (f : Frame) (fault : CutFault) (old new : Taking S T W)
    → (h : HasTaken s t w format choice a b output vs fs taken fa fb old) → is_read choice.skips v.network ≡ true
    → Names s t a b (read_lines choice.skips vs) h.found v f new.recordings → IsChosen choice.selection choice.around vs v
    → WritesPacket format v f (Err fault) (w.contents (sink_of old.output)) (w.contents (sink_of new.output)) (w.failures (sink_of old.output)) (w.failures (sink_of new.output))
    → StopsTaking s t w format choice a b output vs fs taken v n fault new
stopped_line s t w format choice a b output vs fs taken fa fb v n f (faults.Ledger k g) old new h read names is wrote = absurd wrote
stopped_line s t w format choice a b output vs fs taken fa fb v n f (faults.Order k) old new h read names is wrote = absurd wrote
stopped_line s t w format choice a b output vs fs taken fa fb v n f (faults.Absent k) old new h read names is wrote = absurd wrote
stopped_line s t w format choice a b output vs fs taken fa fb v n f (faults.Header network g) old new h read names is wrote = absurd wrote
stopped_line s t w format choice a b output vs fs taken fa fb v n f (faults.Read x) old new h read names is wrote = absurd wrote
stopped_line s t w format choice a b output vs fs taken fa fb v n f faults.Write old new h read names is (part, counted) =
    let named = names.2 in
    record {
      frames_a = names.0;
      frames_b = names.1;
      read_a = part_read (opening_at A a) names.0 named.floor_a (finding_of s new.recordings.a) named.read_a;
      read_b = part_read (opening_at B b) names.1 named.floor_b (finding_of t new.recordings.b) named.read_b;
      found = h.found;
      rise = h.named.rise;
      named = named_before names.0 names.1 (read_lines choice.skips vs) h.found v f named.named;
      spread = h.spread;
      takes = h.takes;
      read = read;
      why = (f, named_last names.0 names.1 fa fb (read_lines choice.skips vs) h.found v f h.named.named named.named);
      written = (
        f,
        part.0,
        record { frame = named_last names.0 names.1 fa fb (read_lines choice.skips vs) h.found v f h.named.named named.named; chosen = (read, is) },
        part.1,
        Appends-trans output.contents (w.contents (sink_of old.output)) (w.contents (sink_of new.output)) (cut_capture format taken) (take part.0 (line_packet format v f)) h.written part.2,
      );
      a_failures = named.read_a.no_failure;
      b_failures = named.read_b.no_failure;
      output_failures = rw (sym h.no_failure) counted;
    }
stopped_line s t w format choice a b output vs fs taken fa fb v n f faults.Memory old new h read names is (same, well) =
    let named = names.2 in
    record {
      frames_a = names.0;
      frames_b = names.1;
      read_a = part_read (opening_at A a) names.0 named.floor_a (finding_of s new.recordings.a) named.read_a;
      read_b = part_read (opening_at B b) names.1 named.floor_b (finding_of t new.recordings.b) named.read_b;
      found = h.found;
      rise = h.named.rise;
      named = named_before names.0 names.1 (read_lines choice.skips vs) h.found v f named.named;
      spread = h.spread;
      takes = h.takes;
      read = read;
      why = tt;
      written = rw same h.written;
      a_failures = named.read_a.no_failure;
      b_failures = named.read_b.no_failure;
      output_failures = well ∙ h.no_failure;
    }

pub written_line : {S T W : Type 0} (s : SourceMembers S) (t : SourceMembers T) (w : SinkMembers W) (format : Format) (choice : Choice) (a b : SourceView) (output : SinkView)
    (vs : List FrameLine) (fs : List Frame) (taken : List (FrameLine × Frame)) (fa fb : List Frame) (v : FrameLine) (n : ℕ) (f : Frame) (r : Result (Unit {0}) CutFault)
    (old new : Taking S T W)
    → (h : HasTaken s t w format choice a b output vs fs taken fa fb old) → is_read choice.skips v.network ≡ true
    → Names s t a b (read_lines choice.skips vs) h.found v f new.recordings → HasAsked choice.selection choice.around (vs ++ v ∷ []) new.chooser
    → WritesTaken w format choice vs v f r old new → format_in new.output ≡ format → OnOk r (has_failed new.output ≡ false)
    → MatchResult r (λ _. TakesMore s t w format choice a b output vs fs v new)
    (λ fault. StopsTaking s t w format choice a b output vs fs taken v n fault new)
written_line s t w format choice a b output vs fs taken fa fb v n f (Ok tt) old new h read names asked (inl (is, wrote)) kept going = (
  f,
  taken ++ (v, f) ∷ [],
  names.0,
  names.1,
  record {
    found = h.found ++ f ∷ [];
    named = subst (λ (ws : List FrameLine). HasNamed s t a b ws (h.found ++ f ∷ []) names.0 names.1 new.recordings) (sym (read_more choice.skips vs v read)) names.2;
    spread = spread_more choice.skips vs h.found fs v f read h.spread;
    takes = takes_zipped choice.skips choice vs (vs ++ v ∷ []) h.found fs v f (taken ++ (v, f) ∷ []) h.spread (takes_more choice vs (zip vs fs) taken v (v, f) h.takes (read, is));
    asked = asked;
    written = subst (λ (x : List ℕ). Appends output.contents (w.contents (sink_of new.output)) x) (sym (capture_more format taken v f))
        (Appends-trans output.contents (w.contents (sink_of old.output)) (w.contents (sink_of new.output)) (cut_capture format taken) (line_packet format v f) h.written wrote.0);
    format_kept = kept;
    going = going;
    no_failure = wrote.1 ∙ h.no_failure;
  },
)
written_line s t w format choice a b output vs fs taken fa fb v n f (Ok tt) old new h read names asked (inr (not, ok, same)) kept going = (
  f,
  taken,
  names.0,
  names.1,
  record {
    found = h.found ++ f ∷ [];
    named = subst (λ (ws : List FrameLine). HasNamed s t a b ws (h.found ++ f ∷ []) names.0 names.1 new.recordings) (sym (read_more choice.skips vs v read)) names.2;
    spread = spread_more choice.skips vs h.found fs v f read h.spread;
    takes = takes_zipped choice.skips choice vs (vs ++ v ∷ []) h.found fs v f taken h.spread (passes_more choice vs (zip vs fs) taken v (v, f) h.takes (λ chosen. not chosen.1));
    asked = asked;
    written = rw same h.written;
    format_kept = kept;
    going = rw same h.going;
    no_failure = rw same h.no_failure;
  },
)
written_line s t w format choice a b output vs fs taken fa fb v n f (Err e) old new h read names asked (inl (is, wrote)) kept going =
    stopped_line s t w format choice a b output vs fs taken fa fb v n f e old new h read names is wrote
written_line s t w format choice a b output vs fs taken fa fb v n f (Err e) old new h read names asked (inr (not, ok, same)) kept going = cc

-- ---- a line that is passed over

-- stands where a line has no frame that is looked up
no_frame : Frame
no_frame = record { network = A; number = 0; stamp = 0; whole = 0; bytes = [] }

pub passed_line : {S T W : Type 0} (s : SourceMembers S) (t : SourceMembers T) (w : SinkMembers W) (format : Format) (choice : Choice) (a b : SourceView) (output : SinkView)
    (vs : List FrameLine) (fs : List Frame) (taken : List (FrameLine × Frame)) (fa fb : List Frame) (v : FrameLine) (old new : Taking S T W)
    → HasTaken s t w format choice a b output vs fs taken fa fb old → is_read choice.skips v.network ≡ false
    → new.recordings ≡ old.recordings → new.output ≡ old.output → HasAsked choice.selection choice.around (vs ++ v ∷ []) new.chooser
    → TakesMore s t w format choice a b output vs fs v new
passed_line {S = S} {T = T} s t w format choice a b output vs fs taken fa fb v old new h skip recordings same asked = (
  no_frame,
  taken,
  fa,
  fb,
  record {
    found = h.found;
    named = subst (λ (ws : List FrameLine). HasNamed s t a b ws h.found fa fb new.recordings) (sym (read_same choice.skips vs v skip))
        (subst (λ (rs : Recordings S T). HasNamed s t a b (read_lines choice.skips vs) h.found fa fb rs) (sym recordings) h.named);
    spread = spread_over choice.skips vs h.found fs v no_frame skip h.spread;
    takes = takes_zipped choice.skips choice vs (vs ++ v ∷ []) h.found fs v no_frame taken h.spread
        (passes_more choice vs (zip vs fs) taken v (v, no_frame) h.takes (λ chosen. (let read = chosen.0 in cc)));
    asked = asked;
    written = rw same h.written;
    format_kept = rw same h.format_kept;
    going = rw same h.going;
    no_failure = rw same h.no_failure;
  },
)
