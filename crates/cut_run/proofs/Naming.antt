-- The word of a finder on one network, as both recordings have it.
use Rattle.std.proofs.Common.{◌≡◌, ◌∙◌, ℕ, ◌≤◌, List, [], ◌∷◌, ◌++◌, length, slice_get, Option, None, Some, Result, Ok, Err, refl, sym, ap, subst, inl, inr, arith}
use Rattle.std.specs.Prelude.{MatchResult, IfSome}
use Rattle.std.specs.Io.KnownBytes.{Consumes}
use Rattle.afdx_frame.specs.Frame.{Frame}
use Rattle.afdx_frame.specs.declared.key.Key.{Key}
use Rattle.afdx_frame.specs.declared.key.Network.{Network}
use Rattle.afdx_frame.specs.declared.key.Network.TheVariants.{A, B}
use Rattle.cut_run.specs.Finder.{Finding, Finds, HasRead, IsFindFault, LacksFrame as FinderLacks, Opening, StandsAt, any_late, finding_of}
use Rattle.cut_run.specs.Places.{place_at}
use Rattle.cut_run.specs.declared.finder.FindFault.{FindFault}
use Rattle.cut_run.specs.declared.finder.FindFault.TheVariants as find
use Rattle.cut_run.specs.declared.place.SearchPlace.{SearchPlace}
use Rattle.ledger_text.specs.declared.frame.FrameLine.{FrameLine}
use Rattle.pcap_io.specs.Position.{Reads, TakesAPacket, after_frame, start_at}
use Rattle.pcap_io.specs.declared.position.Position.{Position}
use Rattle.pcap_io.specs.declared.recording.Ending.{Ending}
use Rattle.pcap_io.specs.declared.recording.Stage.{Stage}
use Rattle.pcap_io.specs.declared.recording.Stage.TheVariants.{Going, Ended}
use Rattle.pcap_io.specs.declared.told.Told.{Told}
use Rattle.run_fault.specs.Device.{SourceMembers, SourceView}
use Rattle.run_fault.specs.Fault.{FailsWhere}
use Rattle.run_fault.specs.Recording.{IsRecording, most_frames}
use Rattle.run_fault.proofs.Recording.{complete}
use Rattle.cut_run.specs.Faults.{RecordingSource, names}
use Rattle.cut_run.specs.Lines.{ComesLater, IsFrameOf, key_of_line, last_key, side}
use Rattle.cut_run.specs.Naming.{FloorWithin, HasNamed, IsNameFault, LacksFrame, Names, ReadsPart, StopsNaming, name_fault, opening_at, view_of}
use Rattle.cut_run.specs.declared.fault.CutFault.{CutFault}
use Rattle.cut_run.specs.declared.fault.CutFault.TheVariants as faults
use Rattle.cut_run.specs.declared.fault.CutSource.TheVariants as source
use Rattle.cut_run.specs.declared.recordings.Recordings.{Recordings}
use Rattle.cut_run.proofs.Lines.{Widens, last_more, named_more, named_wider, rise_more, widens_by, widens_none}
use Rattle.cut_run.proofs.Order.{within_itself, within_more}

pub when_ok : {X E : Type 0} (r : Result X E) (P : X → Type 0) (Q : E → Type 0) (x : X) → r ≡ Ok x → MatchResult r P Q → P x
when_ok r P Q x is h = rw is at h

pub when_err : {X E : Type 0} (r : Result X E) (P : X → Type 0) (Q : E → Type 0) (e : E) → r ≡ Err e → MatchResult r P Q → Q e
when_err r P Q e is h = rw is at h

-- ---- the frame was found

-- both recordings were read so far, and have the line's frame
named_one : {S T : Type 0} (s : SourceMembers S) (t : SourceMembers T) (a b : SourceView) (vs : List FrameLine) (fs fa fb ga gb : List Frame) (old new : Recordings S T)
    (v : FrameLine) (f : Frame) (floor_a floor_b : Option SearchPlace) → HasNamed s t a b vs fs fa fb old → ComesLater (last_key vs) v
    → HasRead (opening_at A a) ga floor_a (finding_of s new.a) → HasRead (opening_at B b) gb floor_b (finding_of t new.b)
    → FloorWithin A floor_a (Some (key_of_line v)) → FloorWithin B floor_b (Some (key_of_line v)) → Widens fa ga → Widens fb gb → IsFrameOf ga gb v f
    → new.last ≡ Some (key_of_line v) → Names s t a b vs fs v f new
named_one s t a b vs fs fa fb ga gb old new v f floor_a floor_b h later read_a read_b within_a within_b wider_a wider_b is last = (
  ga,
  gb,
  record {
    floor_a = floor_a;
    floor_b = floor_b;
    read_a = read_a;
    read_b = read_b;
    within_a = subst (λ (k : Option Key). FloorWithin A floor_a k) (sym (last_more vs v)) within_a;
    within_b = subst (λ (k : Option Key). FloorWithin B floor_b k) (sym (last_more vs v)) within_b;
    last = last ∙ sym (last_more vs v);
    rise = rise_more vs v h.rise later;
    named = named_more ga gb vs fs v f (named_wider fa fb ga gb wider_a wider_b vs fs h.named) is;
  },
)

-- the frame that was found on the line's network is the line's
frame_at : (network : Network) (ga gb : List Frame) (v : FrameLine) (f : Frame) → v.network ≡ network → slice_get (side network ga gb) v.number ≡ Some f
    → f.stamp ≡ v.stamp.0 → IsFrameOf ga gb v f
frame_at network ga gb v f is indexed stamp =
    record { indexed = subst (λ (n : Network). slice_get (side n ga gb) v.number ≡ Some f) (sym is) indexed; stamp = stamp }

-- and it stands no later than the line
floor_at : (network : Network) (v : FrameLine) → v.network ≡ network → FloorWithin network (Some (place_at v.stamp.0 v.number)) (Some (key_of_line v))
floor_at network v is = subst (λ (n : Network). FloorWithin n (Some (place_at v.stamp.0 v.number)) (Some (key_of_line v))) is (within_itself v)

pub named_a : {S T : Type 0} (s : SourceMembers S) (t : SourceMembers T) (a b : SourceView) (vs : List FrameLine) (fs fa fb : List Frame) (old new : Recordings S T)
    (v : FrameLine) (f : Frame) → HasNamed s t a b vs fs fa fb old → v.network ≡ A → ComesLater (last_key vs) v
    → Finds (opening_at A a) fa (place_at v.stamp.0 v.number) f (finding_of s new.a) → new.b ≡ old.b → new.last ≡ Some (key_of_line v)
    → Names s t a b vs fs v f new
named_a s t a b vs fs fa fb old new v f h is later found same last =
    named_one s t a b vs fs fa fb (fa ++ found.more) fb old new v f (Some (place_at v.stamp.0 v.number)) h.floor_b h later found.read
    (subst (λ x. HasRead (opening_at B b) fb h.floor_b (finding_of t x)) (sym same) h.read_b) (floor_at A v is)
    (within_more B h.floor_b (last_key vs) v h.within_b later) (widens_by fa found.more) (widens_none fb)
    (frame_at A (fa ++ found.more) fb v f is found.is_at (ap (λ (q : SearchPlace). q.stamp.0) found.is_of)) last

pub named_b : {S T : Type 0} (s : SourceMembers S) (t : SourceMembers T) (a b : SourceView) (vs : List FrameLine) (fs fa fb : List Frame) (old new : Recordings S T)
    (v : FrameLine) (f : Frame) → HasNamed s t a b vs fs fa fb old → v.network ≡ B → ComesLater (last_key vs) v
    → Finds (opening_at B b) fb (place_at v.stamp.0 v.number) f (finding_of t new.b) → new.a ≡ old.a → new.last ≡ Some (key_of_line v)
    → Names s t a b vs fs v f new
named_b s t a b vs fs fa fb old new v f h is later found same last =
    named_one s t a b vs fs fa fb fa (fb ++ found.more) old new v f h.floor_a (Some (place_at v.stamp.0 v.number)) h later
    (subst (λ x. HasRead (opening_at A a) fa h.floor_a (finding_of s x)) (sym same) h.read_a) found.read
    (within_more A h.floor_a (last_key vs) v h.within_a later) (floor_at B v is) (widens_none fa) (widens_by fb found.more)
    (frame_at B fa (fb ++ found.more) v f is found.is_at (ap (λ (q : SearchPlace). q.stamp.0) found.is_of)) last

-- ---- it wasn't

none_consumed : (x : Option (List ℕ)) → Consumes x x []
none_consumed None = tt
none_consumed (Some xs) = refl

none_taken : (x y : Option (List ℕ)) → y ≡ x → TakesAPacket x y
none_taken x y same = ([], omega arith, subst (λ (z : Option (List ℕ)). Consumes x z []) (sym same) (none_consumed x))

gone_at : (position : Position) (told : Told) (left : Option (List ℕ)) (o : Opening) (frames : List Frame) (now : Finding) → StandsAt position told left now.reading
    → TakesAPacket left now.reading.remaining
gone_at position told left o frames now (inl (here, same, tells)) = none_taken left now.reading.remaining same
gone_at position told left o frames now (inr (ending, ended)) = ended.gone

pub part_read : (o : Opening) (frames : List Frame) (floor : Option SearchPlace) (now : Finding) → HasRead o frames floor now → ReadsPart o frames now
part_read o frames floor now h = record { position = h.position; left = h.left; read = h.read; gone = gone_at h.position h.told h.left o frames now h.stands }

-- frames don't end a recording
reads_stage : (p q : Position) (before after : Option (List ℕ)) (frames : List Frame) → Reads p before frames q after → q.stage ≡ p.stage
reads_stage p q before after [] (same, left) = ap (λ (x : Position). x.stage) (sym same)
reads_stage p q before after (f ∷ fs) (mid, taken, more) = reads_stage (after_frame p f.stamp) q mid after fs more

going_ended : (stage : Stage) (ending : Ending) → stage ≡ Going → stage ≡ Ended ending → ⊥
going_ended stage ending e f = cc

lacks_at : (network : Network) (view : SourceView) (frames : List Frame) (v : FrameLine) (now : Finding) (floor : Option SearchPlace) → v.network ≡ network
    → HasRead (opening_at network view) frames floor now → FinderLacks frames (place_at v.stamp.0 v.number) now → LacksFrame view frames v
lacks_at network view frames v now floor is h (inl (f, got, other)) = inl (f, got, other)
lacks_at network view frames v now floor is h (inr (beyond, (ending, stage))) = elim h.stands [
  | inl stands ↦
      absurd (going_ended now.reading.position.stage ending
      (ap (λ (x : Position). x.stage) stands.0 ∙ reads_stage (start_at network h.read.layout most_frames any_late) h.position h.read.opened h.left frames h.read.reads) stage)
  | inr ended ↦
      inr (
        beyond,
        (
          ended.0,
          subst (λ (n : Network). IfSome view.remaining (λ bytes. IsRecording n any_late view.told bytes frames ended.0)) (sym is)
              (complete network any_late view.told h.told view.remaining h.read.opened h.left h.read.layout frames h.position ended.0 h.read.opens h.read.reads h.tells ended.1.here),
        ),
      )
]

-- both recordings were read so far, and the line's frame wasn't found
stopped_one : {S T : Type 0} (s : SourceMembers S) (t : SourceMembers T) (a b : SourceView) (vs : List FrameLine) (fs fa fb ga gb : List Frame) (old new : Recordings S T)
    (v : FrameLine) (n : ℕ) (fault : CutFault) → HasNamed s t a b vs fs fa fb old → ReadsPart (opening_at A a) ga (finding_of s new.a)
    → ReadsPart (opening_at B b) gb (finding_of t new.b) → Widens fa ga → Widens fb gb → IsNameFault fault n a b vs v ga gb
    → FailsWhere (names fault (RecordingSource A)) a.failures (finding_of s new.a).reading.failures
    → FailsWhere (names fault (RecordingSource B)) b.failures (finding_of t new.b).reading.failures → StopsNaming s t a b vs fs v n fault new
stopped_one s t a b vs fs fa fb ga gb old new v n fault h read_a read_b wider_a wider_b why a_failures b_failures = record {
  frames_a = ga;
  frames_b = gb;
  read_a = read_a;
  read_b = read_b;
  rise = h.rise;
  named = named_wider fa fb ga gb wider_a wider_b vs fs h.named;
  why = why;
  a_failures = a_failures;
  b_failures = b_failures;
}

lacks_side : (network : Network) (a b : SourceView) (ga gb : List Frame) (v : FrameLine) → v.network ≡ network
    → LacksFrame (view_of network a b) (side network ga gb) v → LacksFrame (view_of v.network a b) (side v.network ga gb) v
lacks_side network a b ga gb v is lacks = subst (λ (m : Network). LacksFrame (view_of m a b) (side m ga gb) v) (sym is) lacks

few_side : (network : Network) (ga gb : List Frame) (v : FrameLine) → v.network ≡ network → length (side network ga gb) ≤ v.number
    → length (side v.network ga gb) ≤ v.number
few_side network ga gb v is few = subst (λ (m : Network). length (side m ga gb) ≤ v.number) (sym is) few

-- the other recording stays
stays_a : {S T : Type 0} (s : SourceMembers S) (t : SourceMembers T) (a b : SourceView) (vs : List FrameLine) (fs fa fb : List Frame) (old new : Recordings S T)
    → HasNamed s t a b vs fs fa fb old → new.a ≡ old.a → ReadsPart (opening_at A a) fa (finding_of s new.a)
stays_a s t a b vs fs fa fb old new h same = rw same (part_read (opening_at A a) fa h.floor_a (finding_of s old.a) h.read_a)

stays_b : {S T : Type 0} (s : SourceMembers S) (t : SourceMembers T) (a b : SourceView) (vs : List FrameLine) (fs fa fb : List Frame) (old new : Recordings S T)
    → HasNamed s t a b vs fs fa fb old → new.b ≡ old.b → ReadsPart (opening_at B b) fb (finding_of t new.b)
stays_b s t a b vs fs fa fb old new h same = rw same (part_read (opening_at B b) fb h.floor_b (finding_of t old.b) h.read_b)

pub stopped_a : {S T : Type 0} (s : SourceMembers S) (t : SourceMembers T) (a b : SourceView) (vs : List FrameLine) (fs fa fb : List Frame) (old new : Recordings S T)
    (v : FrameLine) (n : ℕ) (fault : FindFault) → HasNamed s t a b vs fs fa fb old → v.network ≡ A
    → IsFindFault (opening_at A a) fa (place_at v.stamp.0 v.number) (finding_of s new.a) fault → new.b ≡ old.b
    → StopsNaming s t a b vs fs v n (name_fault v.network n fault) new
stopped_a s t a b vs fs fa fb old new v n find.Absent h is found same =
    let ga = fa ++ found.more in
    let place = Some (place_at v.stamp.0 v.number) in
    let now = finding_of s new.a in
    stopped_one s t a b vs fs fa fb ga fb old new v n (faults.Absent n) h (part_read (opening_at A a) ga place now found.read) (stays_b s t a b vs fs fa fb old new h same)
    (widens_by fa found.more) (widens_none fb) (refl, lacks_side A a b ga fb v is (lacks_at A a ga v now place is found.read found.lacks)) found.read.no_failure
    (rw same h.read_b.no_failure)
stopped_a s t a b vs fs fa fb old new v n find.Device h is found same =
    stopped_one s t a b vs fs fa fb (fa ++ found.more) fb old new v n (faults.Read (source.Recording v.network)) h
    (record { position = found.position; left = found.left; read = found.read; gone = found.gone }) (stays_b s t a b vs fs fa fb old new h same)
    (widens_by fa found.more) (widens_none fb) (refl, few_side A (fa ++ found.more) fb v is found.before) (rw is found.failure) (rw (is, same) h.read_b.no_failure)
stopped_a s t a b vs fs fa fb old new v n find.Memory h is found same =
    stopped_one s t a b vs fs fa fb (fa ++ found.more) fb old new v n faults.Memory h
    (record { position = found.position; left = found.left; read = found.read; gone = found.gone }) (stays_b s t a b vs fs fa fb old new h same)
    (widens_by fa found.more) (widens_none fb) tt found.no_failure (rw same h.read_b.no_failure)
stopped_a s t a b vs fs fa fb old new v n find.Failed h is found same = absurd found

pub stopped_b : {S T : Type 0} (s : SourceMembers S) (t : SourceMembers T) (a b : SourceView) (vs : List FrameLine) (fs fa fb : List Frame) (old new : Recordings S T)
    (v : FrameLine) (n : ℕ) (fault : FindFault) → HasNamed s t a b vs fs fa fb old → v.network ≡ B
    → IsFindFault (opening_at B b) fb (place_at v.stamp.0 v.number) (finding_of t new.b) fault → new.a ≡ old.a
    → StopsNaming s t a b vs fs v n (name_fault v.network n fault) new
stopped_b s t a b vs fs fa fb old new v n find.Absent h is found same =
    let gb = fb ++ found.more in
    let place = Some (place_at v.stamp.0 v.number) in
    let now = finding_of t new.b in
    stopped_one s t a b vs fs fa fb fa gb old new v n (faults.Absent n) h (stays_a s t a b vs fs fa fb old new h same) (part_read (opening_at B b) gb place now found.read)
    (widens_none fa) (widens_by fb found.more) (refl, lacks_side B a b fa gb v is (lacks_at B b gb v now place is found.read found.lacks)) (rw same h.read_a.no_failure)
    found.read.no_failure
stopped_b s t a b vs fs fa fb old new v n find.Device h is found same =
    stopped_one s t a b vs fs fa fb fa (fb ++ found.more) old new v n (faults.Read (source.Recording v.network)) h (stays_a s t a b vs fs fa fb old new h same)
    (record { position = found.position; left = found.left; read = found.read; gone = found.gone }) (widens_none fa) (widens_by fb found.more)
    (refl, few_side B fa (fb ++ found.more) v is found.before)
    (rw (is, same) h.read_a.no_failure) (rw is found.failure)
stopped_b s t a b vs fs fa fb old new v n find.Memory h is found same =
    stopped_one s t a b vs fs fa fb fa (fb ++ found.more) old new v n faults.Memory h (stays_a s t a b vs fs fa fb old new h same)
    (record { position = found.position; left = found.left; read = found.read; gone = found.gone }) (widens_none fa) (widens_by fb found.more) tt
    (rw same h.read_a.no_failure) found.no_failure
stopped_b s t a b vs fs fa fb old new v n find.Failed h is found same = absurd found
