-- A run starts its threads.
use Rattle.std.proofs.Common.{◌≡◌, ◌++◌, [], ℕ, ◌≤◌, List, Option, Some, None, length, false, arith, refl, sym, subst, ap, ◌∙◌, Result, Ok, Err}
use Rattle.std.specs.Prelude.{IfErr, IfOk, MatchResult}
use Rattle.std.specs.Io.KnownBytes.{prepend_known}
use Rattle.afdx_frame.specs.declared.key.Network.{Network}
use Rattle.afdx_frame.specs.declared.key.Network.TheVariants.{A, B}
use Rattle.ordered_merge.specs.Merge.{Follows, MergerState, new_state}
use Rattle.watch_run.specs.Filters.{Making}
use Rattle.pcap_io.specs.Position.{Opens, Reading}
use Rattle.pcap_io.specs.Reader.{position_of, reading_of, unread_of}
use Rattle.pcap_io.specs.Writer.{has_failed}
use Rattle.pcap_io.specs.declared.position.Position.{Position}
use Rattle.pcap_io.specs.declared.recording.Ending.{Ending}
use Rattle.pcap_io.specs.declared.recording.Stage.TheVariants.{Going}
use Rattle.pcap_io.specs.declared.reader.TapReader.{TapReader}
use Rattle.tap_queue.specs.Items.{frames_in}
use Rattle.tap_queue.specs.Ring.{taken_items}
use Rattle.tap_queue.specs.declared.end.TapEnd.{TapEnd}
use Rattle.tap_queue.specs.declared.item.TapItem.{TapItem}
use Rattle.tap_queue.specs.declared.ring.TapPut.{TapPut}
use Rattle.verdict_ledger.specs.Ledger.{has_failed as ledger_has_failed}
use Rattle.vl_config.specs.Document.{VlTable}
use Rattle.watch_run.specs.Outputs.{HasWritten}
use Rattle.watch_run.specs.Ready.{AreTwoRings, IsReady, ready_of}
use Rattle.tap_merge.specs.Rings.{HasEnding}
use Rattle.tap_merge.specs.Taps.{Agree, Agrees, Fits, HasMerged, HasRead}
use Rattle.tap_merge.specs.declared.taps.Taps.{Taps}
use Rattle.watch_run.specs.Running.{IsRunning}
use Rattle.tap_merge.specs.Threads.{IsStarted}
use Rattle.run_fault.specs.Device.{SourceMembers, SinkMembers, SinkView, SourceView}
use Rattle.run_fault.specs.Recording.{WasOpened, most_frames}
use Rattle.run_fault.specs.Opening.{WatchDevices}
use Rattle.watch_run.specs.declared.outputs.Outputs.{Outputs}
use Rattle.tap_merge.specs.declared.rings.Rings.{Rings}
use Rattle.watch_run.specs.declared.threads.Ready.{Ready}

nothing_ahead : (ahead : List ℕ) (left : Option (List ℕ)) → ahead ≡ [] → prepend_known ahead left ≡ left
nothing_ahead ahead None none = refl
nothing_ahead ahead (Some bytes) none = ap (λ (l : List ℕ). Some (l ++ bytes)) none

-- a recording of which no more was read than its file header
pub still_opened : (network : Network) (late : ℕ) (before after : SourceView) (end : Option Ending) (reading : Reading) (ahead : List ℕ) → HasRead network late before [] end reading →
    end ≡ None → ahead ≡ [] → reading.remaining ≡ prepend_known ahead after.remaining → WasOpened before after
still_opened network late before after end reading ahead has none empty left =
    let read : HasRead network late before [] None reading = subst (λ (e : Option Ending). HasRead network late before [] e reading) none has in
    let here : read.read.opened ≡ reading.remaining = read.read.reads.1 ∙ sym read.stands.1 in
    (read.read.layout, subst (λ (l : Option (List ℕ)). Opens before.told before.remaining l read.read.layout) (here ∙ left ∙ nothing_ahead ahead after.remaining empty) read.read.opens)

pub ready_runs : {S T W L : Type 0} (s : SourceMembers S) (t : SourceMembers T)
    (w : SinkMembers W) (l : SinkMembers L)
    (ps : Making) (vl_table : VlTable) (before : WatchDevices) (ready : Ready S T W L) → IsReady s t w l ps vl_table before ready →
    IsRunning w l ps vl_table before.capture before.ledger ready.rings ready.outputs
ready_runs s t w l ps vl_table before ready h = record {
  cut = [];
  taken = h.taken;
  written = h.written;
  capture_going = h.capture_going;
  ledger_going = h.ledger_going;
}

pub both_ways : {X E : Type 0} {P : X → Type 0} {Q : E → Type 0} {P' : X → Type 0} {Q' : E → Type 0} (r : Result X E) → IfOk r P → IfErr r Q →
    ((x : X) → P x → P' x) → ((e : E) → Q e → Q' e) → MatchResult r P' Q'
both_ways (Ok x) p q f g = f x p
both_ways (Err e) p q f g = g e q

pub same_start : {S : Type 0} (s : SourceMembers S) (network : Network) (late : ℕ) (before : SourceView) (reader there : TapReader S) → there ≡ reader →
    IsStarted network late before (reading_of s.remaining s.failures s.told reader) → IsStarted network late before (reading_of s.remaining s.failures s.told there)
same_start {S = S} s network late before reader there same h = subst (λ (r : TapReader S). IsStarted network late before (reading_of s.remaining s.failures s.told r)) (sym same) h

pub same_run : {W L : Type 0} (w : SinkMembers W) (l : SinkMembers L) (ps : Making) (vl_table : VlTable)
    (capture ledger : SinkView) (rings rings' : Rings) (outputs outputs' : Outputs W L) → rings' ≡ rings → outputs' ≡ outputs →
    IsRunning w l ps vl_table capture ledger rings outputs → IsRunning w l ps vl_table capture ledger rings' outputs'
same_run {W = W} {L = L} w l ps vl_table capture ledger rings rings' outputs outputs' same same_outputs h =
    subst (λ (r : Rings). IsRunning w l ps vl_table capture ledger r outputs') (sym same)
    (subst (λ (o : Outputs W L). IsRunning w l ps vl_table capture ledger rings o) (sym same_outputs) h)

pub ok_of : {X E : Type 0} {P' : X → Type 0} (r : Result X E) (P : X → Type 0) (Q : E → Type 0) → MatchResult r P Q → ((x : X) → P x → P' x) → IfOk r P'
ok_of (Ok x) P Q m f = f x m
ok_of (Err e) P Q m f = tt

pub err_of : {X E : Type 0} {Q' : E → Type 0} (r : Result X E) (P : X → Type 0) (Q : E → Type 0) → MatchResult r P Q → ((e : E) → Q e → Q' e) → IfErr r Q'
err_of (Ok x) P Q m f = tt
err_of (Err e) P Q m f = f e m

-- ---- a run is ready

none_goes : (network : Network) (end : Option Ending) (q : Position) (m : MergerState) → Agrees network end q m → end ≡ None →
    (q.stage ≡ Going) × Fits network q m
none_goes network end q m agrees none = subst (λ (e : Option Ending). Agrees network e q m) none agrees

none_are_few : (taken : List TapItem) → taken ≡ [] → length (frames_in taken) ≤ most_frames
none_are_few taken none = subst (λ (l : List TapItem). length (frames_in l) ≤ most_frames) (sym none) (omega arith)

pub ready_made : {S T W L : Type 0} (s : SourceMembers S) (t : SourceMembers T)
    (w : SinkMembers W) (l : SinkMembers L)
    (ps : Making) (vl_table : VlTable) (before : WatchDevices) (ends : (TapPut × TapEnd) × (TapPut × TapEnd)) (taps : Taps S T) (outputs : Outputs W L) (late : ℕ) →
    late ≡ vl_table.late → HasMerged s t late before.a before.b [] [] [] taps → Agree taps → taps.merger ≡ new_state late → (taps.end_a ≡ None) × (taps.end_b ≡ None) →
    (unread_of taps.a ≡ []) × (unread_of taps.b ≡ []) → AreTwoRings late ends → HasWritten w l ps vl_table before.capture before.ledger [] outputs → has_failed outputs.capture ≡ false →
    ledger_has_failed outputs.ledger ≡ false → IsReady s t w l ps vl_table before (ready_of ends.0.0 ends.0.1 ends.1.0 ends.1.1 taps outputs)
ready_made s t w l ps vl_table before ends taps outputs late is merged agree merger none fresh rings written going ledger_going =
    let (stage_a, fits_a) = none_goes A taps.end_a (position_of taps.a) taps.merger agree.0 none.0 in
    let (stage_b, fits_b) = none_goes B taps.end_b (position_of taps.b) taps.merger agree.1 none.1 in
    let merger_late : taps.merger.late ≡ late = ap (λ (m : MergerState). m.late) merger in
    record {
      a = record {
        read = subst (λ n. HasRead A n before.a [] None (reading_of s.remaining s.failures s.told taps.a)) is (subst (λ (e : Option Ending). HasRead A late before.a [] e (reading_of s.remaining s.failures s.told taps.a)) none.0 merged.read_a);
        going = stage_a;
        most = fits_a.most;
      };
      b = record {
        read = subst (λ n. HasRead B n before.b [] None (reading_of t.remaining t.failures t.told taps.b)) is (subst (λ (e : Option Ending). HasRead B late before.b [] e (reading_of t.remaining t.failures t.told taps.b)) none.1 merged.read_b);
        going = stage_b;
        most = fits_b.most;
      };
      taken = record {
        late_is = merger_late ∙ is;
        network_a = rings.network_a;
        network_b = rings.network_b;
        late_a = rings.late_a ∙ is;
        late_b = rings.late_b ∙ is;
        few_a = none_are_few (taken_items ends.0.1) rings.none_taken_a;
        few_b = none_are_few (taken_items ends.1.1) rings.none_taken_b;
        follows = subst (λ (l : List TapItem). Follows taps.merger (frames_in l) (frames_in (taken_items ends.1.1)) []) (sym rings.none_taken_a)
            (subst (λ (l : List TapItem). Follows taps.merger [] (frames_in l) []) (sym rings.none_taken_b) merged.follows);
        ended_a = subst (λ (e : Option Ending). HasEnding e taps.merger.a (taken_items ends.0.1)) (sym none.0) fits_a.going;
        ended_b = subst (λ (e : Option Ending). HasEnding e taps.merger.b (taken_items ends.1.1)) (sym none.1) fits_b.going;
        failed = tt;
      };
      written = written;
      capture_going = going;
      ledger_going = ledger_going;
    }
