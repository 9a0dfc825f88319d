-- Two runs over the same bytes.
use Rattle.std.proofs.Common.{◌≡◌, ◌∙◌, ℕ, List, [], ◌∷◌, ◌++◌, Option, None, Some, Ok, drop, sym, subst, ap}
use Rattle.std.specs.Prelude.{IfSome}
use Rattle.std.specs.Io.KnownBytes.{Appends}
use Rattle.afdx_frame.specs.Frame.{Frame}
use Rattle.afdx_frame.specs.declared.key.Network.{Network}
use Rattle.pcap_io.specs.Position.{Holds, start_at}
use Rattle.pcap_io.specs.declared.layout.Layout.{Layout}
use Rattle.pcap_io.specs.declared.layout.TheConstants.{FILE_HEADER_LEN}
use Rattle.pcap_io.specs.declared.recording.Ending.{Ending}
use Rattle.pcap_io.proofs.Parse.{one_holds}
use Rattle.ordered_merge.proofs.Following.{one_order}
use Rattle.ordered_merge.specs.Order.{IsOrder}
use Rattle.pcap_io.specs.declared.told.Told.{Told}
use Rattle.run_fault.specs.Recording.{IsRecording, most_frames}
use Rattle.verdict_ledger.specs.Tally.{link_counts, totals_of}
use Rattle.watch_run.specs.Filters.{capture_by, entries_by, ledger_by}
use Rattle.watch_run.specs.Laws.{SameBytesInSameBytesOut}
use Rattle.afdx_frame.specs.declared.key.Network.TheVariants.{A, B}

-- bytes are a recording in one way
one_recording : (network : Network) (late : ℕ) (told : Told) (bytes : List ℕ) (fs gs : List Frame) (e d : Ending) → IsRecording network late told bytes fs e → IsRecording network late told bytes gs d
    → (fs ≡ gs) × (e ≡ d)
one_recording network late told bytes fs gs e d h k =
    let headers : Ok h.layout ≡ Ok k.layout = sym h.header ∙ k.header in
    let layouts : h.layout ≡ k.layout = cc in
    one_holds (start_at network k.layout most_frames late) told (drop FILE_HEADER_LEN bytes) fs gs e d
    (subst (λ (layout : Layout). Holds (start_at network layout most_frames late) told (drop FILE_HEADER_LEN bytes) fs e) layouts h.holds) k.holds

-- the same where both sources expose the bytes
one_source : (network : Network) (late : ℕ) (told also_told : Told) (one other : Option (List ℕ)) (bytes : List ℕ) (fs gs : List Frame) (e d : Ending) → told ≡ also_told → one ≡ Some bytes → other ≡ Some bytes
    → IfSome one (λ known. IsRecording network late told known fs e) → IfSome other (λ known. IsRecording network late also_told known gs d) → (fs ≡ gs) × (e ≡ d)
one_source network late told also_told one other bytes fs gs e d alike is also h k =
    one_recording network late also_told bytes fs gs e d
    (subst (λ (t : Told). IsRecording network late t bytes fs e) alike (subst (λ (o : Option (List ℕ)). IfSome o (λ known. IsRecording network late told known fs e)) is h))
    (subst (λ (o : Option (List ℕ)). IfSome o (λ known. IsRecording network late also_told known gs d)) also k)

-- all that a sink of known bytes holds after it took some
holds_both : (old : List ℕ) (after : Option (List ℕ)) (bytes : List ℕ) → Appends (Some old) after bytes → after ≡ Some (old ++ bytes)
holds_both old None bytes h = absurd h
holds_both old (Some all) bytes h = ap (λ (l : List ℕ). Some l) h

one_sink : (one other after after' : Option (List ℕ)) (old bytes bytes' : List ℕ) → one ≡ Some old → other ≡ Some old → Appends one after bytes → Appends other after' bytes'
    → bytes ≡ bytes' → after ≡ after'
one_sink one other after after' old bytes bytes' is also h k same =
    holds_both old after bytes (subst (λ (o : Option (List ℕ)). Appends o after bytes) is h)
    ∙ ap (λ (l : List ℕ). Some (old ++ l)) same
    ∙ sym (holds_both old after' bytes' (subst (λ (o : Option (List ℕ)). Appends o after' bytes') also k))

pub same_bytes_out : SameBytesInSameBytesOut
same_bytes_out ps vl_table endings endings' tally tally' before before' after after' same w v =
    let a = one_source A vl_table.late before.a.told before'.a.told before.a.remaining before'.a.remaining same.bytes_a w.frames_a v.frames_a w.a v.a same.told_a same.one_a same.other_a w.read_a.complete v.read_a.complete in
    let b = one_source B vl_table.late before.b.told before'.b.told before.b.remaining before'.b.remaining same.bytes_b w.frames_b v.frames_b w.b v.b same.told_b same.one_b same.other_b w.read_b.complete v.read_b.complete in
    let order : IsOrder v.frames_a v.frames_b w.frames =
    subst (λ (fa : List Frame). IsOrder fa v.frames_b w.frames) a.0 (subst (λ (fb : List Frame). IsOrder w.frames_a fb w.frames) b.0 w.order) in
    let frames : w.frames ≡ v.frames = one_order v.frames_a v.frames_b w.frames v.frames order v.order in
    record {
      capture = one_sink before.capture.contents before'.capture.contents after.capture.contents after'.capture.contents same.capture
          (capture_by ps vl_table w.frames) (capture_by ps vl_table v.frames) same.one_capture same.other_capture w.capture v.capture (ap (capture_by ps vl_table) frames);
      ledger = one_sink before.ledger.contents before'.ledger.contents after.ledger.contents after'.ledger.contents same.ledger
          (ledger_by ps vl_table w.frames w.a w.b) (ledger_by ps vl_table v.frames v.a v.b) same.one_ledger same.other_ledger w.ledger v.ledger
          (ap (λ (fs : List Frame). ledger_by ps vl_table fs w.a w.b) frames
          ∙ ap (λ (e : Ending). ledger_by ps vl_table v.frames e w.b) a.1
          ∙ ap (λ (e : Ending). ledger_by ps vl_table v.frames v.a e) b.1);
      same_endings = w.endings_are ∙ ap (λ (e : Ending). e ∷ w.b ∷ []) a.1 ∙ ap (λ (e : Ending). v.a ∷ e ∷ []) b.1 ∙ sym v.endings_are;
      same_totals = w.counts.totals ∙ ap (λ (fs : List Frame). totals_of (entries_by ps vl_table fs)) frames ∙ sym v.counts.totals;
      same_links = λ id none known.
          (w.counts.links id none known ∙ ap (λ (fs : List Frame). link_counts (entries_by ps vl_table fs) (record { 0 = id })) frames ∙ sym (v.counts.links id none known));
    }
