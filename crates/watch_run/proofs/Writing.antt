-- A round, and what it adds to the capture and to the ledger.
use Rattle.std.proofs.Common.{◌≡◌, ◌⊎◌, inl, inr, ℕ, suc, zero, ◌+◌, List, [], ◌∷◌, ◌++◌, length, map, take, Option, Some, refl, sym, subst, ap, ◌∙◌, append_assoc, arith}
use Rattle.std.proofs.lemmas.List.{map-append, length-map, length-append, append-nil, take-append-le, take_all}
use Rattle.std.proofs.lemmas.List.Concat.{flat_map-append}
use Rattle.std.proofs.KnownBytes.{Appends-trans}
use Rattle.std.specs.Io.KnownBytes.{Appends}
use Rattle.afdx_frame.specs.Frame.{Frame}
use Rattle.packet_format.specs.Packets.{Format, head_by}
use Rattle.pcap_io.specs.Device.{AppendsPrefix, CountsFailure}
use Rattle.verdict_ledger.specs.Entry.{Entry, entries_of, entry_with}
use Rattle.verdict_ledger.specs.Text.{ledger_head, line_text, lines_text}
use Rattle.vl_config.specs.Document.{VlTable}
use Rattle.vl_judge.specs.Judgement.{Judgement}
use Rattle.vl_judge.specs.Verdicts.{Judged, judged_frames, judged_frames_after, verdict_of, verdicts}
use Rattle.vl_judge.proofs.Judging.{verdicts-append}
use Rattle.filter_workers.specs.Filters.{mask_by}
use Rattle.watch_run.specs.Filters.{Making, capture_by, entries_by, entry_packet, keep_by, lines_by, packets_of}
use Rattle.watch_run.specs.Entries.{AreEntries, AreVerdicts}
use Rattle.watch_run.specs.declared.entries.Entries.{Entries}
use Rattle.watch_run.specs.Outputs.{AppendsAll, HasPackets, HasPacketsFirst, SinkFails, StopsWriting, IsWholeAfter, effect_of, ledger_fault}
use Rattle.verdict_ledger.specs.Writing.{IsAppended}
use Rattle.verdict_ledger.specs.declared.fault.LedgerFault.{LedgerFault}
use Rattle.verdict_ledger.specs.declared.fault.LedgerFault.TheVariants as ledger_faults
use Rattle.run_fault.specs.Device.{AppendsSome, SinkView}
use Rattle.run_fault.specs.declared.fault.WatchFault.{WatchFault}
use Rattle.run_fault.specs.declared.fault.Output.TheVariants as output
use Rattle.run_fault.specs.declared.fault.WatchFault.TheVariants as watch
use Rattle.run_fault.proofs.Written.{take_past}

-- ---- the lines

pub entries_append : (fs gs : List Frame) (vs ws : List Judgement) (ks js : List (Option ℕ)) (ms ns : List ℕ) →
    length vs ≡ length fs → length ks ≡ length fs → length ms ≡ length fs →
    entries_of (fs ++ gs) (vs ++ ws) (ks ++ js) (ms ++ ns) ≡ entries_of fs vs ks ms ++ entries_of gs ws js ns
entries_append [] gs [] ws [] js [] ns v k m = refl
entries_append [] gs (x ∷ vs) ws ks js ms ns v k m = absurd (omega (arith, v))
entries_append [] gs [] ws (x ∷ ks) js ms ns v k m = absurd (omega (arith, k))
entries_append [] gs [] ws [] js (x ∷ ms) ns v k m = absurd (omega (arith, m))
entries_append (f ∷ fs) gs [] ws ks js ms ns v k m = absurd (omega (arith, v))
entries_append (f ∷ fs) gs (x ∷ vs) ws [] js ms ns v k m = absurd (omega (arith, k))
entries_append (f ∷ fs) gs (x ∷ vs) ws (y ∷ ks) js [] ns v k m = absurd (omega (arith, m))
entries_append (f ∷ fs) gs (x ∷ vs) ws (y ∷ ks) js (z ∷ ms) ns v k m =
    ap (λ (l : List Entry). entry_with f x y z ∷ l) (entries_append fs gs vs ws ks js ms ns (omega (arith, v)) (omega (arith, k)) (omega (arith, m)))

judged_length : (vl_table : VlTable) (earlier : List Judged) (fs : List Frame) → length (judged_frames_after vl_table earlier fs) ≡ length earlier + length fs
judged_length vl_table earlier [] = omega arith
judged_length vl_table earlier (f ∷ fs) =
    let judged : List Judged = record { frame = f; verdict = verdict_of vl_table earlier f } ∷ [] in
    judged_length vl_table (earlier ++ judged) fs ∙ counted (length (earlier ++ judged)) (length earlier) (length fs) (length-append earlier judged)
  where
    counted : (n m k : ℕ) → n ≡ m + 1 → n + k ≡ m + suc k
    counted n m k e = omega (arith, e)

pub verdicts_length : (vl_table : VlTable) (fs : List Frame) → length (verdicts vl_table fs) ≡ length fs
verdicts_length vl_table fs = length-map (judged_frames_after vl_table [] fs) (λ j. j.verdict) ∙ judged_length vl_table [] fs ∙ zero_and (length fs)
  where
    zero_and : (n : ℕ) → 0 + n ≡ n
    zero_and n = omega arith

pub entries_more : (ps : Making) (vl_table : VlTable) (fs gs : List Frame) (said : List Judgement) →
    verdicts vl_table (fs ++ gs) ≡ verdicts vl_table fs ++ said →
    entries_by ps vl_table (fs ++ gs) ≡ entries_by ps vl_table fs ++ entries_of gs said (map (keep_by ps.filters) gs) (map (mask_by ps.filters) gs)
entries_more ps vl_table fs gs said e =
    ap (λ (vs : List Judgement). entries_of (fs ++ gs) vs (map (keep_by ps.filters) (fs ++ gs)) (map (mask_by ps.filters) (fs ++ gs))) e
    ∙ ap (λ (ks : List (Option ℕ)). entries_of (fs ++ gs) (verdicts vl_table fs ++ said) ks (map (mask_by ps.filters) (fs ++ gs))) (map-append (keep_by ps.filters) fs gs)
    ∙ ap (λ (ms : List ℕ). entries_of (fs ++ gs) (verdicts vl_table fs ++ said) (map (keep_by ps.filters) fs ++ map (keep_by ps.filters) gs) ms) (map-append (mask_by ps.filters) fs gs)
    ∙ entries_append fs gs (verdicts vl_table fs) said (map (keep_by ps.filters) fs) (map (keep_by ps.filters) gs) (map (mask_by ps.filters) fs) (map (mask_by ps.filters) gs)
    (verdicts_length vl_table fs) (length-map fs (keep_by ps.filters)) (length-map fs (mask_by ps.filters))

pub lines_more : (ps : Making) (vl_table : VlTable) (fs gs : List Frame) (more : List Entry) →
    entries_by ps vl_table (fs ++ gs) ≡ entries_by ps vl_table fs ++ more → lines_by ps vl_table (fs ++ gs) ≡ lines_by ps vl_table fs ++ lines_text ps.version more
lines_more ps vl_table fs gs more e =
    ap (λ (es : List Entry). ledger_head ps.version ++ lines_text ps.version es) e
    ∙ ap (λ (l : List ℕ). ledger_head ps.version ++ l) (flat_map-append (line_text ps.version) (entries_by ps vl_table fs) more)
    ∙ sym (append_assoc (ledger_head ps.version) (lines_text ps.version (entries_by ps vl_table fs)) (lines_text ps.version more))

-- ---- the packets

pub capture_more : (ps : Making) (vl_table : VlTable) (fs gs : List Frame) (more : List Entry) →
    entries_by ps vl_table (fs ++ gs) ≡ entries_by ps vl_table fs ++ more → capture_by ps vl_table (fs ++ gs) ≡ capture_by ps vl_table fs ++ packets_of ps.format more
capture_more ps vl_table fs gs more e =
    ap (λ (es : List Entry). head_by ps.format ++ packets_of ps.format es) e
    ∙ ap (λ (l : List ℕ). head_by ps.format ++ l) (flat_map-append (entry_packet ps.format) (entries_by ps vl_table fs) more)
    ∙ sym (append_assoc (head_by ps.format) (packets_of ps.format (entries_by ps vl_table fs)) (packets_of ps.format more))

-- the packet of one more frame
pub packet_added : (format : Format) (fs : List Frame) (vs : List Judgement) (ks : List (Option ℕ)) (ms packets : List ℕ) (f : Frame) (v : Judgement) (k : Option ℕ) (m : ℕ) →
    length vs ≡ length fs → length ks ≡ length fs → length ms ≡ length fs → packets ≡ packets_of format (entries_of fs vs ks ms) →
    packets ++ entry_packet format (entry_with f v k m) ≡ packets_of format (entries_of (fs ++ f ∷ []) (vs ++ v ∷ []) (ks ++ k ∷ []) (ms ++ m ∷ []))
packet_added format fs vs ks ms packets f v k m judged kept masked are =
    let e = entry_with f v k m in
    ap (λ (l : List ℕ). l ++ entry_packet format e) are
    ∙ ap (λ (l : List ℕ). packets_of format (entries_of fs vs ks ms) ++ l) (sym (append-nil (entry_packet format e)))
    ∙ sym (flat_map-append (entry_packet format) (entries_of fs vs ks ms) (e ∷ []))
    ∙ ap (packets_of format) (sym (entries_append fs (f ∷ []) vs (v ∷ []) ks (k ∷ []) ms (m ∷ []) judged kept masked))

-- ---- a prefix

pub some_of : (a b : Option (List ℕ)) (bytes rest all : List ℕ) → Appends a b bytes → all ≡ bytes ++ rest → AppendsSome a b all
some_of a b bytes rest all appended e =
    let taken : take (length bytes + 0) all ≡ bytes = ap (take (length bytes + 0)) e ∙ take_past bytes rest 0 ∙ append-nil bytes in
    (length bytes + 0, subst (Appends a b) (sym taken) appended)

pub some_after : (a b c : Option (List ℕ)) (front next all : List ℕ) → Appends a b front → AppendsPrefix b c next → all ≡ front ++ next → AppendsSome a c all
some_after a b c front next all first (n, within, appended) e =
    let taken : take (length front + n) all ≡ front ++ take n next = ap (take (length front + n)) e ∙ take_past front next n in
    (length front + n, subst (Appends a c) (sym taken) (Appends-trans a b c front (take n next) first appended))

-- the verdicts of the first frames are the first verdicts
verdicts_some : (vl_table : VlTable) (fs gs : List Frame) → (said : List Judgement) × (verdicts vl_table (fs ++ gs) ≡ verdicts vl_table fs ++ said)
verdicts_some vl_table fs [] = ([], ap (verdicts vl_table) (append-nil fs) ∙ sym (append-nil (verdicts vl_table fs)))
verdicts_some vl_table fs (g ∷ gs) =
    let v = verdict_of vl_table (judged_frames vl_table fs) g in
    let rest = verdicts_some vl_table (fs ++ g ∷ []) gs in (
      v ∷ rest.0,
      ap (verdicts vl_table) (sym (append_assoc fs (g ∷ []) gs)) ∙ rest.1
          ∙ ap (λ (l : List Judgement). l ++ rest.0) (verdicts-append vl_table fs g v refl) ∙ append_assoc (verdicts vl_table fs) (v ∷ []) rest.0,
    )

-- further frames have further entries
entries_some : (ps : Making) (vl_table : VlTable) (fs gs : List Frame) → (more : List Entry) × (entries_by ps vl_table (fs ++ gs) ≡ entries_by ps vl_table fs ++ more)
entries_some ps vl_table fs gs =
    let s = verdicts_some vl_table fs gs in
    (entries_of gs s.0 (map (keep_by ps.filters) gs) (map (mask_by ps.filters) gs), entries_more ps vl_table fs gs s.0 s.1)

pub capture_some : (ps : Making) (vl_table : VlTable) (fs gs : List Frame) (a b : Option (List ℕ)) → Appends a b (capture_by ps vl_table fs) →
    AppendsSome a b (capture_by ps vl_table (fs ++ gs))
capture_some ps vl_table fs gs a b appended =
    let s = entries_some ps vl_table fs gs in
    some_of a b (capture_by ps vl_table fs) (packets_of ps.format s.0) (capture_by ps vl_table (fs ++ gs)) appended (capture_more ps vl_table fs gs s.0 s.1)

pub lines_some : (ps : Making) (vl_table : VlTable) (fs gs : List Frame) (a b : Option (List ℕ)) → Appends a b (lines_by ps vl_table fs) →
    AppendsSome a b (lines_by ps vl_table (fs ++ gs))
lines_some ps vl_table fs gs a b appended =
    let s = entries_some ps vl_table fs gs in
    some_of a b (lines_by ps vl_table fs) (lines_text ps.version s.0) (lines_by ps vl_table (fs ++ gs)) appended (lines_more ps vl_table fs gs s.0 s.1)

pub capture_all : (ps : Making) (vl_table : VlTable) (fs : List Frame) (a b : Option (List ℕ)) → Appends a b (capture_by ps vl_table fs) →
    AppendsSome a b (capture_by ps vl_table fs)
capture_all ps vl_table fs a b appended = some_of a b (capture_by ps vl_table fs) [] (capture_by ps vl_table fs) appended (sym (append-nil (capture_by ps vl_table fs)))

pub lines_all : (ps : Making) (vl_table : VlTable) (fs : List Frame) (a b : Option (List ℕ)) → Appends a b (lines_by ps vl_table fs) → AppendsSome a b (lines_by ps vl_table fs)
lines_all ps vl_table fs a b appended = some_of a b (lines_by ps vl_table fs) [] (lines_by ps vl_table fs) appended (sym (append-nil (lines_by ps vl_table fs)))

-- a prefix of a list is one of a longer list
prefix_of_longer : {A : Type 0} (n : ℕ) (xs ys : List A) → (m : ℕ) × (take m (xs ++ ys) ≡ take n xs)
prefix_of_longer zero xs ys = (0, refl)
prefix_of_longer (suc n) [] ys = (0, refl)
prefix_of_longer {A = A} (suc n) (x ∷ xs) ys = let p = prefix_of_longer n xs ys in (suc p.0, ap (λ (l : List A). x ∷ l) p.1)

pub some_longer : (a b : Option (List ℕ)) (bytes rest all : List ℕ) → AppendsSome a b bytes → all ≡ bytes ++ rest → AppendsSome a b all
some_longer a b bytes rest all (n, appended) e =
    let p = prefix_of_longer n bytes rest in (p.0, subst (Appends a b) (sym (ap (take p.0) e ∙ p.1)) appended)

pub capture_longer : (ps : Making) (vl_table : VlTable) (fs gs : List Frame) (a b : Option (List ℕ)) → AppendsSome a b (capture_by ps vl_table fs) →
    AppendsSome a b (capture_by ps vl_table (fs ++ gs))
capture_longer ps vl_table fs gs a b some =
    let s = entries_some ps vl_table fs gs in
    some_longer a b (capture_by ps vl_table fs) (packets_of ps.format s.0) (capture_by ps vl_table (fs ++ gs)) some (capture_more ps vl_table fs gs s.0 s.1)

pub lines_longer : (ps : Making) (vl_table : VlTable) (fs gs : List Frame) (a b : Option (List ℕ)) → AppendsSome a b (lines_by ps vl_table fs) →
    AppendsSome a b (lines_by ps vl_table (fs ++ gs))
lines_longer ps vl_table fs gs a b some =
    let s = entries_some ps vl_table fs gs in
    some_longer a b (lines_by ps vl_table fs) (lines_text ps.version s.0) (lines_by ps vl_table (fs ++ gs)) some (lines_more ps vl_table fs gs s.0 s.1)

-- ---- whole packets

take_front : (fs gs : List Frame) → take (length fs) (fs ++ gs) ≡ fs
take_front fs gs = take-append-le (length fs) fs gs (omega arith) ∙ take_all (length fs) fs (omega arith)

pub packets_first : (ps : Making) (vl_table : VlTable) (fs gs : List Frame) (capture capture' : SinkView) → Appends capture.contents capture'.contents (capture_by ps vl_table fs) →
    HasPackets ps vl_table (fs ++ gs) capture capture'
packets_first ps vl_table fs gs capture capture' h =
    (length fs, subst (λ (l : List Frame). Appends capture.contents capture'.contents (capture_by ps vl_table l)) (sym (take_front fs gs)) h)

pub packets_all : (ps : Making) (vl_table : VlTable) (fs : List Frame) (capture capture' : SinkView) → Appends capture.contents capture'.contents (capture_by ps vl_table fs) →
    HasPackets ps vl_table fs capture capture'
packets_all ps vl_table fs capture capture' h =
    (length fs, subst (λ (l : List Frame). Appends capture.contents capture'.contents (capture_by ps vl_table l)) (sym (take_all (length fs) fs (omega arith))) h)

pub packets_longer : (ps : Making) (vl_table : VlTable) (fs gs : List Frame) (capture capture' : SinkView) → HasPackets ps vl_table fs capture capture' → HasPackets ps vl_table (fs ++ gs) capture capture'
packets_longer ps vl_table fs gs capture capture' (n, h) =
    let p = prefix_of_longer n fs gs in
    (p.0, subst (λ (l : List Frame). Appends capture.contents capture'.contents (capture_by ps vl_table l)) (sym p.1) h)

-- ---- packets before lines

pub all_of : (a b : Option (List ℕ)) (bytes : List ℕ) → Appends a b bytes → AppendsAll a b bytes
all_of a b bytes h = ([], subst (Appends a b) (sym (append-nil bytes)) h)

pub all_after : (a b c : Option (List ℕ)) (bytes next : List ℕ) → Appends a b bytes → AppendsPrefix b c next → AppendsAll a c bytes
all_after a b c bytes next first (n, within, appended) = (take n next, Appends-trans a b c bytes (take n next) first appended)

-- the packets of the first frames are whole, and the lines are within theirs
pub first_packets : (ps : Making) (vl_table : VlTable) (fs gs : List Frame) (c c' l l' : Option (List ℕ)) →
    AppendsAll c c' (capture_by ps vl_table fs) → AppendsSome l l' (lines_by ps vl_table fs) → HasPacketsFirst ps vl_table (fs ++ gs) c c' l l'
first_packets ps vl_table fs gs c c' l l' packets lines =
    inr (
      length fs,
      subst (λ (xs : List Frame). AppendsAll c c' (capture_by ps vl_table xs)) (sym (take_front fs gs)) packets,
      subst (λ (xs : List Frame). AppendsSome l l' (lines_by ps vl_table xs)) (sym (take_front fs gs)) lines,
    )

-- all packets are whole, and the lines are within theirs
pub first_all : (ps : Making) (vl_table : VlTable) (fs : List Frame) (c c' l l' : Option (List ℕ)) →
    Appends c c' (capture_by ps vl_table fs) → AppendsSome l l' (lines_by ps vl_table fs) → HasPacketsFirst ps vl_table fs c c' l l'
first_all ps vl_table fs c c' l l' packets lines =
    subst (λ (xs : List Frame). HasPacketsFirst ps vl_table xs c c' l l') (append-nil fs)
    (first_packets ps vl_table fs [] c c' l l' (all_of c c' (capture_by ps vl_table fs) packets) lines)

-- both have what belongs to the first frames, and no more
pub first_whole : (ps : Making) (vl_table : VlTable) (fs gs : List Frame) (c c' l l' : Option (List ℕ)) →
    Appends c c' (capture_by ps vl_table fs) → Appends l l' (lines_by ps vl_table fs) → HasPacketsFirst ps vl_table (fs ++ gs) c c' l l'
first_whole ps vl_table fs gs c c' l l' packets lines =
    first_packets ps vl_table fs gs c c' l l' (all_of c c' (capture_by ps vl_table fs) packets) (lines_all ps vl_table fs l l' lines)

pub first_longer : (ps : Making) (vl_table : VlTable) (fs gs : List Frame) (c c' l l' : Option (List ℕ)) →
    HasPacketsFirst ps vl_table fs c c' l l' → HasPacketsFirst ps vl_table (fs ++ gs) c c' l l'
first_longer ps vl_table fs gs c c' l l' (inl none) = inl none
first_longer ps vl_table fs gs c c' l l' (inr (m, packets, lines)) =
    let p = prefix_of_longer m fs gs in
    inr (
      p.0,
      subst (λ (xs : List Frame). AppendsAll c c' (capture_by ps vl_table xs)) (sym p.1) packets,
      subst (λ (xs : List Frame). AppendsSome l l' (lines_by ps vl_table xs)) (sym p.1) lines,
    )

pub whole_after : (fault : WatchFault) (ps : Making) (vl_table : VlTable) (fs : List Frame) (capture capture' : SinkView) → HasPackets ps vl_table fs capture capture' →
    IsWholeAfter fault ps vl_table fs capture capture'
whole_after (watch.Write output.Ledger) ps vl_table fs capture capture' p = p
whole_after (watch.Write output.Capture) ps vl_table fs capture capture' p = tt
whole_after watch.Memory ps vl_table fs capture capture' p = inr p
whole_after watch.Spawn ps vl_table fs capture capture' p = tt
whole_after watch.Workers ps vl_table fs capture capture' p = tt
whole_after (watch.Header network fault) ps vl_table fs capture capture' p = tt
whole_after (watch.Read network) ps vl_table fs capture capture' p = tt
whole_after watch.RingLost ps vl_table fs capture capture' p = tt
whole_after watch.Filters ps vl_table fs capture capture' p = tt

pub whole_longer : (fault : WatchFault) (ps : Making) (vl_table : VlTable) (fs gs : List Frame) (capture capture' : SinkView) →
    IsWholeAfter fault ps vl_table fs capture capture' → IsWholeAfter fault ps vl_table (fs ++ gs) capture capture'
whole_longer (watch.Write output.Ledger) ps vl_table fs gs capture capture' p = packets_longer ps vl_table fs gs capture capture' p
whole_longer (watch.Write output.Capture) ps vl_table fs gs capture capture' p = tt
whole_longer watch.Memory ps vl_table fs gs capture capture' (inl none) = inl none
whole_longer watch.Memory ps vl_table fs gs capture capture' (inr p) = inr (packets_longer ps vl_table fs gs capture capture' p)
whole_longer watch.Spawn ps vl_table fs gs capture capture' p = tt
whole_longer watch.Workers ps vl_table fs gs capture capture' p = tt
whole_longer (watch.Header network fault) ps vl_table fs gs capture capture' p = tt
whole_longer (watch.Read network) ps vl_table fs gs capture capture' p = tt
whole_longer watch.RingLost ps vl_table fs gs capture capture' p = tt
whole_longer watch.Filters ps vl_table fs gs capture capture' p = tt

-- there is an entry for each frame
zipped_length : (fs : List Frame) (vs : List Judgement) (ks : List (Option ℕ)) (ms : List ℕ) →
    length vs ≡ length fs → length ks ≡ length fs → length ms ≡ length fs → length (entries_of fs vs ks ms) ≡ length fs
zipped_length [] vs ks ms v k m = refl
zipped_length (f ∷ fs) [] ks ms v k m = absurd (omega (arith, v))
zipped_length (f ∷ fs) (x ∷ vs) [] ms v k m = absurd (omega (arith, k))
zipped_length (f ∷ fs) (x ∷ vs) (y ∷ ks) [] v k m = absurd (omega (arith, m))
zipped_length (f ∷ fs) (x ∷ vs) (y ∷ ks) (z ∷ ms) v k m = ap suc (zipped_length fs vs ks ms (omega (arith, v)) (omega (arith, k)) (omega (arith, m)))

pub entries_length : (ps : Making) (vl_table : VlTable) (fs : List Frame) → length (entries_by ps vl_table fs) ≡ length fs
entries_length ps vl_table fs =
    zipped_length fs (verdicts vl_table fs) (map (keep_by ps.filters) fs) (map (mask_by ps.filters) fs) (verdicts_length vl_table fs) (length-map fs (keep_by ps.filters)) (length-map fs (mask_by ps.filters))

-- the entries of a round, by what was said of it
pub entries_told : (ps : Making) (vl_table : VlTable) (fs gs : List Frame) (said vs : List Judgement) (ks : List (Option ℕ)) (ms : List ℕ) →
    verdicts vl_table (fs ++ gs) ≡ verdicts vl_table fs ++ said → vs ≡ said → ks ≡ map (keep_by ps.filters) gs → ms ≡ map (mask_by ps.filters) gs →
    entries_by ps vl_table (fs ++ gs) ≡ entries_by ps vl_table fs ++ entries_of gs vs ks ms
entries_told ps vl_table fs gs said vs ks ms e is_vs is_ks is_ms =
    entries_more ps vl_table fs gs said e
    ∙ ap (λ (l : List Judgement). entries_by ps vl_table fs ++ entries_of gs l (map (keep_by ps.filters) gs) (map (mask_by ps.filters) gs)) (sym is_vs)
    ∙ ap (λ (l : List (Option ℕ)). entries_by ps vl_table fs ++ entries_of gs vs l (map (mask_by ps.filters) gs)) (sym is_ks)
    ∙ ap (λ (l : List ℕ). entries_by ps vl_table fs ++ entries_of gs vs ks l) (sym is_ms)

-- the entries of a round, by what is written of it
pub round_told : (ps : Making) (vl_table : VlTable) (fs gs : List Frame) (vs : List Judgement) (entries : Entries) → AreVerdicts vl_table fs gs vs → AreEntries ps gs vs entries →
    entries_by ps vl_table (fs ++ gs) ≡ entries_by ps vl_table fs ++ entries_of gs vs entries.keeps.items entries.masks.items
round_told ps vl_table fs gs vs entries said are =
    entries_told ps vl_table fs gs vs vs entries.keeps.items entries.masks.items said refl are.keeps_are are.masks_are

pub ledger_stops : (fault : LedgerFault) (a b d : Option (List ℕ)) (front next all : List ℕ) (c c' l before after : ℕ) → Appends a b front → all ≡ front ++ next →
    c' ≡ c → before ≡ l → IsAppended (Some fault) b d before after next → AppendsSome a d all × SinkFails (ledger_fault fault) c c' l after
ledger_stops ledger_faults.Device a b d front next all c c' l before after first e same is (prefix, counts) =
    (some_after a b d front next all first prefix e, (same, subst (λ n. CountsFailure n after) is counts))
ledger_stops ledger_faults.Memory a b d front next all c c' l before after first e same is (prefix, stays) =
    (some_after a b d front next all first prefix e, (same, stays ∙ is))
ledger_stops ledger_faults.Failed a b d front next all c c' l before after first e same is wrong = absurd wrong

-- the packets of further frames, whole or in part
pub packets_whole : (ps : Making) (vl_table : VlTable) (fs gs : List Frame) (more : List Entry) (a b c : Option (List ℕ)) (packets : List ℕ) →
    entries_by ps vl_table (fs ++ gs) ≡ entries_by ps vl_table fs ++ more → packets ≡ packets_of ps.format more →
    Appends a b (capture_by ps vl_table fs) → Appends b c packets → Appends a c (capture_by ps vl_table (fs ++ gs))
packets_whole ps vl_table fs gs more a b c packets told are first next =
    subst (Appends a c) (ap (λ (l : List ℕ). capture_by ps vl_table fs ++ l) are ∙ sym (capture_more ps vl_table fs gs more told))
    (Appends-trans a b c (capture_by ps vl_table fs) packets first next)

pub packets_some : (ps : Making) (vl_table : VlTable) (fs gs : List Frame) (more : List Entry) (a b c : Option (List ℕ)) (packets : List ℕ) →
    entries_by ps vl_table (fs ++ gs) ≡ entries_by ps vl_table fs ++ more → packets ≡ packets_of ps.format more →
    Appends a b (capture_by ps vl_table fs) → AppendsPrefix b c packets → AppendsSome a c (capture_by ps vl_table (fs ++ gs))
packets_some ps vl_table fs gs more a b c packets told are first next =
    some_after a b c (capture_by ps vl_table fs) packets _ first next
    (capture_more ps vl_table fs gs more told ∙ ap (λ (l : List ℕ). capture_by ps vl_table fs ++ l) (sym are))

-- a fault of a pool leaves what no memory leaves
pub no_sink_fails : (fault : WatchFault) (c c' l l' : ℕ) → (fault ≡ watch.Memory) ⊎ (fault ≡ watch.RingLost) → c' ≡ c → l' ≡ l → SinkFails (effect_of fault) c c' l l'
no_sink_fails fault c c' l l' is same also = elim is [
  | inl e ↦ subst (λ (f : WatchFault). SinkFails (effect_of f) c c' l l') (sym e) (same, also)
  | inr e ↦ subst (λ (f : WatchFault). SinkFails (effect_of f) c c' l l') (sym e) (same, also)
]

pub same_effect : (fault : WatchFault) (ps : Making) (vl_table : VlTable) (capture ledger capture' ledger' : SinkView) (frames : List Frame) →
    StopsWriting fault ps vl_table capture ledger capture' ledger' frames → StopsWriting (effect_of fault) ps vl_table capture ledger capture' ledger' frames
same_effect watch.Memory ps vl_table capture ledger capture' ledger' frames s = s
same_effect (watch.Write out) ps vl_table capture ledger capture' ledger' frames s = s
same_effect watch.Spawn ps vl_table capture ledger capture' ledger' frames s = s
same_effect watch.Workers ps vl_table capture ledger capture' ledger' frames s = s
same_effect (watch.Header network fault) ps vl_table capture ledger capture' ledger' frames s = s
same_effect (watch.Read network) ps vl_table capture ledger capture' ledger' frames s = s
same_effect watch.RingLost ps vl_table capture ledger capture' ledger' frames s = absurd s.fails
same_effect watch.Filters ps vl_table capture ledger capture' ledger' frames s = s
