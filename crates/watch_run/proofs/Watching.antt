-- A run over two recordings: its rounds follow on one another, and what it leaves where it stops.
use Rattle.std.proofs.Common.{◌≡◌, inl, inr, Bool, false, zero, ℕ, suc, ◌+◌, ◌^◌, ◌≤◌, List, [], ◌∷◌, ◌++◌, length, take, Option, Some, None, sym, subst, ap, ◌∙◌, append_assoc, arith, refl}
use Rattle.std.proofs.lemmas.List.{append-nil, length-append, take-append-le, take_all}
use Rattle.std.proofs.lemmas.List.Sorted.{length_permutation}
use Rattle.std.specs.Prelude.{◌==◌}
use Rattle.std.specs.List.{AllByRecursion}
use Rattle.std.specs.Option.{ForSome, option_map_or}
use Rattle.std.specs.Io.KnownBytes.{Appends}
use Rattle.std.specs.declared.cmp.Ordering.TheVariants.{Less}
use Rattle.afdx_frame.specs.Frame.{Frame, key_cmp, key_of}
use Rattle.afdx_frame.specs.declared.key.Key.{Key}
use Rattle.afdx_frame.specs.declared.key.Network.{Network}
use Rattle.afdx_frame.specs.declared.key.Network.TheVariants as networks
use Rattle.watch_run.specs.Filters.{Making, capture_by, entries_by, ledger_by, lines_by}
use Rattle.ordered_merge.specs.Order.{IsOrder, IsRising}
use Rattle.pcap_io.specs.Position.{Reading, Reads, after_frame, start_at}
use Rattle.pcap_io.specs.declared.position.Position.{Position}
use Rattle.pcap_io.specs.Writer.{has_failed}
use Rattle.verdict_ledger.specs.Ledger.{has_failed as ledger_has_failed}
use Rattle.verdict_ledger.specs.Tally.{totals_of}
use Rattle.verdict_ledger.specs.declared.totals.Totals.{Totals}
use Rattle.vl_config.specs.Document.{VlTable}
use Rattle.vl_judge.specs.Lanes.{last_key}
use Rattle.watch_run.specs.Outputs.{HasWritten, SinkFails, StopsWriting, IsWholeAfter}
use Rattle.vl_judge.specs.Lanes.{FollowsOn}
use Rattle.watch_run.specs.Run.{IsWatching, StopsWatching}
use Rattle.tap_merge.specs.declared.taps.Taps.{Taps}
use Rattle.watch_run.specs.declared.outputs.Outputs.{Outputs}
use Rattle.tap_merge.specs.Taps.{Agree, HasMerged, ReadsPart, SourceFails, StopsMerging}
use Rattle.pcap_io.specs.declared.told.Told.{Told}
use Rattle.run_fault.specs.Device.{SourceMembers, SinkMembers, AppendsSome, SinkView, SourceView}
use Rattle.run_fault.specs.Recording.{HasReadTap, most_frames}
use Rattle.watch_run.specs.Watch.{HasFirstOfAll, HasLines}
use Rattle.run_fault.specs.Opening.{WatchDevices}
use Rattle.run_fault.specs.declared.fault.Output.TheVariants as output
use Rattle.run_fault.specs.declared.fault.WatchFault.{WatchFault}
use Rattle.run_fault.specs.declared.fault.WatchFault.TheVariants as watch
use Rattle.watch_run.proofs.WholeOrder.{IsFirst}
use Rattle.verdict_ledger.specs.Text.{ledger_head, lines_text, rest_text}
use Rattle.watch_run.proofs.Writing.{capture_all, lines_all, some_longer, capture_longer, capture_some, entries_length, first_longer, first_whole, lines_longer, lines_some, packets_longer, whole_longer}

-- ---- the number of filters

pub some_filters : (n : ℕ) (empty : Bool) → empty ≡ (n == 0) → empty ≡ false → 1 ≤ n
some_filters zero empty e is = (let wrong : ⊥ = cc (sym e ∙ is) in absurd wrong)
some_filters (suc n) empty e is = omega arith

-- ---- a run has begun

pub has_begun : {S T W L : Type 0} (s : SourceMembers S) (t : SourceMembers T)
    (w : SinkMembers W) (l : SinkMembers L)
    (ps : Making) (vl_table : VlTable) (before : WatchDevices) (taps : Taps S T) (outputs : Outputs W L) (late : ℕ) → late ≡ vl_table.late →
    HasMerged s t late before.a before.b [] [] [] taps → HasWritten w l ps vl_table before.capture before.ledger [] outputs →
    Agree taps → has_failed outputs.capture ≡ false → ledger_has_failed outputs.ledger ≡ false →
    IsWatching s t w l ps vl_table before taps outputs
has_begun s t w l ps vl_table before taps outputs late is merged written agree going ledger_going = record {
  frames_a = [];
  frames_b = [];
  cut = [];
  merged = subst (λ n. HasMerged s t n before.a before.b [] [] [] taps) is merged;
  written = written;
  agree = agree;
  capture_going = going;
  ledger_going = ledger_going;
}

-- ---- the round that was cut

pub some_round : {S T X : Type 0} (s : SourceMembers S) (t : SourceMembers T) (late : ℕ) (a b : SourceView) (fa fb cut : List Frame) (taps : Taps S T)
    (items : X → List Frame) (o : Option X) (v : X) (round : List Frame) → HasMerged s t late a b fa fb (cut ++ option_map_or items o []) taps → o ≡ Some v → round ≡ items v →
    HasMerged s t late a b fa fb (cut ++ round) taps
some_round {X = X} s t late a b fa fb cut taps items o v round h some is =
    subst (λ (l : List Frame). HasMerged s t late a b fa fb (cut ++ l) taps) (sym is) (subst (λ (p : Option X). HasMerged s t late a b fa fb (cut ++ option_map_or items p []) taps) some h)

pub no_round : {S T X : Type 0} (s : SourceMembers S) (t : SourceMembers T) (late : ℕ) (a b : SourceView) (fa fb cut : List Frame) (taps : Taps S T)
    (items : X → List Frame) (o : Option X) → HasMerged s t late a b fa fb (cut ++ option_map_or items o []) taps → o ≡ None →
    HasMerged s t late a b fa fb cut taps
no_round {X = X} s t late a b fa fb cut taps items o h none =
    subst (λ (l : List Frame). HasMerged s t late a b fa fb l taps) (append-nil cut)
    (subst (λ (p : Option X). HasMerged s t late a b fa fb (cut ++ option_map_or items p []) taps) none h)

-- ---- a round follows on what was cut before it

-- the key, where there is one, is below those of all frames
abbrev IsBelow : Option Key → List Frame → Type 0
IsBelow last frames = ForSome last (λ key. AllByRecursion (λ f. key_cmp key (key_of f) ≡ Less) frames)

follows_from : (last : Option Key) (cut round rest : List Frame) → IsBelow last (cut ++ (round ++ rest)) → IsRising (cut ++ (round ++ rest)) →
    FollowsOn (last_key last cut) round
follows_from last [] [] rest below rising = tt
follows_from last [] (f ∷ round) rest below rising =
    (λ key is. (below key is).0, follows_from (Some (key_of f)) [] round rest (λ key is. subst (λ (k : Key). AllByRecursion (λ g. key_cmp k (key_of g) ≡ Less) (round ++ rest)) (key_is f key is) rising.0) rising.1)
  where
    key_is : (g : Frame) (key : Key) → Some (key_of g) ≡ Some key → key_of g ≡ key
    key_is g key is = cc is
follows_from last (f ∷ cut) round rest below rising =
    follows_from (Some (key_of f)) cut round rest (λ key is. subst (λ (k : Key). AllByRecursion (λ g. key_cmp k (key_of g) ≡ Less) (cut ++ (round ++ rest))) (key_is f key is) rising.0) rising.1
  where
    key_is : (g : Frame) (key : Key) → Some (key_of g) ≡ Some key → key_of g ≡ key
    key_is g key is = cc is

pub round_follows : (fa fb cut round rest : List Frame) → IsOrder fa fb ((cut ++ round) ++ rest) → FollowsOn (last_key None cut) round
round_follows fa fb cut round rest order =
    follows_from None cut round rest (λ key is. absurd (no_key key is)) (subst IsRising (append_assoc cut round rest) order.rising)
  where
    no_key : (key : Key) → None ≡ Some key → ⊥
    no_key key is = cc is

-- ---- the ledger has room

reads_count : (p q : Position) (before after : Option (List ℕ)) (frames : List Frame) → Reads p before frames q after → q.count ≡ p.count + length frames
reads_count p q before after [] (same, left) = grind (arith, ap (λ (x : Position). x.count) same)
reads_count p q before after (f ∷ frames) (mid, taken, reads) = counted p.count (length frames) q.count (reads_count (after_frame p f.stamp) q mid after frames reads)
  where
    counted : (n m k : ℕ) → k ≡ n + 1 + m → k ≡ n + suc m
    counted n m k e = omega (arith, e)

few_read : (network : Network) (late : ℕ) (told : Told) (bytes : Option (List ℕ)) (frames : List Frame) (position : Position) (left : Option (List ℕ)) →
    HasReadTap network late told bytes frames position left → length frames ≤ most_frames
few_read network late told bytes frames position left read =
    bound position.count (length frames) (reads_count (start_at network read.layout most_frames late) position read.opened left frames read.reads) read.bounded
  where
    bound : (n m : ℕ) → n ≡ 0 + m → n ≤ most_frames → m ≤ most_frames
    bound n m e within = omega (arith, e, within)

pub frames_counted : (ps : Making) (vl_table : VlTable) (frames : List Frame) (totals : Totals) → totals ≡ totals_of (entries_by ps vl_table frames) →
    totals.frames ≡ length frames
unfolding totals_of
frames_counted ps vl_table frames totals is = ap (λ (t : Totals). t.frames) is ∙ entries_length ps vl_table frames

pub room_left : (late : ℕ) (a b : SourceView) (fa fb cut round rest : List Frame)
    (position_a position_b : Position) (left_a left_b : Option (List ℕ)) (count : ℕ) →
    HasReadTap networks.A late a.told a.remaining fa position_a left_a → HasReadTap networks.B late b.told b.remaining fb position_b left_b →
    IsOrder fa fb ((cut ++ round) ++ rest) → count ≡ length cut → count + length round ≤ 2 ^ 34
room_left late a b fa fb cut round rest position_a position_b left_a left_b count read_a read_b order is =
    let of_a = few_read networks.A late a.told a.remaining fa position_a left_a read_a in
    let of_b = few_read networks.B late b.told b.remaining fb position_b left_b read_b in
    let all : length ((cut ++ round) ++ rest) ≡ length (fa ++ fb) = length_permutation (fa ++ fb) ((cut ++ round) ++ rest) order.frames in
    let parts : length ((cut ++ round) ++ rest) ≡ (length cut + length round) + length rest =
    length-append (cut ++ round) rest ∙ ap (λ n. n + length rest) (length-append cut round) in
    total (length fa) (length fb) (length cut) (length round) (length rest) count (sym parts ∙ all ∙ length-append fa fb) of_a of_b is
  where
    total : (a b c r rest count : ℕ) → (c + r) + rest ≡ a + b → a ≤ 2 ^ 32 → b ≤ 2 ^ 32 → count ≡ c → count + r ≤ 2 ^ 34
    total a b c r rest count e of_a of_b is = omega (arith, e, of_a, of_b, is)

-- ---- of recordings that are known

pub first_of_all : (ps : Making) (vl_table : VlTable) (before : WatchDevices) (cut : List Frame) (capture ledger : SinkView) → IsFirst vl_table.late before.a before.b cut →
    AppendsSome before.capture.contents capture.contents (capture_by ps vl_table cut) → AppendsSome before.ledger.contents ledger.contents (lines_by ps vl_table cut) →
    HasFirstOfAll ps vl_table before capture ledger
first_of_all ps vl_table before cut capture ledger first packets lines =
    λ bytes_a bytes_b frames_a frames_b frames a b known_a known_b r_a r_b order.
    (let rest = first bytes_a bytes_b frames_a frames_b frames a b known_a known_b r_a r_b order in
    let all : AppendsSome before.ledger.contents ledger.contents (lines_by ps vl_table frames) =
    subst (λ (l : List Frame). AppendsSome before.ledger.contents ledger.contents (lines_by ps vl_table l)) (sym rest.1)
    (lines_longer ps vl_table cut rest.0 before.ledger.contents ledger.contents lines) in (
      subst (λ (l : List Frame). AppendsSome before.capture.contents capture.contents (capture_by ps vl_table l)) (sym rest.1)
          (capture_longer ps vl_table cut rest.0 before.capture.contents capture.contents packets),
      some_longer before.ledger.contents ledger.contents (lines_by ps vl_table frames) (rest_text vl_table (length ps.filters) (entries_by ps vl_table frames) a b)
          (ledger_by ps vl_table frames a b) all
          (sym (append_assoc (ledger_head ps.version) (lines_text ps.version (entries_by ps vl_table frames)) (rest_text vl_table (length ps.filters) (entries_by ps vl_table frames) a b))),
    ))

pub none_first : (late : ℕ) (a b : SourceView) → IsFirst late a b []
none_first late a b = λ bytes_a bytes_b frames_a frames_b frames x y known_a known_b r_a r_b order. (frames, refl)

-- ---- where merging stops

pub wholes_before : (cut rest : List Frame) → take (length cut) (cut ++ rest) ≡ cut
wholes_before cut rest = take-append-le (length cut) cut rest (omega arith) ∙ take_all (length cut) cut (omega arith)

pub stops_by_merging : (fault : WatchFault) (ps : Making) (vl_table : VlTable) (before : WatchDevices) (cut : List Frame) (a b : Reading) (capture ledger : SinkView) →
    IsFirst vl_table.late before.a before.b cut → StopsMerging fault vl_table.late before.a before.b cut a b →
    Appends before.capture.contents capture.contents (capture_by ps vl_table cut) → Appends before.ledger.contents ledger.contents (lines_by ps vl_table cut) →
    capture.failures ≡ before.capture.failures → ledger.failures ≡ before.ledger.failures →
    StopsWatching fault ps vl_table before a b capture ledger
stops_by_merging fault ps vl_table before cut a b capture ledger is_first s packets lines sound_c sound_l = by fault s.fails
  where
    first : HasFirstOfAll ps vl_table before capture ledger
    first = first_of_all ps vl_table before cut capture ledger is_first (capture_all ps vl_table cut before.capture.contents capture.contents packets)
        (lines_all ps vl_table cut before.ledger.contents ledger.contents lines)

    whole : (n : ℕ) × Appends before.capture.contents capture.contents (capture_by ps vl_table (take n (cut ++ s.rest)))
        × Appends before.ledger.contents ledger.contents (lines_by ps vl_table (take n (cut ++ s.rest)))
    whole = (
      length cut,
      subst (λ (l : List Frame). Appends before.capture.contents capture.contents (capture_by ps vl_table l)) (sym (wholes_before cut s.rest)) packets,
      subst (λ (l : List Frame). Appends before.ledger.contents ledger.contents (lines_by ps vl_table l)) (sym (wholes_before cut s.rest)) lines,
    )

    of_cut : HasLines ps vl_table before s.frames_a s.frames_b (cut ++ s.rest) capture ledger
    of_cut = inl (
      lines_some ps vl_table cut s.rest before.ledger.contents ledger.contents lines,
      first_whole ps vl_table cut s.rest before.capture.contents capture.contents before.ledger.contents ledger.contents packets lines,
    )

    by : (f : WatchFault) → SourceFails f before.a.failures a.failures before.b.failures b.failures → StopsWatching f ps vl_table before a b capture ledger
    by (watch.Read networks.A) fails = record {
      frames_a = s.frames_a;
      frames_b = s.frames_b;
      frames = cut ++ s.rest;
      read_a = s.read_a;
      read_b = s.read_b;
      order = s.order;
      packets = capture_some ps vl_table cut s.rest before.capture.contents capture.contents packets;
      lines = of_cut;
      wholes = whole;
      first = first;
      fails = (fails.0, fails.1, sound_c, sound_l);
      run = tt;
    }
    by (watch.Read networks.B) fails = record {
      frames_a = s.frames_a;
      frames_b = s.frames_b;
      frames = cut ++ s.rest;
      read_a = s.read_a;
      read_b = s.read_b;
      order = s.order;
      packets = capture_some ps vl_table cut s.rest before.capture.contents capture.contents packets;
      lines = of_cut;
      wholes = whole;
      first = first;
      fails = (fails.0, fails.1, sound_c, sound_l);
      run = tt;
    }
    by watch.Memory fails = record {
      frames_a = s.frames_a;
      frames_b = s.frames_b;
      frames = cut ++ s.rest;
      read_a = s.read_a;
      read_b = s.read_b;
      order = s.order;
      packets = capture_some ps vl_table cut s.rest before.capture.contents capture.contents packets;
      lines = of_cut;
      wholes = inr (whole.0, whole.1);
      first = first;
      fails = (fails.0, fails.1, sound_c, sound_l);
      run = tt;
    }
    by watch.Workers fails = absurd fails
    by (watch.Header network fault) fails = absurd fails
    by (watch.Write out) fails = absurd fails
    by watch.Spawn fails = absurd fails
    by watch.RingLost fails = absurd fails
    by watch.Filters fails = absurd fails

-- ---- where writing stops

pub stops_by_writing : (fault : WatchFault) (ps : Making) (vl_table : VlTable) (before : WatchDevices) (fa fb cut rest : List Frame) (a b : Reading) (capture ledger : SinkView) →
    IsFirst vl_table.late before.a before.b cut → ReadsPart networks.A vl_table.late before.a fa a → ReadsPart networks.B vl_table.late before.b fb b → IsOrder fa fb (cut ++ rest) →
    a.failures ≡ before.a.failures → b.failures ≡ before.b.failures →
    StopsWriting fault ps vl_table before.capture before.ledger capture ledger cut →
    StopsWatching fault ps vl_table before a b capture ledger
stops_by_writing fault ps vl_table before fa fb cut rest a b capture ledger is_first read_a read_b order sound_a sound_b s = by fault s.fails s.whole
  where
    first : HasFirstOfAll ps vl_table before capture ledger
    first = first_of_all ps vl_table before cut capture ledger is_first s.packets s.lines

    of_cut : HasLines ps vl_table before fa fb (cut ++ rest) capture ledger
    of_cut = inl (
      lines_longer ps vl_table cut rest before.ledger.contents ledger.contents s.lines,
      first_longer ps vl_table cut rest before.capture.contents capture.contents before.ledger.contents ledger.contents s.packets_first,
    )

    by : (f : WatchFault) → SinkFails f before.capture.failures capture.failures before.ledger.failures ledger.failures →
        IsWholeAfter f ps vl_table cut before.capture capture → StopsWatching f ps vl_table before a b capture ledger
    by (watch.Write output.Capture) fails whole = record {
      frames_a = fa;
      frames_b = fb;
      frames = cut ++ rest;
      read_a = read_a;
      read_b = read_b;
      order = order;
      packets = capture_longer ps vl_table cut rest before.capture.contents capture.contents s.packets;
      lines = of_cut;
      wholes = tt;
      first = first;
      fails = (sound_a, sound_b, fails.0, fails.1);
      run = tt;
    }
    by (watch.Write output.Ledger) fails whole = record {
      frames_a = fa;
      frames_b = fb;
      frames = cut ++ rest;
      read_a = read_a;
      read_b = read_b;
      order = order;
      packets = capture_longer ps vl_table cut rest before.capture.contents capture.contents s.packets;
      lines = of_cut;
      wholes = packets_longer ps vl_table cut rest before.capture capture whole;
      first = first;
      fails = (sound_a, sound_b, fails.0, fails.1);
      run = tt;
    }
    by watch.Memory fails whole = record {
      frames_a = fa;
      frames_b = fb;
      frames = cut ++ rest;
      read_a = read_a;
      read_b = read_b;
      order = order;
      packets = capture_longer ps vl_table cut rest before.capture.contents capture.contents s.packets;
      lines = of_cut;
      wholes = whole_longer watch.Memory ps vl_table cut rest before.capture capture whole;
      first = first;
      fails = (sound_a, sound_b, fails.0, fails.1);
      run = tt;
    }
    by (watch.Read network) fails whole = absurd fails
    by watch.Workers fails whole = absurd fails
    by (watch.Header network fault) fails whole = absurd fails
    by watch.Spawn fails whole = absurd fails
    by watch.RingLost fails whole = absurd fails
    by watch.Filters fails whole = absurd fails
