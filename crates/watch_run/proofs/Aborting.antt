-- The remains of a run whose taps were read by threads, once both rings are settled.
use Rattle.std.proofs.Common.{◌≡◌, inl, inr, ◌⊎◌, ◌++◌, ◌∷◌, [], ℕ, ◌+◌, ◌≤◌, List, Option, Some, None, false, length, take, refl, sym, subst, ap, ◌∙◌, append-nil, append_assoc}
use Rattle.std.specs.Prelude.{unwrap_or}
use Rattle.std.specs.Io.KnownBytes.{Appends}
use Rattle.afdx_frame.specs.Frame.{Frame}
use Rattle.afdx_frame.specs.declared.key.Network.{Network}
use Rattle.afdx_frame.specs.declared.key.Network.TheVariants.{A, B}
use Rattle.watch_run.specs.Filters.{Making, capture_by, lines_by}
use Rattle.ordered_merge.specs.Merge.{AreOfTap, Tap, new_tap, tap_after}
use Rattle.ordered_merge.specs.Order.{IsOrder}
use Rattle.ordered_merge.specs.Recording.{IsRecording as IsTapRecording}
use Rattle.ordered_merge.proofs.Following.{one_order}
use Rattle.ordered_merge.proofs.WholeRuns.{cut_comes_first}
use Rattle.pcap_io.specs.Device.{CountsFailure}
use Rattle.pcap_io.specs.Position.{Reading, Reads, after_frame, start_at}
use Rattle.pcap_io.specs.Reader.{reading_of}
use Rattle.pcap_io.specs.declared.reader.TapReader.{TapReader}
use Rattle.pcap_io.specs.declared.item.ReadFault.TheVariants as faults
use Rattle.pcap_io.specs.declared.position.Position.{Position}
use Rattle.pcap_io.specs.declared.recording.Ending.{Ending}
use Rattle.tap_queue.specs.Items.{Gives, frames_in}
use Rattle.tap_queue.specs.Ring.{has_lost, taken_items}
use Rattle.tap_queue.specs.declared.end.TapEnd.{TapEnd}
use Rattle.tap_queue.specs.declared.item.TapItem.TheVariants as items
use Rattle.vl_config.specs.Document.{VlTable}
use Rattle.pcap_io.specs.declared.told.Told.{Told}
use Rattle.pcap_io.specs.Told.{StaysTold}
use Rattle.run_fault.specs.Recording.{IsRecording, LeavesUnread}
use Rattle.watch_run.specs.Outputs.{HasPacketsFirst, SinkFails, StopsWriting, effect_of}
use Rattle.tap_merge.specs.Rings.{AreFirst, EndsWith, RingsFault, StopsTaking, WhereFailed}
use Rattle.watch_run.specs.Running.{AbortsBegun, AbortsRunning, FailsAmong, HasCutSafe, HasMergedFailed, HasWholeRounds, LosesRing, StopsRunning, WroteSafe}
use Rattle.tap_merge.specs.Threads.{IsLeft, IsSettled, IsStarted}
use Rattle.run_fault.specs.Fault.{MayFail}
use Rattle.tap_merge.specs.Taps.{HasRead, ReadsPart}
use Rattle.run_fault.specs.Device.{SourceMembers, AppendsSome, SinkView, SourceView, source_at}
use Rattle.run_fault.specs.Recording.{IsReadPart, most_frames}
use Rattle.watch_run.specs.Watch.{HasWholes, IsRunFault, StopsRun}
use Rattle.run_fault.specs.Opening.{WatchDevices, watch_devices}
use Rattle.run_fault.specs.declared.fault.Output.TheVariants as output
use Rattle.run_fault.specs.declared.fault.WatchFault.{WatchFault}
use Rattle.run_fault.specs.declared.fault.WatchFault.TheVariants as watch
use Rattle.tap_merge.proofs.FedTaps.{IsTapRun, still_ends, tap_run}
use Rattle.tap_merge.proofs.RingItems.{frames_append}
use Rattle.tap_queue.specs.declared.item.TapItem.{TapItem}
use Rattle.tap_merge.proofs.TwoTaps.{high_after, in_time}
use Rattle.watch_run.proofs.Watching.{first_of_all, wholes_before}
use Rattle.watch_run.proofs.WholeOrder.{IsFirst, goes_on, recorded}
use Rattle.watch_run.proofs.Writing.{capture_all, capture_longer, first_all, first_longer, lines_all, lines_longer, packets_longer, whole_longer}

-- ---- a tap whose source came back

-- a source came back whose reader gave these items
pub record IsTapBack (network : Network) (late : ℕ) (before : SourceView) (given : List TapItem) (after : SourceView) : Type 0 where
  pub start : Reading
  pub reading : Reading
  pub ahead : List ℕ
  pub gives : Gives start given reading
  pub run : IsTapRun network late before (frames_in given) given reading
  pub leaves : LeavesUnread ahead reading.remaining after.remaining
  pub same_failures : after.failures ≡ reading.failures

tap_back : (network : Network) (late : ℕ) (before after : SourceView) (start reading : Reading) (given : List TapItem) (ahead : List ℕ) → IsStarted network late before start →
    Gives start given reading → LeavesUnread ahead reading.remaining after.remaining → after.failures ≡ reading.failures → IsTapBack network late before given after
tap_back network late before after start reading given ahead started gives leaves same = record {
  start = start;
  reading = reading;
  ahead = ahead;
  gives = gives;
  run = tap_run network late before [] given start reading started.read started.going started.most gives;
  leaves = leaves;
  same_failures = same;
}

pub settled_of : {S : Type 0} (s : SourceMembers S) (network : Network) (late : ℕ) (before : SourceView) (reader : TapReader S) (end : TapEnd) (source : S) →
    IsStarted network late before (reading_of s.remaining s.failures s.told reader) → IsSettled s reader end source →
    IsTapBack network late before (taken_items end) (source_at s source)
settled_of s network late before reader end source started settled =
    tap_back network late before (source_at s source) (reading_of s.remaining s.failures s.told reader) settled.reading (taken_items end) settled.ahead started settled.gives settled.leaves
    settled.same_failures

pub left_of : {S : Type 0} (s : SourceMembers S) (network : Network) (late : ℕ) (before : SourceView) (reader : TapReader S) (end : TapEnd) (source : S) →
    IsStarted network late before (reading_of s.remaining s.failures s.told reader) → (left : IsLeft s reader end source) →
    IsTapBack network late before (taken_items end ++ left.more) (source_at s source)
left_of s network late before reader end source started left =
    tap_back network late before (source_at s source) (reading_of s.remaining s.failures s.told reader) left.reading (taken_items end ++ left.more) left.ahead started left.gives left.leaves
    left.same_failures

pub part_back : (network : Network) (late : ℕ) (before after : SourceView) (given : List TapItem) → IsTapBack network late before given after →
    IsReadPart network late before after (frames_in given)
part_back network late before after given s = record {
  position = s.run.part.position;
  left = s.run.part.left;
  rest = s.reading.remaining;
  ahead = s.ahead;
  read = s.run.part.read;
  gone = s.run.part.gone;
  unread = s.leaves;
}

pub may_fail_back : (network : Network) (late : ℕ) (before after : SourceView) (given : List TapItem) → IsTapBack network late before given after → MayFail before.failures after.failures
may_fail_back network late before after given s = subst (MayFail before.failures) (sym s.same_failures) s.run.may_fail

failed_back : (network : Network) (late : ℕ) (before after : SourceView) (taken more : List TapItem) → IsTapBack network late before (taken ++ more) after →
    EndsWith (items.Failed faults.Device) taken → CountsFailure before.failures after.failures
failed_back network late before after taken more s ends =
    let none = still_ends s.start s.reading (items.Failed faults.Device) taken more refl ends s.gives in
    subst (CountsFailure before.failures) (sym s.same_failures)
    (s.run.failed (subst (λ (l : List TapItem). EndsWith (items.Failed faults.Device) l) (sym (ap (λ (l : List TapItem). taken ++ l) none ∙ append-nil taken)) ends))

-- the merged frames are the first of all that the reader gave
first_given : (frames : List Frame) (tap : Tap) (taken more : List TapItem) (start reading : Reading) → AreFirst frames tap taken → Gives start (taken ++ more) reading →
    AreFirst frames tap (taken ++ more)
first_given frames tap taken more start reading k gives = record {
  more = k.more ++ frames_in more;
  all = frames_append taken more ∙ ap (λ (l : List Frame). l ++ frames_in more) k.all ∙ append_assoc frames k.more (frames_in more);
  over = λ done.
      (let ended = k.over done in
      let none = still_ends start reading (items.End ended.1) taken more refl ended.2 gives in (
        ap (λ (l : List TapItem). k.more ++ frames_in l) none ∙ append-nil k.more ∙ ended.0,
        ended.1,
        subst (λ (l : List TapItem). EndsWith (items.End ended.1) l) (sym (ap (λ (l : List TapItem). taken ++ l) none ∙ append-nil taken)) ended.2,
      ));
}

-- ---- the frames that were read are those of a tap

reads_tap : (network : Network) (late : ℕ) (p q : Position) (before after : Option (List ℕ)) (frames : List Frame) (tap : Tap) → p.network ≡ network → p.late ≡ late →
    tap.next ≡ p.count → p.high ≡ unwrap_or tap.high 0 → Reads p before frames q after → (last : Tap) × AreOfTap network late tap frames last
reads_tap network late p q before after [] tap net is next high reads = (tap, (refl, refl))
reads_tap network late p q before after (f ∷ frames) tap net is next high (mid, t, reads) =
    let others = reads_tap network late (after_frame p f.stamp) q mid after frames (tap_after f.stamp tap) net is (ap (λ k. k + 1) next) (high_after p.high f.stamp tap.high high) reads in (
      others.0,
      (
        ap (λ (g : Frame). g.network) t.same ∙ net,
        ap (λ (g : Frame). g.number) t.same ∙ sym next,
        in_time late tap p.high f.stamp high
            (subst (λ l. p.high ≤ f.stamp + l) is (subst (λ s. p.high ≤ s + p.late) (sym (ap (λ (g : Frame). g.stamp) t.same)) t.good.in_time)),
        others.1,
      ),
    )

part_recorded : (network : Network) (late : ℕ) (before : SourceView) (frames : List Frame) (reading : Reading) → ReadsPart network late before frames reading →
    IsTapRecording network late frames
part_recorded network late before frames reading part =
    reads_tap network late (start_at network part.read.layout most_frames late) part.position part.read.opened part.left frames new_tap refl refl refl refl part.read.reads

-- ---- a recording whose bytes are known goes on after what was read, unless its ending was taken

stays_so : (left : Option (List ℕ)) (told : Told) → StaysTold left told told
stays_so None told = tt
stays_so (Some bytes) told = refl

as_read : (network : Network) (late : ℕ) (before : SourceView) (frames : List Frame) (reading : Reading) (part : ReadsPart network late before frames reading) →
    HasRead network late before frames None (record { position = part.position; remaining = part.left; failures = before.failures; told = before.told })
as_read network late before frames reading part = record { position = part.position; left = part.left; told = before.told; tells = stays_so before.remaining before.told; read = part.read; stands = (refl, refl, refl); failures = refl }

none_behind : (xs ys : List Frame) → xs ≡ xs ++ ys → ys ≡ []
none_behind [] ys e = sym e
none_behind (f ∷ xs) ys e = none_behind xs ys (cc e)

goes_on_after : (network : Network) (late : ℕ) (before after : SourceView) (given : List TapItem) (whole : List Frame) (bytes : List ℕ) (ending : Ending) →
    IsTapBack network late before given after → before.remaining ≡ Some bytes → IsRecording network late before.told bytes whole ending →
    (others : List Frame) × (whole ≡ frames_in given ++ others) × ((e : Ending) → EndsWith (items.End e) given → others ≡ [])
goes_on_after network late before after given whole bytes ending s known r =
    let frames = frames_in given in
    let on = goes_on network late before frames whole None _ bytes ending known (as_read network late before frames s.reading s.run.part) r in (
      on.others,
      on.all,
      λ e ends.
          (let all = goes_on network late before frames whole (Some e) s.reading bytes ending known (s.run.ended e ends) r in
          none_behind frames on.others (sym (append-nil frames) ∙ ap (λ (l : List Frame). frames ++ l) (sym (all.ended refl).0) ∙ sym all.all ∙ on.all)),
    )

-- ---- the frames cut are the first of all

both_none : (xs ys : List Frame) → xs ≡ [] → ys ≡ [] → xs ++ ys ≡ []
both_none xs ys none also = ap (λ (l : List Frame). l ++ ys) none ∙ also

pub record IsStopped (late : ℕ) (cut : List Frame) (before_a before_b : SourceView) (given_a given_b : List TapItem) : Type 0 where
  pub rest : List Frame
  pub order : IsOrder (frames_in given_a) (frames_in given_b) (cut ++ rest)
  pub first : IsFirst late before_a before_b cut

pub stopped_so : (late : ℕ) (cut : List Frame) (before_a before_b after_a after_b : SourceView) (a b : TapEnd) (more_a more_b : List TapItem) →
    IsTapBack A late before_a (taken_items a ++ more_a) after_a → IsTapBack B late before_b (taken_items b ++ more_b) after_b → has_lost a ≡ false → has_lost b ≡ false →
    StopsTaking late cut a b → IsStopped late cut before_a before_b (taken_items a ++ more_a) (taken_items b ++ more_b)
stopped_so late cut before_a before_b after_a after_b a b more_a more_b settled_a settled_b sound_a sound_b s = record { rest = found.0; order = order; first = first }
  where
    given_a : List TapItem
    given_a = taken_items a ++ more_a

    given_b : List TapItem
    given_b = taken_items b ++ more_b

    on_a : AreFirst s.frames_a s.merger.a given_a
    on_a = first_given s.frames_a s.merger.a (taken_items a) more_a settled_a.start settled_a.reading (s.first_a sound_a) settled_a.gives

    on_b : AreFirst s.frames_b s.merger.b given_b
    on_b = first_given s.frames_b s.merger.b (taken_items b) more_b settled_b.start settled_b.reading (s.first_b sound_b) settled_b.gives

    tap_a : IsTapRecording A late (s.frames_a ++ on_a.more)
    tap_a = subst (IsTapRecording A late) on_a.all (part_recorded A late before_a (frames_in given_a) settled_a.reading settled_a.run.part)

    tap_b : IsTapRecording B late (s.frames_b ++ on_b.more)
    tap_b = subst (IsTapRecording B late) on_b.all (part_recorded B late before_b (frames_in given_b) settled_b.reading settled_b.run.part)

    found : (rest : List Frame) × IsOrder (s.frames_a ++ on_a.more) (s.frames_b ++ on_b.more) (cut ++ rest)
    found = cut_comes_first s.merger late s.frames_a s.frames_b cut on_a.more on_b.more s.follows s.late_is (λ done. (on_a.over done).0) (λ done. (on_b.over done).0) tap_a tap_b

    order : IsOrder (frames_in given_a) (frames_in given_b) (cut ++ found.0)
    order = subst (λ (l : List Frame). IsOrder l (frames_in given_b) (cut ++ found.0)) (sym on_a.all)
        (subst (λ (l : List Frame). IsOrder (s.frames_a ++ on_a.more) l (cut ++ found.0)) (sym on_b.all) found.1)

    first : IsFirst late before_a before_b cut
    first = λ bytes_a bytes_b whole_a whole_b whole x y known_a known_b r_a r_b all.
        (let more_a = goes_on_after A late before_a after_a given_a whole_a bytes_a x settled_a known_a r_a in
        let more_b = goes_on_after B late before_b after_b given_b whole_b bytes_b y settled_b known_b r_b in
        let is_a : whole_a ≡ s.frames_a ++ (on_a.more ++ more_a.0) = more_a.1 ∙ ap (λ (l : List Frame). l ++ more_a.0) on_a.all ∙ append_assoc s.frames_a on_a.more more_a.0 in
        let is_b : whole_b ≡ s.frames_b ++ (on_b.more ++ more_b.0) = more_b.1 ∙ ap (λ (l : List Frame). l ++ more_b.0) on_b.all ∙ append_assoc s.frames_b on_b.more more_b.0 in
        let there = cut_comes_first s.merger late s.frames_a s.frames_b cut (on_a.more ++ more_a.0) (on_b.more ++ more_b.0) s.follows s.late_is
        (λ done. both_none on_a.more more_a.0 (on_a.over done).0 (more_a.2 (on_a.over done).1 (on_a.over done).2))
        (λ done. both_none on_b.more more_b.0 (on_b.over done).0 (more_b.2 (on_b.over done).1 (on_b.over done).2))
        (subst (IsTapRecording A late) is_a (recorded A late before_a.told bytes_a whole_a x r_a)) (subst (IsTapRecording B late) is_b (recorded B late before_b.told bytes_b whole_b y r_b)) in (
          there.0,
          one_order whole_a whole_b whole (cut ++ there.0) all
              (subst (λ (l : List Frame). IsOrder l whole_b (cut ++ there.0)) (sym is_a) (subst (λ (l : List Frame). IsOrder (s.frames_a ++ (on_a.more ++ more_a.0)) l (cut ++ there.0)) (sym is_b) there.1)),
        ))

-- ---- the outputs

some_packets : (fault : WatchFault) (ps : Making) (vl_table : VlTable) (capture ledger capture' ledger' : SinkView) (a b : TapEnd)
    (s : StopsRunning fault ps vl_table capture ledger a b capture' ledger') → AppendsSome capture.contents capture'.contents (capture_by ps vl_table s.cut)
some_packets fault ps vl_table capture ledger capture' ledger' a b s = by s.why
  where
    by : ((RingsFault fault a b × HasWholeRounds ps vl_table s.cut capture ledger capture' ledger') ⊎ StopsWriting (effect_of fault) ps vl_table capture ledger capture' ledger' s.cut) →
        AppendsSome capture.contents capture'.contents (capture_by ps vl_table s.cut)
    by (inl (rings, whole)) = capture_all ps vl_table s.cut capture.contents capture'.contents whole.packets
    by (inr w) = w.packets

some_lines : (fault : WatchFault) (ps : Making) (vl_table : VlTable) (capture ledger capture' ledger' : SinkView) (a b : TapEnd)
    (s : StopsRunning fault ps vl_table capture ledger a b capture' ledger') → AppendsSome ledger.contents ledger'.contents (lines_by ps vl_table s.cut)
some_lines fault ps vl_table capture ledger capture' ledger' a b s = by s.why
  where
    by : ((RingsFault fault a b × HasWholeRounds ps vl_table s.cut capture ledger capture' ledger') ⊎ StopsWriting (effect_of fault) ps vl_table capture ledger capture' ledger' s.cut) →
        AppendsSome ledger.contents ledger'.contents (lines_by ps vl_table s.cut)
    by (inl (rings, whole)) = lines_all ps vl_table s.cut ledger.contents ledger'.contents whole.lines
    by (inr w) = w.lines

some_first : (fault : WatchFault) (ps : Making) (vl_table : VlTable) (capture ledger capture' ledger' : SinkView) (a b : TapEnd)
    (s : StopsRunning fault ps vl_table capture ledger a b capture' ledger') →
    HasPacketsFirst ps vl_table s.cut capture.contents capture'.contents ledger.contents ledger'.contents
some_first fault ps vl_table capture ledger capture' ledger' a b s = by s.why
  where
    by : ((RingsFault fault a b × HasWholeRounds ps vl_table s.cut capture ledger capture' ledger') ⊎ StopsWriting (effect_of fault) ps vl_table capture ledger capture' ledger' s.cut) →
        HasPacketsFirst ps vl_table s.cut capture.contents capture'.contents ledger.contents ledger'.contents
    by (inl (rings, whole)) = first_all ps vl_table s.cut capture.contents capture'.contents ledger.contents ledger'.contents whole.packets
        (lines_all ps vl_table s.cut ledger.contents ledger'.contents whole.lines)
    by (inr w) = w.packets_first

one_fails : (fault : WatchFault) (c c' l l' : ℕ) → SinkFails fault c c' l l' → MayFail c c' × MayFail l l'
one_fails (watch.Write output.Capture) c c' l l' (counts, same) = (inr counts, inl same)
one_fails (watch.Write output.Ledger) c c' l l' (same, counts) = (inl same, inr counts)
one_fails watch.Memory c c' l l' (same, also) = (inl same, inl also)
one_fails (watch.Read n) c c' l l' h = absurd h
one_fails watch.Spawn c c' l l' h = absurd h
one_fails watch.RingLost c c' l l' h = absurd h
one_fails watch.Workers c c' l l' h = absurd h
one_fails (watch.Header n f) c c' l l' h = absurd h
one_fails watch.Filters c c' l l' h = absurd h

sinks_may_fail : (fault : WatchFault) (ps : Making) (vl_table : VlTable) (capture ledger capture' ledger' : SinkView) (a b : TapEnd) →
    StopsRunning fault ps vl_table capture ledger a b capture' ledger' → MayFail capture.failures capture'.failures × MayFail ledger.failures ledger'.failures
sinks_may_fail fault ps vl_table capture ledger capture' ledger' a b s = by s.why
  where
    by : ((RingsFault fault a b × HasWholeRounds ps vl_table s.cut capture ledger capture' ledger') ⊎ StopsWriting (effect_of fault) ps vl_table capture ledger capture' ledger' s.cut) →
        MayFail capture.failures capture'.failures × MayFail ledger.failures ledger'.failures
    by (inl (rings, whole)) = (inl whole.capture_failures, inl whole.ledger_failures)
    by (inr w) = one_fails (effect_of fault) capture.failures capture'.failures ledger.failures ledger'.failures w.fails

-- ---- a ring was lost

pub loses_ring : (fault : WatchFault) (ps : Making) (vl_table : VlTable) (before : WatchDevices) (a b : TapEnd) (capture ledger : SinkView) →
    StopsRunning fault ps vl_table before.capture before.ledger a b capture ledger → LosesRing ps vl_table before capture ledger
loses_ring fault ps vl_table before a b capture ledger s =
    let m = s.taken.merger in
    record {
      frames_a = s.taken.frames_a;
      frames_b = s.taken.frames_b;
      frames = s.cut ++ m.pending;
      tap_a = subst (λ n. IsTapRecording A n s.taken.frames_a) s.taken.late_is (m.a, s.taken.follows.a);
      tap_b = subst (λ n. IsTapRecording B n s.taken.frames_b) s.taken.late_is (m.b, s.taken.follows.b);
      order = s.taken.follows.order;
      packets = capture_longer ps vl_table s.cut m.pending before.capture.contents capture.contents
          (some_packets fault ps vl_table before.capture before.ledger capture ledger a b s);
      lines = lines_longer ps vl_table s.cut m.pending before.ledger.contents ledger.contents
          (some_lines fault ps vl_table before.capture before.ledger capture ledger a b s);
      packets_first = first_longer ps vl_table s.cut m.pending before.capture.contents capture.contents before.ledger.contents ledger.contents
          (some_first fault ps vl_table before.capture before.ledger capture ledger a b s);
      capture_failures = (sinks_may_fail fault ps vl_table before.capture before.ledger capture ledger a b s).0;
      ledger_failures = (sinks_may_fail fault ps vl_table before.capture before.ledger capture ledger a b s).1;
    }

-- ---- both sources came back

pub running_aborts : (fault : WatchFault) (ps : Making) (vl_table : VlTable) (before : WatchDevices) (a b : TapEnd) (after_a after_b : SourceView) (capture ledger : SinkView)
    (more_a more_b : List TapItem) →
    IsTapBack A vl_table.late before.a (taken_items a ++ more_a) after_a → IsTapBack B vl_table.late before.b (taken_items b ++ more_b) after_b →
    has_lost a ≡ false → has_lost b ≡ false →
    StopsRunning fault ps vl_table before.capture before.ledger a b capture ledger → ((fault ≡ watch.RingLost) → ⊥) →
    AbortsRunning fault ps vl_table before (watch_devices after_a after_b capture ledger)
running_aborts fault ps vl_table before a b after_a after_b capture ledger more_a more_b settled_a settled_b sound_a sound_b s not_lost = by fault s.why not_lost s.safe
  where
    given_a : List TapItem
    given_a = taken_items a ++ more_a

    given_b : List TapItem
    given_b = taken_items b ++ more_b

    stopped : IsStopped vl_table.late s.cut before.a before.b given_a given_b
    stopped = stopped_so vl_table.late s.cut before.a before.b after_a after_b a b more_a more_b settled_a settled_b sound_a sound_b s.taken

    packets : AppendsSome before.capture.contents capture.contents (capture_by ps vl_table s.cut)
    packets = some_packets fault ps vl_table before.capture before.ledger capture ledger a b s

    lines : AppendsSome before.ledger.contents ledger.contents (lines_by ps vl_table s.cut)
    lines = some_lines fault ps vl_table before.capture before.ledger capture ledger a b s

    stops : (f : WatchFault) → HasWholes f ps vl_table (s.cut ++ stopped.rest) before.capture before.ledger capture ledger →
        StopsRun f ps vl_table before (watch_devices after_a after_b capture ledger)
    stops f wholes = record {
      frames_a = frames_in given_a;
      frames_b = frames_in given_b;
      frames = s.cut ++ stopped.rest;
      read_a = part_back A vl_table.late before.a after_a given_a settled_a;
      read_b = part_back B vl_table.late before.b after_b given_b settled_b;
      order = stopped.order;
      capture = capture_longer ps vl_table s.cut stopped.rest before.capture.contents capture.contents packets;
      ledger = inl (
        lines_longer ps vl_table s.cut stopped.rest before.ledger.contents ledger.contents lines,
        first_longer ps vl_table s.cut stopped.rest before.capture.contents capture.contents before.ledger.contents ledger.contents
            (some_first fault ps vl_table before.capture before.ledger capture ledger a b s),
      );
      wholes = wholes;
      first = first_of_all ps vl_table before s.cut capture ledger stopped.first packets lines;
    }

    whole : HasWholeRounds ps vl_table s.cut before.capture before.ledger capture ledger →
        (n : ℕ) × Appends before.capture.contents capture.contents (capture_by ps vl_table (take n (s.cut ++ stopped.rest)))
        × Appends before.ledger.contents ledger.contents (lines_by ps vl_table (take n (s.cut ++ stopped.rest)))
    whole w = (
      length s.cut,
      subst (λ (l : List Frame). Appends before.capture.contents capture.contents (capture_by ps vl_table l)) (sym (wholes_before s.cut stopped.rest)) w.packets,
      subst (λ (l : List Frame). Appends before.ledger.contents ledger.contents (lines_by ps vl_table l)) (sym (wholes_before s.cut stopped.rest)) w.lines,
    )

    back_a : MayFail before.a.failures after_a.failures
    back_a = may_fail_back A vl_table.late before.a after_a given_a settled_a

    back_b : MayFail before.b.failures after_b.failures
    back_b = may_fail_back B vl_table.late before.b after_b given_b settled_b

    aborts : (f : WatchFault) → FailsAmong f before (watch_devices after_a after_b capture ledger) → IsRunFault f →
        HasWholes f ps vl_table (s.cut ++ stopped.rest) before.capture before.ledger capture ledger →
        WhereFailed f (WroteSafe f ps vl_table (frames_in given_a) (frames_in given_b) before (watch_devices after_a after_b capture ledger)) →
        AbortsRunning f ps vl_table before (watch_devices after_a after_b capture ledger)
    aborts f fails run wholes safe = record {
      fails = fails;
      run = run;
      stops = stops f wholes;
      safe = safe;
    }

    wrote : (f : WatchFault) → HasWholeRounds ps vl_table s.cut before.capture before.ledger capture ledger → HasCutSafe vl_table.late s.cut a b →
        HasMergedFailed f (frames_in more_a) (frames_in more_b) →
        WroteSafe f ps vl_table (frames_in given_a) (frames_in given_b) before (watch_devices after_a after_b capture ledger)
    wrote f w safe all = record {
      taken_a = frames_in (taken_items a);
      taken_b = frames_in (taken_items b);
      more_a = frames_in more_a;
      more_b = frames_in more_b;
      all_a = frames_append (taken_items a) more_a;
      all_b = frames_append (taken_items b) more_b;
      all_failed = all;
      written = s.cut;
      merger = safe.merger;
      late_is = safe.late_is;
      follows = safe.follows;
      none_safe = safe.none_safe;
      packets = w.packets;
      lines = w.lines;
    }

    none_of : (network : Network) (start reading : Reading) (taken more : List TapItem) → EndsWith (items.Failed faults.Device) taken → Gives start (taken ++ more) reading →
        frames_in more ≡ []
    none_of network start reading taken more ends gives = ap frames_in (still_ends start reading (items.Failed faults.Device) taken more refl ends gives)

    by : (f : WatchFault) → ((RingsFault f a b × HasWholeRounds ps vl_table s.cut before.capture before.ledger capture ledger)
        ⊎ StopsWriting (effect_of f) ps vl_table before.capture before.ledger capture ledger s.cut) → ((f ≡ watch.RingLost) → ⊥) →
        WhereFailed f (HasCutSafe vl_table.late s.cut a b) →
        AbortsRunning f ps vl_table before (watch_devices after_a after_b capture ledger)
    by (watch.Read A) (inl ((A, (is, sound, ends)), w)) other safe =
        aborts (watch.Read A) (failed_back A vl_table.late before.a after_a (taken_items a) more_a settled_a ends, back_b, w.capture_failures, w.ledger_failures) tt (whole w)
        (wrote (watch.Read A) w safe (none_of A settled_a.start settled_a.reading (taken_items a) more_a ends settled_a.gives))
    by (watch.Read B) (inl ((B, (is, sound, ends)), w)) other safe =
        aborts (watch.Read B) (back_a, failed_back B vl_table.late before.b after_b (taken_items b) more_b settled_b ends, w.capture_failures, w.ledger_failures) tt (whole w)
        (wrote (watch.Read B) w safe (none_of B settled_b.start settled_b.reading (taken_items b) more_b ends settled_b.gives))
    by (watch.Read A) (inl ((B, (is, sound, ends)), w)) other safe = (let wrong : ⊥ = cc is in absurd wrong)
    by (watch.Read B) (inl ((A, (is, sound, ends)), w)) other safe = (let wrong : ⊥ = cc is in absurd wrong)
    by watch.Memory (inl (rings, w)) other safe =
        aborts watch.Memory (back_a, back_b, w.capture_failures, w.ledger_failures) tt (inr ((whole w).0, (whole w).1)) tt
    by watch.RingLost (inl (rings, w)) other safe = absurd (other refl)
    by watch.Workers (inl ((A, h), w)) other safe = absurd h
    by watch.Workers (inl ((B, h), w)) other safe = absurd h
    by (watch.Header n f) (inl ((A, h), w)) other safe = absurd h
    by (watch.Header n f) (inl ((B, h), w)) other safe = absurd h
    by (watch.Write out) (inl ((A, h), w)) other safe = absurd h
    by (watch.Write out) (inl ((B, h), w)) other safe = absurd h
    by watch.Spawn (inl ((A, h), w)) other safe = absurd h
    by watch.Spawn (inl ((B, h), w)) other safe = absurd h
    by watch.Filters (inl ((A, h), w)) other safe = absurd h
    by watch.Filters (inl ((B, h), w)) other safe = absurd h
    by (watch.Write output.Capture) (inr w) other safe = aborts (watch.Write output.Capture) (back_a, back_b, w.fails.0, w.fails.1) tt tt tt
    by (watch.Write output.Ledger) (inr w) other safe =
        aborts (watch.Write output.Ledger) (back_a, back_b, w.fails.0, w.fails.1) tt (packets_longer ps vl_table s.cut stopped.rest before.capture capture w.whole) tt
    by watch.Memory (inr w) other safe =
        aborts watch.Memory (back_a, back_b, w.fails.0, w.fails.1) tt (whole_longer watch.Memory ps vl_table s.cut stopped.rest before.capture capture w.whole) tt
    by watch.Spawn (inr w) other safe = absurd w.fails
    by (watch.Read n) (inr w) other safe = absurd w.fails
    by watch.RingLost (inr w) other safe = absurd (other refl)
    by watch.Workers (inr w) other safe = absurd w.fails
    by (watch.Header n f) (inr w) other safe = absurd w.fails
    by watch.Filters (inr w) other safe = absurd w.fails

-- ---- a run that was aborted

pub begun_aborts : (fault : WatchFault) (ps : Making) (vl_table : VlTable) (before : WatchDevices) (a b : TapEnd) (after_a after_b : SourceView) (capture ledger : SinkView)
    (more_a more_b : List TapItem) → IsTapBack A vl_table.late before.a (taken_items a ++ more_a) after_a → IsTapBack B vl_table.late before.b (taken_items b ++ more_b) after_b →
    has_lost a ≡ false → has_lost b ≡ false → StopsRunning fault ps vl_table before.capture before.ledger a b capture ledger → AbortsBegun fault ps vl_table before (Some after_a) (Some after_b) capture ledger
begun_aborts watch.RingLost ps vl_table before a b after_a after_b capture ledger more_a more_b settled_a settled_b sound_a sound_b s =
    inr (refl, loses_ring watch.RingLost ps vl_table before a b capture ledger s)
begun_aborts (watch.Read n) ps vl_table before a b after_a after_b capture ledger more_a more_b settled_a settled_b sound_a sound_b s =
    inl (running_aborts (watch.Read n) ps vl_table before a b after_a after_b capture ledger more_a more_b settled_a settled_b sound_a sound_b s (λ is. (let wrong : ⊥ = cc is in absurd wrong)))
begun_aborts (watch.Write out) ps vl_table before a b after_a after_b capture ledger more_a more_b settled_a settled_b sound_a sound_b s =
    inl (running_aborts (watch.Write out) ps vl_table before a b after_a after_b capture ledger more_a more_b settled_a settled_b sound_a sound_b s (λ is. (let wrong : ⊥ = cc is in absurd wrong)))
begun_aborts watch.Memory ps vl_table before a b after_a after_b capture ledger more_a more_b settled_a settled_b sound_a sound_b s =
    inl (running_aborts watch.Memory ps vl_table before a b after_a after_b capture ledger more_a more_b settled_a settled_b sound_a sound_b s (λ is. (let wrong : ⊥ = cc is in absurd wrong)))
begun_aborts watch.Spawn ps vl_table before a b after_a after_b capture ledger more_a more_b settled_a settled_b sound_a sound_b s =
    inl (running_aborts watch.Spawn ps vl_table before a b after_a after_b capture ledger more_a more_b settled_a settled_b sound_a sound_b s (λ is. (let wrong : ⊥ = cc is in absurd wrong)))
begun_aborts watch.Workers ps vl_table before a b after_a after_b capture ledger more_a more_b settled_a settled_b sound_a sound_b s =
    inl (running_aborts watch.Workers ps vl_table before a b after_a after_b capture ledger more_a more_b settled_a settled_b sound_a sound_b s (λ is. (let wrong : ⊥ = cc is in absurd wrong)))
begun_aborts (watch.Header n f) ps vl_table before a b after_a after_b capture ledger more_a more_b settled_a settled_b sound_a sound_b s =
    inl (running_aborts (watch.Header n f) ps vl_table before a b after_a after_b capture ledger more_a more_b settled_a settled_b sound_a sound_b s (λ is. (let wrong : ⊥ = cc is in absurd wrong)))
begun_aborts watch.Filters ps vl_table before a b after_a after_b capture ledger more_a more_b settled_a settled_b sound_a sound_b s =
    inl (running_aborts watch.Filters ps vl_table before a b after_a after_b capture ledger more_a more_b settled_a settled_b sound_a sound_b s (λ is. (let wrong : ⊥ = cc is in absurd wrong)))

pub begun_loses : (fault : WatchFault) (ps : Making) (vl_table : VlTable) (before : WatchDevices) (a b : TapEnd) (back_a back_b : Option SourceView) (capture ledger : SinkView) →
    StopsRunning fault ps vl_table before.capture before.ledger a b capture ledger → AbortsBegun watch.RingLost ps vl_table before back_a back_b capture ledger
begun_loses fault ps vl_table before a b back_a back_b capture ledger s = inr (refl, loses_ring fault ps vl_table before a b capture ledger s)
