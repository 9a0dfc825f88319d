-- Two recordings, as they are read and merged.
use Rattle.std.proofs.Common.{◌≡◌, inl, inr, map, ℕ, ◌+◌, ◌-◌, ◌*◌, ◌<◌, ◌≤◌, max, Bool, true, false, cond, suc, List, [], ◌∷◌, ◌++◌, length, take, zero, Option, Some, None, is_some, refl, sym, subst, ap, ◌∙◌, arith, IfSome}
use Rattle.std.proofs.lemmas.Bool.{false≢true}
use Rattle.std.specs.Prelude.{unwrap_or}
use Rattle.std.specs.Option.{ForSome}
use Rattle.afdx_frame.specs.Frame.{Frame}
use Rattle.afdx_frame.specs.declared.key.Network.{Network}
use Rattle.afdx_frame.specs.declared.key.Network.TheVariants.{A, B}
use Rattle.ordered_merge.specs.Merge.{CanFetch, CanFetchAll, Follows, IsInTime, MergerState, Tap, after_cut, change_tap, cut_frames, ended, fetched, fetched_all, highest, safe_frames, tap_after, tap_of, without_first}
use Rattle.ordered_merge.specs.Order.{IsOrder, insert_frame, is_before}
use Rattle.pcap_io.specs.declared.item.Item.TheVariants as read_items
use Rattle.run_fault.proofs.Recording.{complete, known_after, tells_on}
use Rattle.pcap_io.specs.Position.{TakesAPacket, Reading, TakesFrame, after_frame, start_at}
use Rattle.frame_batch.specs.Batch.{BatchState, batch_frames, record_frame}
use Rattle.frame_batch.specs.declared.frame_record.FrameRecord.{FrameRecord}
use Rattle.pcap_io.specs.Batches.{GivesFrames}
use Rattle.pcap_io.proofs.Parse.{reads_more}
use Rattle.std.proofs.KnownBytes.{Consumes-nil}
use Rattle.pcap_io.specs.declared.position.Position.{Position}
use Rattle.pcap_io.specs.declared.recording.Ending.{Ending}
use Rattle.pcap_io.specs.declared.recording.Stage.TheVariants.{Going}
use Rattle.run_fault.specs.Device.{SourceView}
use Rattle.run_fault.specs.Recording.{IsRecording, most_frames}
use Rattle.run_fault.specs.Recording.{Ends}
use Rattle.pcap_io.specs.Told.{StaysTold}
use Rattle.pcap_io.specs.declared.told.Told.{Told}
use Rattle.tap_merge.specs.Taps.{Agrees, Fits, HasRead, Merges, MergesAll, MergesFrame, MergesNot, ReadsPart, SourceFails, turns_of}
use Rattle.run_fault.specs.declared.fault.WatchFault.{WatchFault}
use Rattle.run_fault.specs.declared.fault.WatchFault.TheVariants as watch
use Rattle.ordered_merge.proofs.Following.{ended_is_safe, follows_end, follows_fetch_a, follows_fetch_b}
use Rattle.pcap_io.specs.Device.{CountsFailure}

-- ---- the next frame of a reader is the merger's next one

network_of_frame : (q : Position) (before after : Option (List ℕ)) (f : Frame) → TakesFrame q before after f → f.network ≡ q.network
network_of_frame q before after f t = ap (λ (g : Frame). g.network) t.same

pub in_time : (late : ℕ) (tap : Tap) (high stamp : ℕ) → high ≡ unwrap_or tap.high 0 → high ≤ stamp + late → ForSome tap.high (λ h. h ≤ stamp + late)
in_time late tap high stamp same bound = λ h is. subst (λ n. n ≤ stamp + late) (same ∙ ap (λ (known : Option ℕ). unwrap_or known 0) is) bound

pub frame_fits : (network : Network) (q : Position) (m : MergerState) (before after : Option (List ℕ)) (f : Frame) → Fits network q m → TakesFrame q before after f →
    (f.network ≡ network) × CanFetch m f
frame_fits network q m before after f fits t =
    let same : f.network ≡ network = network_of_frame q before after f t ∙ fits.network_is in (
      same,
      subst (λ n. (n ≡ network) → CanFetch m f) refl (λ _. record {
        going = ap (λ n. (tap_of m n).ended) same ∙ fits.going;
        number = ap (λ (g : Frame). g.number) t.same ∙ fits.number ∙ ap (λ n. (tap_of m n).next) (sym same);
        in_time = subst (λ n. IsInTime m.late (tap_of m n) f) (sym same)
            (in_time m.late (tap_of m network) q.high f.stamp fits.high
            (subst (λ l. q.high ≤ f.stamp + l) fits.late (subst (λ s. q.high ≤ s + q.late) (sym (ap (λ (g : Frame). g.stamp) t.same)) t.good.in_time)));
      }) same,
    )

-- ---- and stays so after it

pub high_after : (high stamp : ℕ) (known : Option ℕ) → high ≡ unwrap_or known 0 → max high stamp ≡ highest known stamp
high_after high stamp None e = grind (arith, e)
high_after high stamp (Some h) e = ap (λ n. max n stamp) e

-- the merger with a frame of A more, and of B
fetched_a : (m : MergerState) (f : Frame) → f.network ≡ A → record m { pending = insert_frame f m.pending; a = tap_after f.stamp m.a } ≡ fetched m f
fetched_a m f e = ap (λ (n : Network). record (change_tap (tap_after f.stamp) n m) { pending = insert_frame f m.pending }) (sym e)

fetched_b : (m : MergerState) (f : Frame) → f.network ≡ B → record m { pending = insert_frame f m.pending; b = tap_after f.stamp m.b } ≡ fetched m f
fetched_b m f e = ap (λ (n : Network). record (change_tap (tap_after f.stamp) n m) { pending = insert_frame f m.pending }) (sym e)

pub fits_after : (network : Network) (q : Position) (m : MergerState) (f : Frame) → f.network ≡ network → Fits network q m →
    Fits network (after_frame q f.stamp) (fetched m f)
fits_after A q m f e fits = subst (Fits A (after_frame q f.stamp)) (fetched_a m f e) (record {
  network_is = fits.network_is;
  late = fits.late;
  most = fits.most;
  going = fits.going;
  number = ap (λ n. n + 1) fits.number;
  high = high_after q.high f.stamp m.a.high fits.high;
})
fits_after B q m f e fits = subst (Fits B (after_frame q f.stamp)) (fetched_b m f e) (record {
  network_is = fits.network_is;
  late = fits.late;
  most = fits.most;
  going = fits.going;
  number = ap (λ n. n + 1) fits.number;
  high = high_after q.high f.stamp m.b.high fits.high;
})

-- ---- the other network's reader still agrees

same_b : (end : Option Ending) (q : Position) (m t : MergerState) → t.late ≡ m.late → t.b ≡ m.b → Agrees B end q m → Agrees B end q t
same_b None q m t late same (going, fits) = (
  going,
  record {
    network_is = fits.network_is;
    late = fits.late ∙ sym late;
    most = fits.most;
    going = ap (λ (tap : Tap). tap.ended) same ∙ fits.going;
    number = fits.number ∙ ap (λ (tap : Tap). tap.next) (sym same);
    high = fits.high ∙ ap (λ (tap : Tap). unwrap_or tap.high 0) (sym same);
  },
)
same_b (Some ending) q m t late same (stage, done) = (stage, ap (λ (tap : Tap). tap.ended) same ∙ done)

same_a : (end : Option Ending) (q : Position) (m t : MergerState) → t.late ≡ m.late → t.a ≡ m.a → Agrees A end q m → Agrees A end q t
same_a None q m t late same (going, fits) = (
  going,
  record {
    network_is = fits.network_is;
    late = fits.late ∙ sym late;
    most = fits.most;
    going = ap (λ (tap : Tap). tap.ended) same ∙ fits.going;
    number = fits.number ∙ ap (λ (tap : Tap). tap.next) (sym same);
    high = fits.high ∙ ap (λ (tap : Tap). unwrap_or tap.high 0) (sym same);
  },
)
same_a (Some ending) q m t late same (stage, done) = (stage, ap (λ (tap : Tap). tap.ended) same ∙ done)

pub b_stays_at_fetch : (end : Option Ending) (q : Position) (m : MergerState) (f : Frame) → f.network ≡ A → Agrees B end q m → Agrees B end q (fetched m f)
b_stays_at_fetch end q m f e agrees =
    subst (Agrees B end q) (fetched_a m f e) (same_b end q m (record m { pending = insert_frame f m.pending; a = tap_after f.stamp m.a }) refl refl agrees)

pub a_stays_at_fetch : (end : Option Ending) (q : Position) (m : MergerState) (f : Frame) → f.network ≡ B → Agrees A end q m → Agrees A end q (fetched m f)
a_stays_at_fetch end q m f e agrees =
    subst (Agrees A end q) (fetched_b m f e) (same_a end q m (record m { pending = insert_frame f m.pending; b = tap_after f.stamp m.b }) refl refl agrees)

pub b_stays_at_end : (end : Option Ending) (q : Position) (m : MergerState) → Agrees B end q m → Agrees B end q (ended m A)
b_stays_at_end end q m agrees = same_b end q m (ended m A) refl refl agrees

pub a_stays_at_end : (end : Option Ending) (q : Position) (m : MergerState) → Agrees A end q m → Agrees A end q (ended m B)
a_stays_at_end end q m agrees = same_a end q m (ended m B) refl refl agrees

b_stays_at_all : (fs : List Frame) (old new : Reading) (m m' : MergerState) (end : Option Ending) (q : Position) → MergesAll A fs old new m m' →
    Agrees B end q m → Agrees B end q m'
b_stays_at_all [] old new m m' end q (here, is) agrees = subst (Agrees B end q) (sym is) agrees
b_stays_at_all (f ∷ fs) old new m m' end q (mid, (t, moved, failures, net, can, stays), rest) agrees =
    b_stays_at_all fs mid new (fetched m f) m' end q rest (b_stays_at_fetch end q m f net agrees)

a_stays_at_all : (fs : List Frame) (old new : Reading) (m m' : MergerState) (end : Option Ending) (q : Position) → MergesAll B fs old new m m' →
    Agrees A end q m → Agrees A end q m'
a_stays_at_all [] old new m m' end q (here, is) agrees = subst (Agrees A end q) (sym is) agrees
a_stays_at_all (f ∷ fs) old new m m' end q (mid, (t, moved, failures, net, can, stays), rest) agrees =
    a_stays_at_all fs mid new (fetched m f) m' end q rest (a_stays_at_fetch end q m f net agrees)

pub b_stays : (came : Option Ending) (old new : Reading) (m m' : MergerState) (end : Option Ending) (q : Position) → Merges A came old new m m' →
    Agrees B end q m → Agrees B end q m'
b_stays None old new m m' end q (f, fs, all) agrees = b_stays_at_all (f ∷ fs) old new m m' end q all agrees
b_stays (Some ending) old new m m' end q (ends, moved, is) agrees = subst (Agrees B end q) (sym is) (b_stays_at_end end q m agrees)

pub a_stays : (came : Option Ending) (old new : Reading) (m m' : MergerState) (end : Option Ending) (q : Position) → Merges B came old new m m' →
    Agrees A end q m → Agrees A end q m'
a_stays None old new m m' end q (f, fs, all) agrees = a_stays_at_all (f ∷ fs) old new m m' end q all agrees
a_stays (Some ending) old new m m' end q (ends, moved, is) agrees = subst (Agrees A end q) (sym is) (a_stays_at_end end q m agrees)

pub has_ended : (network : Network) (m : MergerState) → (tap_of (ended m network) network).ended ≡ true
has_ended A m = refl
has_ended B m = refl

-- ---- frames that come together

some_mapped : (block : List ℕ) (records : List FrameRecord) → 0 < length records → 0 < length (map (record_frame block) records)
some_mapped block [] some = absurd (omega (arith, some))
some_mapped block (r ∷ records) some = omega arith

pub has_frames : (b : BatchState) → 0 < length b.left → 0 < length (batch_frames b)
has_frames b some = some_mapped b.block b.left some

first_of : (fs : List Frame) → 0 < length fs → (f : Frame) × (gs : List Frame) × (fs ≡ f ∷ gs)
first_of [] some = absurd (omega (arith, some))
first_of (f ∷ fs) some = (f, fs, refl)

all_fit : (network : Network) (fs : List Frame) (old new : Reading) (m : MergerState) → old.position.stage ≡ Going → Fits network old.position m →
    GivesFrames old fs new → MergesAll network fs old new m (fetched_all m fs) × CanFetchAll network m fs
    × Agrees network None new.position (fetched_all m fs) × (new.failures ≡ old.failures)
all_fit network [] old new m going fits same = (
  (sym same, refl),
  record {},
  subst (λ (r : Reading). Agrees network None r.position m) same (going, fits),
  ap (λ (r : Reading). r.failures) (sym same),
)
all_fit network (f ∷ fs) old new m going fits (mid, step, rest) =
    let t : TakesFrame old.position old.remaining mid.remaining f = step.item going in
    let fit = frame_fits network old.position m old.remaining mid.remaining f fits t in
    let moved : mid.position ≡ after_frame old.position f.stamp = step.after in
    let next = all_fit network fs mid new (fetched m f) (ap (λ (q : Position). q.stage) moved ∙ going)
    (subst (λ (q : Position). Fits network q (fetched m f)) (sym moved) (fits_after network old.position m f fit.0 fits)) rest in (
      (mid, (t, moved, step.no_failure, fit.0, fit.1, step.told), next.0),
      (fit.0, fit.1, next.1),
      next.2,
      next.3 ∙ step.no_failure,
    )

pub batch_fits : (network : Network) (fs : List Frame) (old new : Reading) (m : MergerState) → old.position.stage ≡ Going → Fits network old.position m →
    GivesFrames old fs new → CanFetchAll network m fs × Agrees network None new.position (fetched_all m fs) × (new.failures ≡ old.failures)
batch_fits network fs old new m going fits gives =
    let (merges, can, agrees, failures) = all_fit network fs old new m going fits gives in
    (can, agrees, failures)

pub batch_merges : (network : Network) (fs : List Frame) (old new : Reading) (m : MergerState) → old.position.stage ≡ Going → Fits network old.position m →
    GivesFrames old fs new → 0 < length fs → Merges network None old new m (fetched_all m fs)
batch_merges network fs old new m going fits gives some =
    let (f, gs, is) = first_of fs some in
    (f, gs, subst (λ (l : List Frame). MergesAll network l old new m (fetched_all m fs)) is (all_fit network fs old new m going fits gives).0)

-- ---- a network that is wanted goes on

pub goes_on : (network : Network) (end : Option Ending) (q : Position) (m : MergerState) → Agrees network end q m → (tap_of m network).ended ≡ false →
    (end ≡ None) × (q.stage ≡ Going) × Fits network q m
goes_on network None q m (going, fits) on = (refl, going, fits)
goes_on network (Some ending) q m (stage, done) on = absurd (false≢true (sym on ∙ done))

pub is_ended : (network : Network) (end : Option Ending) (q : Position) (m : MergerState) → Agrees network end q m → (tap_of m network).ended ≡ true →
    is_some end ≡ true
is_ended network None q m (going, fits) off = absurd (false≢true (sym fits.going ∙ off))
is_ended network (Some ending) q m agrees off = refl

-- ---- all that was read, with one item more

pub read_frame : (network : Network) (late : ℕ) (before : SourceView) (frames : List Frame) (old new : Reading) (f : Frame) → old.position.most ≡ most_frames →
    HasRead network late before frames None old → TakesFrame old.position old.remaining new.remaining f → new.position ≡ after_frame old.position f.stamp →
    new.failures ≡ old.failures → StaysTold old.remaining old.told new.told → HasRead network late before (frames ++ f ∷ []) None new
read_frame network late before frames old new f most read t moved same stays =
    let start : Position = start_at network read.read.layout most_frames late in
    let known = known_after start read.position before.told before.remaining read.read.opened read.left read.read.layout frames read.read.opens read.read.reads in
    let still : StaysTold read.left read.told new.told =
    subst (λ (v : Told). StaysTold read.left v new.told) read.stands.2 (subst (λ (l : Option (List ℕ)). StaysTold l old.told new.told) read.stands.1 stays) in
    let taken : TakesFrame read.position read.left new.remaining f =
    subst (λ (q : Position). TakesFrame q read.left new.remaining f) read.stands.0 (subst (λ (l : Option (List ℕ)). TakesFrame old.position l new.remaining f) read.stands.1 t) in
    let at : old.position.count ≡ read.position.count = ap (λ (q : Position). q.count) read.stands.0 in
    record {
      position = after_frame read.position f.stamp;
      left = new.remaining;
      told = new.told;
      tells = tells_on before.remaining read.left before.told read.told new.told known read.tells still;
      read = record {
        layout = read.read.layout;
        opened = read.read.opened;
        opens = read.read.opens;
        reads = reads_more (start_at network read.read.layout most_frames late) read.position read.read.opened read.left new.remaining frames f read.read.reads taken;
        bounded = one_more old.position.count read.position.count old.position.most most at t.bounded;
      };
      stands = (moved ∙ ap (λ (q : Position). after_frame q f.stamp) read.stands.0, refl, refl);
      failures = same ∙ read.failures;
    }
  where
    one_more : (n m most : ℕ) → most ≡ most_frames → n ≡ m → n < most → m + 1 ≤ most_frames
    one_more n m most e is less = omega (arith, subst (λ k. k < most) is less, e)

pub read_end : (network : Network) (late : ℕ) (before : SourceView) (frames : List Frame) (old new : Reading) (ending : Ending) →
    HasRead network late before frames None old → Ends old.position old.told old.remaining new.remaining ending →
    new.failures ≡ old.failures → HasRead network late before frames (Some ending) new
read_end network late before frames old new ending read ends same = record {
  position = read.position;
  left = read.left;
  told = read.told;
  tells = read.tells;
  read = read.read;
  stands = subst (λ (q : Position). Ends q read.told read.left new.remaining ending) read.stands.0
      (subst (λ (v : Told). Ends old.position v read.left new.remaining ending) read.stands.2
      (subst (λ (l : Option (List ℕ)). Ends old.position old.told l new.remaining ending) read.stands.1 ends));
  failures = same ∙ read.failures;
}

-- frames read up to an ending are the recording
pub read_whole : (network : Network) (late : ℕ) (before : SourceView) (frames : List Frame) (ending : Ending) (reading : Reading) →
    HasRead network late before frames (Some ending) reading → IfSome before.remaining (λ bytes. IsRecording network late before.told bytes frames ending)
read_whole network late before frames ending reading read =
    complete network late before.told read.told before.remaining read.read.opened read.left read.read.layout frames read.position ending read.read.opens read.read.reads read.tells read.stands.here

none_gone : (a b : Option (List ℕ)) → a ≡ b → TakesAPacket a b
none_gone a b e = subst (TakesAPacket a) e ([], grind arith, Consumes-nil a)

pub part_of : (network : Network) (late : ℕ) (before : SourceView) (frames : List Frame) (end : Option Ending) (reading : Reading) →
    HasRead network late before frames end reading → ReadsPart network late before frames reading
part_of network late before frames None reading read = record {
  position = read.position;
  left = read.left;
  read = read.read;
  gone = none_gone read.left reading.remaining (sym read.stands.1);
}
part_of network late before frames (Some ending) reading read = record {
  position = read.position;
  left = read.left;
  read = read.read;
  gone = read.stands.gone;
}

-- a call took at most a packet, and gave no frame
pub part_stopped : (network : Network) (late : ℕ) (before : SourceView) (frames : List Frame) (old new : Reading) →
    HasRead network late before frames None old → TakesAPacket old.remaining new.remaining → ReadsPart network late before frames new
part_stopped network late before frames old new read gone = record {
  position = read.position;
  left = read.left;
  read = read.read;
  gone = subst (λ (l : Option (List ℕ)). TakesAPacket l new.remaining) read.stands.1 gone;
}

-- ---- the work that is left

insert_length : (f : Frame) (l : List Frame) → length (insert_frame f l) ≡ suc (length l)
insert_length f [] = refl
insert_length f (g ∷ l) = both (is_before f g) (insert_length f l)
  where
    both : (b : Bool) → length (insert_frame f l) ≡ suc (length l) → length (cond b (f ∷ g ∷ l) (g ∷ insert_frame f l)) ≡ suc (suc (length l))
    both true rest = refl
    both false rest = ap suc rest

pub fetched_length : (m : MergerState) (f : Frame) → length (fetched m f).pending ≡ length m.pending + 1
fetched_length m f = insert_length f m.pending ∙ plus_one (length m.pending)
  where
    plus_one : (n : ℕ) → suc n ≡ n + 1
    plus_one n = omega arith

turn_less : (most n n' k k' other : ℕ) → n < most → n' ≡ n + 1 → k' ≡ k + 1 →
    ((most - n' + 1 + other) * 2 + k' < (most - n + 1 + other) * 2 + k) × ((other + (most - n' + 1)) * 2 + k' < (other + (most - n + 1)) * 2 + k)
turn_less most n n' k k' other less e is = (omega arith, omega arith)

last_less : (most n k k' other : ℕ) → k' ≡ k →
    ((0 + other) * 2 + k' < (most - n + 1 + other) * 2 + k) × ((other + 0) * 2 + k' < (other + (most - n + 1)) * 2 + k)
last_less most n k k' other is = (omega arith, omega arith)

ended_length : (m : MergerState) (network : Network) → length (ended m network).pending ≡ length m.pending
ended_length m A = refl
ended_length m B = refl

same_most : (q q' : Position) (stamp : ℕ) → q' ≡ after_frame q stamp → q.most ≡ most_frames → q'.most ≡ most_frames
same_most q q' stamp moved most = ap (λ (p : Position). p.most) moved ∙ most

frame_less : (network : Network) (f : Frame) (old mid : Reading) (m : MergerState) (other : ℕ) → old.position.most ≡ most_frames → MergesFrame network f old mid m →
    ((turns_of None mid.position + other) * 2 + length (fetched m f).pending < (turns_of None old.position + other) * 2 + length m.pending)
    × ((other + turns_of None mid.position) * 2 + length (fetched m f).pending < (other + turns_of None old.position) * 2 + length m.pending)
frame_less network f old mid m other most (t, moved, failures, net, can, stays) =
    turn_less most_frames old.position.count mid.position.count (length m.pending) (length (fetched m f).pending) other
    (subst (λ n. old.position.count < n) most t.bounded) (ap (λ (q : Position). q.count) moved) (fetched_length m f)

all_less : (network : Network) (fs : List Frame) (old new : Reading) (m m' : MergerState) (other : ℕ) → old.position.most ≡ most_frames →
    MergesAll network fs old new m m' →
    ((turns_of None new.position + other) * 2 + length m'.pending ≤ (turns_of None old.position + other) * 2 + length m.pending)
    × ((other + turns_of None new.position) * 2 + length m'.pending ≤ (other + turns_of None old.position) * 2 + length m.pending)
all_less network [] old new m m' other most (here, is) = rw (here, is) (omega arith, omega arith)
all_less network (f ∷ fs) old new m m' other most (mid, step, rest) =
    let first = frame_less network f old mid m other most step in
    let more = all_less network fs mid new (fetched m f) m' other (same_most old.position mid.position f.stamp step.1 most) rest in
    (omega (arith, first.0, more.0), omega (arith, first.1, more.1))

-- less work is left after what came next, whether the tap's turns stand before the other's or after them
pub less_work : (network : Network) (end : Option Ending) (old new : Reading) (m m' : MergerState) (other : ℕ) → old.position.most ≡ most_frames →
    Merges network end old new m m' →
    ((turns_of end new.position + other) * 2 + length m'.pending < (turns_of None old.position + other) * 2 + length m.pending)
    × ((other + turns_of end new.position) * 2 + length m'.pending < (other + turns_of None old.position) * 2 + length m.pending)
less_work network None old new m m' other most (f, fs, (mid, step, rest)) =
    let first = frame_less network f old mid m other most step in
    let more = all_less network fs mid new (fetched m f) m' other (same_most old.position mid.position f.stamp step.1 most) rest in
    (omega (arith, first.0, more.0), omega (arith, first.1, more.1))
less_work network (Some ending) old new m m' other most (ends, moved, is) =
    last_less most_frames old.position.count (length m.pending) (length m'.pending) other (ap (λ (s : MergerState). length s.pending) is ∙ ended_length m network)

-- ---- the next of a tap is merged

all_a : (fs : List Frame) (late : ℕ) (before : SourceView) (fa fb cut : List Frame) (old new : Reading) (m m' : MergerState) → old.position.most ≡ most_frames →
    HasRead A late before fa None old → Follows m fa fb cut → MergesAll A fs old new m m' →
    (more : List Frame) × HasRead A late before more None new × Follows m' more fb cut
all_a [] late before fa fb cut old new m m' most read fol (here, is) =
    (fa, subst (HasRead A late before fa None) (sym here) read, subst (λ (s : MergerState). Follows s fa fb cut) (sym is) fol)
all_a (f ∷ fs) late before fa fb cut old new m m' most read fol (mid, (t, moved, failures, net, can, stays), rest) =
    all_a fs late before (fa ++ f ∷ []) fb cut mid new (fetched m f) m' (same_most old.position mid.position f.stamp moved most)
    (read_frame A late before fa old mid f most read t moved failures stays) (follows_fetch_a m fa fb cut f fol can net) rest

all_b : (fs : List Frame) (late : ℕ) (before : SourceView) (fa fb cut : List Frame) (old new : Reading) (m m' : MergerState) → old.position.most ≡ most_frames →
    HasRead B late before fb None old → Follows m fa fb cut → MergesAll B fs old new m m' →
    (more : List Frame) × HasRead B late before more None new × Follows m' fa more cut
all_b [] late before fa fb cut old new m m' most read fol (here, is) =
    (fb, subst (HasRead B late before fb None) (sym here) read, subst (λ (s : MergerState). Follows s fa fb cut) (sym is) fol)
all_b (f ∷ fs) late before fa fb cut old new m m' most read fol (mid, (t, moved, failures, net, can, stays), rest) =
    all_b fs late before fa (fb ++ f ∷ []) cut mid new (fetched m f) m' (same_most old.position mid.position f.stamp moved most)
    (read_frame B late before fb old mid f most read t moved failures stays) (follows_fetch_b m fa fb cut f fol can net) rest

pub merged_a : (end : Option Ending) (late : ℕ) (before : SourceView) (fa fb cut : List Frame) (old new : Reading) (m m' : MergerState) → old.position.most ≡ most_frames →
    HasRead A late before fa None old → Follows m fa fb cut → Merges A end old new m m' → new.failures ≡ old.failures →
    (more : List Frame) × HasRead A late before more end new × Follows m' more fb cut
merged_a None late before fa fb cut old new m m' most read fol (f, fs, all) failures =
    all_a (f ∷ fs) late before fa fb cut old new m m' most read fol all
merged_a (Some ending) late before fa fb cut old new m m' most read fol (ends, moved, is) failures = (
  fa,
  read_end A late before fa old new ending read ends failures,
  subst (λ (s : MergerState). Follows s fa fb cut) (sym is) (follows_end m fa fb cut A fol),
)

pub merged_b : (end : Option Ending) (late : ℕ) (before : SourceView) (fa fb cut : List Frame) (old new : Reading) (m m' : MergerState) → old.position.most ≡ most_frames →
    HasRead B late before fb None old → Follows m fa fb cut → Merges B end old new m m' → new.failures ≡ old.failures →
    (more : List Frame) × HasRead B late before more end new × Follows m' fa more cut
merged_b None late before fa fb cut old new m m' most read fol (f, fs, all) failures =
    all_b (f ∷ fs) late before fa fb cut old new m m' most read fol all
merged_b (Some ending) late before fa fb cut old new m m' most read fol (ends, moved, is) failures = (
  fb,
  read_end B late before fb old new ending read ends failures,
  subst (λ (s : MergerState). Follows s fa fb cut) (sym is) (follows_end m fa fb cut B fol),
)

-- ---- the next of a tap isn't merged

counted_from : (a b c : ℕ) → b ≡ a → CountsFailure b c → CountsFailure a c
counted_from a b c same counts = subst (λ n. CountsFailure n c) same counts

pub stops_a : (fault : WatchFault) (late : ℕ) (a b : SourceView) (fa fb cut : List Frame) (end_b : Option Ending) (old new other : Reading) (m : MergerState) →
    old.position.most ≡ most_frames → HasRead A late a fa None old → HasRead B late b fb end_b other → Follows m fa fb cut → MergesNot A fault old new m →
    (more : List Frame) × (rest : List Frame) × IsOrder more fb (cut ++ rest) × ReadsPart A late a more new × ReadsPart B late b fb other
    × SourceFails fault a.failures new.failures b.failures other.failures
stops_a (watch.Read A) late a b fa fb cut end_b old new other m most read_a read_b fol (is, counts, gone) = (
  fa,
  m.pending,
  fol.order,
  part_stopped A late a fa old new read_a gone,
  part_of B late b fb end_b other read_b,
  (counted_from a.failures old.failures new.failures read_a.failures counts, read_b.failures),
)
stops_a (watch.Read B) late a b fa fb cut end_b old new other m most read_a read_b fol (is, counts, gone) = (let wrong : ⊥ = cc is in absurd wrong)
stops_a watch.Memory late a b fa fb cut end_b old new other m most read_a read_b fol (same, inl gone) =
    (fa, m.pending, fol.order, part_stopped A late a fa old new read_a gone, part_of B late b fb end_b other read_b, (same ∙ read_a.failures, read_b.failures))
stops_a watch.Memory late a b fa fb cut end_b old new other m most read_a read_b fol (same, inr (m', (f, fs, all))) =
    let (more, read, follows) = all_a (f ∷ fs) late a fa fb cut old new m m' most read_a fol all in
    (more, m'.pending, follows.order, part_of A late a more None new read, part_of B late b fb end_b other read_b, (same ∙ read_a.failures, read_b.failures))
stops_a watch.Workers late a b fa fb cut end_b old new other m most read_a read_b fol h = absurd h
stops_a (watch.Header network fault) late a b fa fb cut end_b old new other m most read_a read_b fol h = absurd h
stops_a (watch.Write out) late a b fa fb cut end_b old new other m most read_a read_b fol h = absurd h
stops_a watch.Spawn late a b fa fb cut end_b old new other m most read_a read_b fol h = absurd h
stops_a watch.RingLost late a b fa fb cut end_b old new other m most read_a read_b fol h = absurd h
stops_a watch.Filters late a b fa fb cut end_b old new other m most read_a read_b fol h = absurd h

pub stops_b : (fault : WatchFault) (late : ℕ) (a b : SourceView) (fa fb cut : List Frame) (end_a : Option Ending) (old new other : Reading) (m : MergerState) →
    old.position.most ≡ most_frames → HasRead B late b fb None old → HasRead A late a fa end_a other → Follows m fa fb cut → MergesNot B fault old new m →
    (more : List Frame) × (rest : List Frame) × IsOrder fa more (cut ++ rest) × ReadsPart A late a fa other × ReadsPart B late b more new
    × SourceFails fault a.failures other.failures b.failures new.failures
stops_b (watch.Read B) late a b fa fb cut end_a old new other m most read_b read_a fol (is, counts, gone) = (
  fb,
  m.pending,
  fol.order,
  part_of A late a fa end_a other read_a,
  part_stopped B late b fb old new read_b gone,
  (read_a.failures, counted_from b.failures old.failures new.failures read_b.failures counts),
)
stops_b (watch.Read A) late a b fa fb cut end_a old new other m most read_b read_a fol (is, counts, gone) = (let wrong : ⊥ = cc is in absurd wrong)
stops_b watch.Memory late a b fa fb cut end_a old new other m most read_b read_a fol (same, inl gone) =
    (fb, m.pending, fol.order, part_of A late a fa end_a other read_a, part_stopped B late b fb old new read_b gone, (read_a.failures, same ∙ read_b.failures))
stops_b watch.Memory late a b fa fb cut end_a old new other m most read_b read_a fol (same, inr (m', (f, fs, all))) =
    let (more, read, follows) = all_b (f ∷ fs) late b fa fb cut old new m m' most read_b fol all in
    (more, m'.pending, follows.order, part_of A late a fa end_a other read_a, part_of B late b more None new read, (read_a.failures, same ∙ read_b.failures))
stops_b watch.Workers late a b fa fb cut end_a old new other m most read_b read_a fol h = absurd h
stops_b (watch.Header network fault) late a b fa fb cut end_a old new other m most read_b read_a fol h = absurd h
stops_b (watch.Write out) late a b fa fb cut end_a old new other m most read_b read_a fol h = absurd h
stops_b watch.Spawn late a b fa fb cut end_a old new other m most read_b read_a fol h = absurd h
stops_b watch.RingLost late a b fa fb cut end_a old new other m most read_b read_a fol h = absurd h
stops_b watch.Filters late a b fa fb cut end_a old new other m most read_b read_a fol h = absurd h

-- ---- a round is cut

pub b_stays_at_cut : (end : Option Ending) (q : Position) (m : MergerState) (most : ℕ) → Agrees B end q m → Agrees B end q (after_cut m most)
b_stays_at_cut end q m most agrees = same_b end q m (after_cut m most) refl refl agrees

pub a_stays_at_cut : (end : Option Ending) (q : Position) (m : MergerState) (most : ℕ) → Agrees A end q m → Agrees A end q (after_cut m most)
a_stays_at_cut end q m most agrees = same_a end q m (after_cut m most) refl refl agrees

pub has_met : (network : Network) (end : Option Ending) (q : Position) (m : MergerState) → Agrees network end q m → is_some end ≡ true → (tap_of m network).ended ≡ true
has_met network None q m agrees some = absurd (false≢true some)
has_met network (Some ending) q m (stage, done) some = done

take_none : (n : ℕ) (l : List Frame) → take (suc n) l ≡ [] → l ≡ []
take_none n [] e = refl
take_none n (f ∷ l) e = (let wrong : ⊥ = cc e in absurd wrong)

none_taken : (l : List Frame) → (length (take 1 l) ≡ 1 → ⊥) → l ≡ []
none_taken [] not = refl
none_taken (f ∷ l) not = absurd (not refl)

some_taken : (n : ℕ) (l : List Frame) → 0 < n → length (take 1 l) ≡ 1 → 0 < length (take n l)
some_taken zero l less one = absurd (omega (arith, less))
some_taken (suc n) [] less one = absurd (omega (arith, one))
some_taken (suc n) (f ∷ l) less one = omega arith

-- where both have ended, an empty cut leaves nothing
pub all_cut : (m : MergerState) (most : ℕ) → 0 < most → m.a.ended ≡ true → m.b.ended ≡ true → cut_frames m most ≡ [] → m.pending ≡ []
all_cut m zero less a b none = absurd (omega (arith, less))
all_cut m (suc most) less a b none = take_none most m.pending (ap (take (suc most)) (sym (ended_is_safe m a b)) ∙ none)

-- where both have ended and none is safe, none is left
pub none_left : (m : MergerState) → m.a.ended ≡ true → m.b.ended ≡ true → (length (cut_frames m 1) ≡ 1 → ⊥) → m.pending ≡ []
none_left m a b not = sym (ended_is_safe m a b) ∙ none_taken (safe_frames m) not

-- where one is safe, a cut has some
pub some_cut : (m : MergerState) (most : ℕ) → 0 < most → length (cut_frames m 1) ≡ 1 → 0 < length (cut_frames m most)
some_cut m most less one = some_taken most (safe_frames m) less one

-- where no frame was cut, none was safe, and none is
pub none_safe : (m : MergerState) (most : ℕ) → 0 < most → cut_frames m most ≡ [] → safe_frames (after_cut m most) ≡ []
none_safe m zero less none = absurd (omega (arith, less))
none_safe m (suc most) less none =
    subst (λ (n : ℕ). safe_frames (without_first n m) ≡ []) (sym (ap length none)) (take_none most (safe_frames m) none)
