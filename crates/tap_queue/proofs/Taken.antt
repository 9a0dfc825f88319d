-- An item after those that were taken, by the count of their frames and their greatest stamp.
use Rattle.std.proofs.Common.{◌≡◌, ◌⊎◌, ℕ, ◌+◌, ◌≤◌, max, true, false, List, [], ◌∷◌, ◌++◌, length, refl, sym, ap, ◌∙◌, subst, inl, inr, arith, append_assoc, append-nil}
use Rattle.std.proofs.lemmas.List.{length-append}
use Rattle.std.specs.List.{AllByRecursion}
use Rattle.afdx_frame.specs.Frame.{Frame}
use Rattle.afdx_frame.specs.declared.key.Network.{Network}
use Rattle.pcap_io.specs.declared.recording.Ending.{Ending}
use Rattle.pcap_io.specs.declared.item.ReadFault.{ReadFault}
use Rattle.tap_queue.specs.Items.{AreNextFrames, Follows, IsNextFrame, frame_items, IsNextItem, frames_in, high_of, is_last, is_over, items_of}
use Rattle.tap_queue.specs.Passing.{PassesAll}
use Rattle.tap_queue.specs.declared.next_frame.NextFrame.{NextFrame}
use Rattle.tap_queue.specs.declared.item.TapItem.{TapItem}
use Rattle.tap_queue.specs.declared.item.TapBatch.{TapBatch}
use Rattle.tap_queue.specs.declared.item.TapBatch.TheVariants as batches
use Rattle.frame_batch.specs.Batch.{BatchState, batch_frames}
use Rattle.tap_queue.specs.Batches.{AreNextItems}
use Rattle.tap_queue.specs.declared.item.TapItem.TheVariants.{Frame as frame, End, Failed}

-- ---- the greatest stamp

pub each_below_high : (n : ℕ) (frames : List Frame) → high_of frames ≤ n → AllByRecursion (λ (g : Frame). g.stamp ≤ n) frames
each_below_high n [] h = tt
each_below_high n (g ∷ frames) h = (omega arith, each_below_high n frames (omega arith))

pub high_below_each : (n : ℕ) (frames : List Frame) → AllByRecursion (λ (g : Frame). g.stamp ≤ n) frames → high_of frames ≤ n
high_below_each n [] h = omega arith
high_below_each n (g ∷ frames) h = let rest = high_below_each n frames h.1 in let first = h.0 in omega arith

pub high_of_more : (frames : List Frame) (f : Frame) → high_of (frames ++ f ∷ []) ≡ max (high_of frames) f.stamp
high_of_more [] f = omega arith
high_of_more (g ∷ frames) f = let rest = high_of_more frames f in omega arith

-- ---- the frames among items

pub frames_more : (items : List TapItem) (f : Frame) → frames_in (items ++ frame f ∷ []) ≡ frames_in items ++ f ∷ []
frames_more [] f = refl
frames_more (frame g ∷ items) f = ap (λ (fs : List Frame). g ∷ fs) (frames_more items f)
frames_more (End e ∷ items) f = frames_more items f
frames_more (Failed fault ∷ items) f = frames_more items f

pub count_more : (items : List TapItem) (f : Frame) → length (frames_in (items ++ frame f ∷ [])) ≡ length (frames_in items) + 1
count_more items f = let all = ap length (frames_more items f) in omega (arith, all, length-append (frames_in items) (f ∷ []))

pub high_with : (items : List TapItem) (f : Frame) → high_of (frames_in (items ++ frame f ∷ [])) ≡ max (high_of (frames_in items)) f.stamp
high_with items f = ap high_of (frames_more items f) ∙ high_of_more (frames_in items) f

-- ---- the last item

pub last_from : (item : TapItem) → ((e : Ending) × item ≡ End e) ⊎ ((fault : ReadFault) × item ≡ Failed fault) → is_last item ≡ true
last_from item is = elim is [ inl e ↦ ap is_last e.1 | inr fault ↦ ap is_last fault.1 ]

pub frames_last : (items : List TapItem) (item : TapItem) → is_last item ≡ true → frames_in (items ++ item ∷ []) ≡ frames_in items
frames_last [] (frame f) last = cc
frames_last [] (End e) last = refl
frames_last [] (Failed fault) last = refl
frames_last (frame g ∷ items) item last = ap (λ (fs : List Frame). g ∷ fs) (frames_last items item last)
frames_last (End e ∷ items) item last = frames_last items item last
frames_last (Failed fault ∷ items) item last = frames_last items item last

pub last_follows : (network : Network) (late : ℕ) (items : List TapItem) (item : TapItem) → is_last item ≡ true → is_over items ≡ false
    → IsNextItem network late items item
last_follows network late items (frame f) last going = cc
last_follows network late items (End e) last going = going
last_follows network late items (Failed fault) last going = going

-- ---- the next frame

pub next_from_follows : (network : Network) (late number high : ℕ) (frames : List Frame) (f : Frame) → number ≡ length frames → high ≡ high_of frames
    → Follows network late number high f → IsNextFrame network late frames f
next_from_follows network late number high frames f counted highest follows = record {
  network_is = follows.network_is;
  number = follows.number_is ∙ counted;
  in_time = each_below_high (f.stamp + late) frames (let in_time = follows.in_time in omega arith);
}

pub follows_from_next : (network : Network) (late number high : ℕ) (frames : List Frame) (f : Frame) → number ≡ length frames → high ≡ high_of frames
    → IsNextFrame network late frames f → Follows network late number high f
follows_from_next network late number high frames f counted highest next = record {
  network_is = next.network_is;
  number_is = (let n = next.number in omega arith);
  in_time = (let h = high_below_each (f.stamp + late) frames next.in_time in omega arith);
}

pub frame_follows : (network : Network) (late number high : ℕ) (items : List TapItem) (f : Frame) (item : TapItem) → item ≡ frame f → is_over items ≡ false
    → number ≡ length (frames_in items) → high ≡ high_of (frames_in items) → Follows network late number high f → IsNextItem network late items item
frame_follows network late number high items f item same going counted highest follows =
    subst (IsNextItem network late items) (sym same) (going, next_from_follows network late number high (frames_in items) f counted highest follows)

pub frame_refused : (network : Network) (late number high : ℕ) (items : List TapItem) (f : Frame) (item : TapItem) → item ≡ frame f
    → number ≡ length (frames_in items) → high ≡ high_of (frames_in items) → ¬ Follows network late number high f → ¬ IsNextItem network late items item
frame_refused network late number high items f item same counted highest refused next =
    refused (follows_from_next network late number high (frames_in items) f counted highest (subst (IsNextItem network late items) same next).1)

-- ---- frames one after another

pub are_next_more : (network : Network) (late : ℕ) (before xs : List Frame) (f : Frame) → AreNextFrames network late before xs → IsNextFrame network late (before ++ xs) f
    → AreNextFrames network late before (xs ++ f ∷ [])
are_next_more network late before [] f are next = (subst (λ (l : List Frame). IsNextFrame network late l f) (append-nil before) next, tt)
are_next_more network late before (g ∷ xs) f are next = (
  are.0,
  are_next_more network late (before ++ g ∷ []) xs f are.1 (subst (λ (l : List Frame). IsNextFrame network late l f) (sym (append_assoc before (g ∷ []) xs)) next),
)

pub high_of_both : (xs ys : List Frame) (f : Frame) → high_of (xs ++ (ys ++ f ∷ [])) ≡ max (high_of (xs ++ ys)) f.stamp
high_of_both xs ys f = ap high_of (sym (append_assoc xs ys (f ∷ []))) ∙ high_of_more (xs ++ ys) f

pub passes_none : (before : List Frame) (n : NextFrame) → n.number ≡ length before → n.high ≡ high_of before → PassesAll before [] n n
passes_none before n counted highest = record {
  next = tt;
  number = counted ∙ ap length (sym (append-nil before));
  high = highest ∙ ap high_of (sym (append-nil before));
  network_is = refl;
  late_is = refl;
}

pub passes_more : (before xs ys : List Frame) (f : Frame) (old mid new : NextFrame) → ys ≡ xs ++ f ∷ [] → PassesAll before xs old mid
    → Follows mid.network mid.late mid.number mid.high f → new ≡ record mid { number = mid.number + 1; high = max mid.high f.stamp } → PassesAll before ys old new
passes_more before xs ys f old mid new more passes follows is =
    let next : IsNextFrame old.network old.late (before ++ xs) f =
    subst (λ (n : Network). IsNextFrame n old.late (before ++ xs) f) passes.network_is
    (subst (λ (late : ℕ). IsNextFrame mid.network late (before ++ xs) f) passes.late_is
    (next_from_follows mid.network mid.late mid.number mid.high (before ++ xs) f passes.number passes.high follows)) in
    let counted : length (before ++ (xs ++ f ∷ [])) ≡ length (before ++ xs) + 1 =
    (let a = length-append before (xs ++ f ∷ []) in let b = length-append xs (f ∷ []) in let d = length-append before xs in omega arith) in
    record {
      next = subst (AreNextFrames old.network old.late before) (sym more) (are_next_more old.network old.late before xs f passes.next next);
      number = ap (λ (n : NextFrame). n.number) is ∙ ap (λ (k : ℕ). k + 1) passes.number ∙ sym counted ∙ ap (λ (l : List Frame). length (before ++ l)) (sym more);
      high = ap (λ (n : NextFrame). n.high) is ∙ ap (λ (k : ℕ). max k f.stamp) passes.high ∙ sym (high_of_both before xs f)
          ∙ ap (λ (l : List Frame). high_of (before ++ l)) (sym more);
      network_is = ap (λ (n : NextFrame). n.network) is ∙ passes.network_is;
      late_is = ap (λ (n : NextFrame). n.late) is ∙ passes.late_is;
    }

-- of frames that follow those before one another, each is the next
next_of_all : (network : Network) (late : ℕ) (before xs ys : List Frame) (f : Frame) → AreNextFrames network late before (xs ++ f ∷ ys)
    → IsNextFrame network late (before ++ xs) f
next_of_all network late before [] ys f are = subst (λ (l : List Frame). IsNextFrame network late l f) (sym (append-nil before)) are.0
next_of_all network late before (g ∷ xs) ys f are =
    subst (λ (l : List Frame). IsNextFrame network late l f) (append_assoc before (g ∷ []) xs) (next_of_all network late (before ++ g ∷ []) xs ys f are.1)

pub refuses_all : (before all xs ys : List Frame) (f : Frame) (old mid : NextFrame) → all ≡ xs ++ f ∷ ys → PassesAll before xs old mid
    → ¬ Follows mid.network mid.late mid.number mid.high f → ¬ AreNextFrames old.network old.late before all
refuses_all before all xs ys f old mid split passes refused are =
    let next = next_of_all old.network old.late before xs ys f (subst (AreNextFrames old.network old.late before) split are) in
    let same : IsNextFrame mid.network mid.late (before ++ xs) f =
    subst (λ (n : Network). IsNextFrame n mid.late (before ++ xs) f) (sym passes.network_is)
    (subst (λ (late : ℕ). IsNextFrame old.network late (before ++ xs) f) (sym passes.late_is) next) in
    refused (follows_from_next mid.network mid.late mid.number mid.high (before ++ xs) f passes.number passes.high same)

pub frames_all : (items : List TapItem) (fs : List Frame) → frames_in (items ++ frame_items fs) ≡ frames_in items ++ fs
frames_all [] [] = refl
frames_all [] (f ∷ fs) = ap (λ (l : List Frame). f ∷ l) (frames_all [] fs)
frames_all (frame g ∷ items) fs = ap (λ (l : List Frame). g ∷ l) (frames_all items fs)
frames_all (End e ∷ items) fs = frames_all items fs
frames_all (Failed fault ∷ items) fs = frames_all items fs

-- ---- all that was given together

pub frames_follow : (network : Network) (late : ℕ) (before : List TapItem) (taken : TapBatch) (batch : BatchState) → taken ≡ batches.Frames batch → is_over before ≡ false
    → AreNextFrames network late (frames_in before) (batch_frames batch) → AreNextItems network late before taken
frames_follow network late before taken batch is going next = subst (AreNextItems network late before) (sym is) (going, next)

pub frames_refused : (network : Network) (late : ℕ) (before : List TapItem) (taken : TapBatch) (batch : BatchState) → taken ≡ batches.Frames batch
    → ¬ AreNextFrames network late (frames_in before) (batch_frames batch) → ¬ AreNextItems network late before taken
frames_refused network late before taken batch is refused next = refused (subst (AreNextItems network late before) is next).1

-- an ending or a fault
abbrev pub IsLastOf : TapBatch → Type 0
IsLastOf taken = ((e : Ending) × taken ≡ batches.End e) ⊎ ((fault : ReadFault) × taken ≡ batches.Failed fault)

pub last_items : (taken : TapBatch) → IsLastOf taken → (item : TapItem) × (items_of taken ≡ item ∷ []) × (is_last item ≡ true)
last_items taken is = elim is [
  | inl e ↦ (End e.0, ap items_of e.1, refl)
  | inr fault ↦ (Failed fault.0, ap items_of fault.1, refl)
]

pub last_of_follows : (network : Network) (late : ℕ) (before : List TapItem) (taken : TapBatch) → IsLastOf taken → is_over before ≡ false → AreNextItems network late before taken
last_of_follows network late before taken is going = elim is [
  | inl e ↦ subst (AreNextItems network late before) (sym e.1) going
  | inr fault ↦ subst (AreNextItems network late before) (sym fault.1) going
]
