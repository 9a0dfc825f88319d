-- The items of a recording: what a reader gives, call by call, up to its ending or a fault (this project's profile).
use Rattle.std.specs.Prelude.{◌≡◌, ◌⊎◌, ℕ, ◌+◌, ◌≤◌, max, Bool, true, false, List, [], ◌∷◌, ◌++◌, length, Result, Ok, Err, if◌then◌else◌, ⊤}
use Rattle.std.specs.List.{AllByRecursion}
use Rattle.afdx_frame.specs.Frame.{Frame}
use Rattle.afdx_frame.specs.declared.key.Network.{Network}
use Rattle.frame_batch.specs.Batch.{batch_frames}
use Rattle.pcap_io.specs.Position.{Advances, Reading}
use Rattle.pcap_io.specs.declared.item.Batched.{Batched}
use Rattle.pcap_io.specs.declared.item.Batched.TheVariants as given
use Rattle.pcap_io.specs.declared.item.Item.TheVariants as read
use Rattle.pcap_io.specs.declared.item.ReadFault.{ReadFault}
use Rattle.tap_queue.specs.declared.item.RingLost.{RingLost}
use Rattle.tap_queue.specs.declared.item.TapBatch.{TapBatch}
use Rattle.tap_queue.specs.declared.item.TapBatch.TheVariants as batches
use Rattle.tap_queue.specs.declared.item.TapItem.{TapItem}
use Rattle.tap_queue.specs.declared.item.TapItem.TheVariants.{Frame as frame, End, Failed}

-- ---- all that a reader gives

-- a call of a reader, which stands so before it and so after it, gives the item
abbrev pub GivesOne : Reading → TapItem → Reading → Type 0
GivesOne before (frame f) after = Advances (λ item. item) before after (Ok (read.Frame f))
GivesOne before (End e) after = Advances (λ item. item) before after (Ok (read.End e))
GivesOne before (Failed fault) after = Advances (λ item. item) before after (Err fault)

-- an ending or a fault, which nothing follows
abbrev pub is_last : TapItem → Bool
is_last (frame f) = false
is_last (End e) = true
is_last (Failed fault) = true

-- Calls of a reader, which stands so before the first and so after the last of them, give the items one after another. Only the last of
-- them is an ending or a fault.
abbrev pub Gives : Reading → List TapItem → Reading → Type 0
Gives before [] after = before ≡ after
Gives before (item ∷ items) after =
    (mid : Reading) × GivesOne before item mid × (is_last item ≡ true → items ≡ []) × Gives mid items after

-- the items have come to an ending or a fault
abbrev pub is_over : List TapItem → Bool
is_over [] = false
is_over (item ∷ items) = if is_last item then true else is_over items

-- A reader gave the items that were put, up to the last one; or, where its thread stopped before, some more that weren't put.
abbrev pub IsFed : Reading → List TapItem → Reading → Type 0
IsFed before items after =
    (more : List TapItem) × Gives before (items ++ more) after × (more ≡ [] → is_over items ≡ true)

-- ---- all that is known of the items by themselves

-- the frames among the items, in order
abbrev pub frames_in : List TapItem → List Frame
frames_in [] = []
frames_in (frame f ∷ items) = f ∷ frames_in items
frames_in (End e ∷ items) = frames_in items
frames_in (Failed fault ∷ items) = frames_in items

-- frames as items
abbrev pub frame_items : List Frame → List TapItem
frame_items [] = []
frame_items (f ∷ fs) = frame f ∷ frame_items fs

-- The frame may follow these of a network: its number counts them, and its stamp lies no further below any of theirs than it may.
pub record IsNextFrame (network : Network) (late : ℕ) (before : List Frame) (f : Frame) : Type 0 where
  pub network_is : f.network ≡ network
  pub number : f.number ≡ length before
  pub in_time : AllByRecursion (λ (g : Frame). g.stamp ≤ f.stamp + late) before

-- the frames may follow these of a network, one after another
abbrev pub AreNextFrames : Network → ℕ → List Frame → List Frame → Type 0
AreNextFrames network late before [] = ⊤
AreNextFrames network late before (f ∷ fs) = IsNextFrame network late before f × AreNextFrames network late (before ++ f ∷ []) fs

-- the item may follow these of a network: they have not come to an end, and a frame is the next
abbrev pub IsNextItem : Network → ℕ → List TapItem → TapItem → Type 0
IsNextItem network late before (frame f) = (is_over before ≡ false) × IsNextFrame network late (frames_in before) f
IsNextItem network late before (End e) = is_over before ≡ false
IsNextItem network late before (Failed fault) = is_over before ≡ false

-- The item after these was lost: nothing more was taken, or an item that may not follow them.
abbrev pub IsLoss : Network → ℕ → List TapItem → List TapItem → Type 0
IsLoss network late before after =
    (after ≡ before) ⊎ ((item : TapItem) × (after ≡ before ++ item ∷ []) × ¬ IsNextItem network late before item)

abbrev pub ring_lost : RingLost
ring_lost = record {}

-- ---- all that a reader gives together

-- all that a call of a reader gave
abbrev pub batch_from : Result Batched ReadFault → TapBatch
batch_from (Ok (given.Frames batch)) = batches.Frames batch
batch_from (Ok (given.End e)) = batches.End e
batch_from (Err fault) = batches.Failed fault

-- all that was given together, item by item
abbrev pub items_of : TapBatch → List TapItem
items_of (batches.Frames batch) = frame_items (batch_frames batch)
items_of (batches.End e) = End e ∷ []
items_of (batches.Failed fault) = Failed fault ∷ []

-- ---- a frame, by a count and a greatest stamp

-- the greatest stamp of the frames, 0 where there is none
abbrev pub high_of : List Frame → ℕ
high_of [] = 0
high_of (f ∷ fs) = max f.stamp (high_of fs)

-- the frame is the network's of this number, and its stamp lies no further below the greatest one before it than it may
pub record Follows (network : Network) (late number high : ℕ) (f : Frame) : Type 0 where
  pub network_is : f.network ≡ network
  pub number_is : f.number ≡ number
  pub in_time : high ≤ f.stamp + late
