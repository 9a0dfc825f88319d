-- Batches of items, which go through a ring one after another (this project's profile).
use Rattle.std.specs.Prelude.{◌≡◌, ◌⊎◌, ℕ, ◌-◌, false, List, ◌++◌, length, take, Option}
use Rattle.std.specs.List.{flat_map}
use Rattle.afdx_frame.specs.declared.key.Network.{Network}
use Rattle.frame_batch.specs.Batch.{BatchState, batch_frames, frames_left}
use Rattle.tap_queue.specs.Items.{AreNextFrames, frame_items, frames_in, is_over, items_of}
use Rattle.tap_queue.specs.declared.item.Batch.{Batch}
use Rattle.tap_queue.specs.declared.item.TapBatch.{TapBatch}
use Rattle.tap_queue.specs.declared.item.TapBatch.TheVariants.{Frames, End, Failed}
use Rattle.tap_queue.specs.declared.item.TapItem.{TapItem}

-- the items of a batch, in order
abbrev pub batch_items : Batch → List TapItem
batch_items batch = items_of batch.content

-- the items of batches, one after another
abbrev pub items_in : List Batch → List TapItem
items_in batches = flat_map batch_items batches

-- the frames that are left of a batch
abbrev pub rest_items : Option BatchState → List TapItem
rest_items rest = frame_items (frames_left rest)

-- the items of batches but for so many at their end, as are those of the rest
abbrev pub taken_of : List Batch → List TapItem → List TapItem
taken_of batches rest = take (length (items_in batches) - length rest) (items_in batches)

-- the items of the batches end with the rest
abbrev pub IsRest : List Batch → List TapItem → Type 0
IsRest batches rest = items_in batches ≡ taken_of batches rest ++ rest

-- items given together may follow these of a network: they have not come to an end, and each frame is the next
abbrev pub AreNextItems : Network → ℕ → List TapItem → TapBatch → Type 0
AreNextItems network late before (Frames batch) = (is_over before ≡ false) × AreNextFrames network late (frames_in before) (batch_frames batch)
AreNextItems network late before (End e) = is_over before ≡ false
AreNextItems network late before (Failed fault) = is_over before ≡ false

-- The loss of what was given together after these items: nothing more was taken, or what may not follow them.
abbrev pub IsBatchLoss : Network → ℕ → List TapItem → List TapItem → Type 0
IsBatchLoss network late before after =
    (after ≡ before) ⊎ ((taken : TapBatch) × (after ≡ before ++ items_of taken) × ¬ AreNextItems network late before taken)
