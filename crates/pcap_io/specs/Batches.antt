-- Frames that a reader gives together, by what as many calls give that each go on to the next item (this project's profile).
use Rattle.std.specs.Prelude.{◌≡◌, ℕ, ◌<◌, ◌≤◌, max, List, [], ◌∷◌, ◌++◌, length, Result, Ok, Err, ⊤}
use Rattle.afdx_frame.specs.Frame.{Frame}
use Rattle.afdx_frame.specs.FrameBytes.{block_bytes}
use Rattle.frame_batch.specs.Batch.{BatchState, IsRecordOf, batch_frames, record_frame}
use Rattle.frame_batch.specs.declared.frame_record.FrameRecord.{FrameRecord}
use Rattle.pcap_io.specs.Block.{IsShareOf}
use Rattle.pcap_io.specs.Position.{Advances, Reading}
use Rattle.pcap_io.specs.declared.item.Batched.{Batched}
use Rattle.pcap_io.specs.declared.item.Batched.TheVariants as batches
use Rattle.pcap_io.specs.declared.item.Item.{Item}
use Rattle.pcap_io.specs.declared.item.Item.TheVariants as items
use Rattle.pcap_io.specs.declared.item.ReadFault.{ReadFault}
use Rattle.pcap_io.specs.declared.item.Taken.{Taken}
use Rattle.pcap_io.specs.declared.item.Taken.TheVariants as takes
use Rattle.pcap_io.specs.declared.recording.Stage.TheVariants.{Going}
use Rattle.pcap_io.specs.declared.position.Position.{Position}

-- As many calls of a reader, which stands so before the first and so after the last of them, give the frames one after another.
abbrev pub GivesFrames : Reading → List Frame → Reading → Type 0
GivesFrames before [] after = before ≡ after
GivesFrames before (f ∷ fs) after =
    (mid : Reading) × Advances (λ item. item) before mid (Ok (items.Frame f)) × GivesFrames mid fs after

-- A call that returned this gave what as many calls give that each go on to the next item.
abbrev pub GivesBatch : Reading → Reading → Result Batched ReadFault → Type 0
GivesBatch before after (Ok (batches.Frames batch)) = GivesFrames before (batch_frames batch) after
GivesBatch before after (Ok (batches.End e)) = Advances (λ item. item) before after (Ok (items.End e))
GivesBatch before after (Err fault) = Advances (λ item. item) before after (Err fault)

-- at least one frame, and at most so many
abbrev pub HasAtMost : ℕ → Batched → Type 0
HasAtMost most (batches.Frames batch) = (0 < length batch.left) × (length batch.left ≤ max most 1)
HasAtMost most (batches.End e) = ⊤

-- ---- one item, whose frame stands in a block

abbrev pub taken_item : Taken → Item
taken_item (takes.Frame block r) = items.Frame (record_frame (block_bytes block) r)
taken_item (takes.End e) = items.End e

-- The frame stands in a share of the reader's block, or has no bytes; and the reader goes on.
abbrev pub IsHeld : Position → List ℕ → Taken → Type 0
IsHeld p items (takes.Frame block r) = (p.stage ≡ Going) × IsRecordOf (block_bytes block) r × IsShareOf items (block_bytes block)
IsHeld p items (takes.End e) = ⊤

-- ---- more frames

-- The next frame was added to a batch.
pub record AddsFrame (before after : Reading) (old new : BatchState) : Type 0 where
  pub added : FrameRecord
  pub batch : new ≡ record old { left = old.left ++ added ∷ [] }
  pub gives : Advances (λ item. item) before after (Ok (items.Frame (record_frame old.block added)))

-- The next frames were added to a batch.
pub record AddsFrames (before after : Reading) (old new : BatchState) : Type 0 where
  pub more : List Frame
  pub frames : batch_frames new ≡ batch_frames old ++ more
  pub gives : GivesFrames before more after
