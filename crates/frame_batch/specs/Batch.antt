-- Frames that stand in one block (this project's profile): a record says where each stands, and what is known of it without its bytes.
use Rattle.std.specs.Prelude.{ℕ, ◌≤◌, List, [], length, map, slice_range, Option, Some, None}
use Rattle.std.specs.List.{AllByRecursion}
use Rattle.afdx_frame.specs.Facts.{AreFactsOf}
use Rattle.afdx_frame.specs.Frame.{Frame, IsFrame, frame_with}
use Rattle.afdx_frame.specs.declared.facts.Facts.{Facts}
use Rattle.frame_batch.specs.declared.frame_record.FrameRecord.{FrameRecord}

-- the captured bytes
abbrev pub record_bytes : List ℕ → FrameRecord → List ℕ
record_bytes block r = slice_range block r.from r.to

-- the frame
abbrev pub record_frame : List ℕ → FrameRecord → Frame
record_frame block r = frame_with r.network r.number r.stamp.0 r.whole (record_bytes block r)

-- the facts that are known without the bytes
abbrev pub record_facts : FrameRecord → Facts
record_facts r = record { constant = r.constant; link = r.link; sequence = r.sequence }

-- The record is that of a frame in the block.
pub record IsRecordOf (block : List ℕ) (r : FrameRecord) : Type 0 where
  pub ordered : r.from ≤ r.to
  pub within : r.to ≤ length block
  pub is_frame : IsFrame (record_frame block r)
  pub facts : AreFactsOf (record_bytes block r) (record_facts r)

abbrev pub AreRecordsOf : List ℕ → List FrameRecord → Type 0
AreRecordsOf block records = AllByRecursion (IsRecordOf block) records

-- the state of a batch: its block, and the records of the frames that weren't taken out
pub record BatchState : Type 0 where
  pub block : List ℕ
  pub left : List FrameRecord

-- the frames that weren't taken out, in the order of the recording
abbrev pub batch_frames : BatchState → List Frame
batch_frames b = map (record_frame b.block) b.left

-- the frames of what may be left of a batch
abbrev pub frames_left : Option BatchState → List Frame
frames_left None = []
frames_left (Some b) = batch_frames b
