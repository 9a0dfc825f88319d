-- A round as workers share it, in chunks (this project's profile).
use Rattle.std.specs.Prelude.{◌≡◌, ℕ, true, List, length, slice_range}
use Rattle.afdx_frame.specs.Frame.{Frame}
use Rattle.watch_run.specs.Filters.{Making}
use Rattle.watch_run.specs.Entries.{AreEntries}
use Rattle.watch_run.specs.declared.shared.ChunkEntries.{ChunkEntries}
use Rattle.vl_judge.specs.Judgement.{Judgement}
use Rattle.worker_pool.specs.Chunks.{AreBatches}

-- where there was memory for it, this is what is written of the frames from one number up to another
abbrev pub IsChunk : Making → List Frame → List Judgement → ℕ → ℕ → ChunkEntries → Type 0
IsChunk ps frames verdicts from to chunk =
    chunk.complete ≡ true → AreEntries ps (slice_range frames from to) (slice_range verdicts from to) chunk.entries

-- these are the chunks of a round, of so many frames each but for the last, in order
pub record AreChunks (ps : Making) (frames : List Frame) (verdicts : List Judgement) (size : ℕ) (chunks : List ChunkEntries) : Type 0 where
  pub judged : length verdicts ≡ length frames
  pub are : AreBatches (IsChunk ps frames verdicts) size (length frames) 0 chunks
