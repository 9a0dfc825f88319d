-- The chunks before the index were gathered.
use Rattle.std.proofs.Common.{ℕ, List, drop}
use Rattle.afdx_frame.specs.Frame.{Frame}
use Rattle.watch_run.specs.Filters.{Making}
use Rattle.watch_run.specs.Shared.{AreChunks}
use Rattle.watch_run.proofs.Gathering.{IsGathered}
use Rattle.vl_judge.specs.Judgement.{Judgement}
use Rattle.watch_run.proofs.entries.Entries.gather.Given as goal

abbrev pub invariant-loop-chunk : goal.invariant-loop-chunk
invariant-loop-chunk l =
    (ps : Making) (frames : List Frame) (verdicts : List Judgement) (size : ℕ) → AreChunks ps frames verdicts size l.chunks →
    IsGathered ps frames verdicts size (drop l.chunk-index l.chunks) l.self
