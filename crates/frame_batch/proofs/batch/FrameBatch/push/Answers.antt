use Rattle.std.proofs.Common.{List, [], ◌∷◌, ap, arith}
use Rattle.std.proofs.lemmas.List.{drop-append-le}
use Rattle.afdx_frame.specs.FrameBytes.{block_bytes}
use Rattle.frame_batch.specs.declared.frame_record.FrameRecord.{FrameRecord}
use Rattle.frame_batch.proofs.batch.FrameBatch.push.Goals as goal

pub returns-clause-added : goal.returns-clause-added
returns-clause-added c _ =
    rw (c.push_reserved.ensures.items, ← c.self.view_is)
    (ap (λ (l : List FrameRecord). record { block = block_bytes c.self.inside.block; left = l })
    (drop-append-le c.self.inside.taken (c.self.inside.first ∷ c.self.inside.more.items) (c.args.next ∷ []) (omega (arith, c.self.invariant.1))))
