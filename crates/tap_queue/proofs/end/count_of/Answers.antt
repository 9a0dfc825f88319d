use Rattle.std.proofs.Common.{length, Option, ap, sym, ◌∙◌}
use Rattle.frame_batch.specs.Batch.{BatchState}
use Rattle.tap_queue.specs.Batches.{rest_items}
use Rattle.tap_queue.proofs.Given.{count-frame_items}
use Rattle.tap_queue.proofs.end.count_of.Goals as goal

pub returns-in-Some : goal.returns-in-Some
returns-in-Some c =
    c.count.ensures.count ∙ sym (count-frame_items c.in-Some.batch) ∙ ap (λ (rest : Option BatchState). length (rest_items rest)) (sym c.in-Some.is)
