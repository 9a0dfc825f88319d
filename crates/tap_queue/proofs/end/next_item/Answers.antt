use Rattle.std.proofs.Common.{◌++◌, ◌∷◌, [], ◌∙◌, ap}
use Rattle.rtrb.specs.Ring.{received}
use Rattle.frame_batch.specs.Batch.{batch_frames, frames_left}
use Rattle.tap_queue.specs.Batches.{rest_items, taken_of}
use Rattle.tap_queue.specs.Items.{items_of}
use Rattle.tap_queue.specs.declared.item.TapBatch.{TapBatch}
use Rattle.tap_queue.specs.declared.item.TapItem.TheVariants.{Frame as frame}
use Rattle.tap_queue.proofs.Rest.{all_but_first, rest_is, taken_is}
use Rattle.tap_queue.proofs.end.next_item.Goals as goal

pub returns-in-Ok-clause-kept : goal.returns-in-Ok-clause-kept
returns-in-Ok-clause-kept g c =
    let batches = received c.next_batch.new.consumer in
    let before = taken_of (received c.args.consumer.now) (rest_items c.args.rest.now) in
    let all = c.in_ok-batch.ensures.taken ∙ ap (λ (b : TapBatch). before ++ items_of b) c.in-Frames.is in
    rest_is batches (before ++ frame c.in-Ok.frame ∷ []) (rest_items c.in-Ok.others)
    (all_but_first batches before c.next_batch.new.rest (batch_frames c.in-Frames.batch) (frames_left c.in-Ok.others) c.in-Ok.frame c.next_batch.ensures.none
    c.in-Ok.ensures.split all)

pub returns-in-Ok-clause-taken : goal.returns-in-Ok-clause-taken
returns-in-Ok-clause-taken g c =
    let batches = received c.next_batch.new.consumer in
    let before = taken_of (received c.args.consumer.now) (rest_items c.args.rest.now) in
    let all = c.in_ok-batch.ensures.taken ∙ ap (λ (b : TapBatch). before ++ items_of b) c.in-Frames.is in
    taken_is batches (before ++ frame c.in-Ok.frame ∷ []) (rest_items c.in-Ok.others)
    (all_but_first batches before c.next_batch.new.rest (batch_frames c.in-Frames.batch) (frames_left c.in-Ok.others) c.in-Ok.frame c.next_batch.ensures.none
    c.in-Ok.ensures.split all)
