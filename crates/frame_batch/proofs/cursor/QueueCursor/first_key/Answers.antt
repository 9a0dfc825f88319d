use Rattle.std.proofs.Common.{Option, Some, sym, ap, ◌∙◌, arith}
use Rattle.std.specs.Option.{option_map}
use Rattle.afdx_frame.specs.Frame.{Frame, key_of}
use Rattle.frame_batch.specs.Batch.{record_frame}
use Rattle.frame_batch.proofs.Queues.{first_left, frame_here, item_here}
use Rattle.frame_batch.proofs.cursor.QueueCursor.first_key.Goals as goal

pub returns : goal.returns
returns c =
    let self = c.args.self.now in
    let b = c.index-batch.result.now in
    let here = item_here self.batches.now.items self.batch b (omega arith) c.index-batch.ensures in
    let first = first_left self.batches.now.items self.batch self.at b (record_frame b.block c.entry.result.now) here (frame_here b self.at c.entry.result.now c.entry.ensures.entry) in
    ap Some (c.key.ensures b.block) ∙ sym (ap (λ (o : Option Frame). option_map key_of o) first)
