use Rattle.tap_queue.specs.Batches.{rest_items}
use Rattle.rtrb.specs.Ring.{received, sent}
use Rattle.tap_queue.proofs.Rest.{first_taken}
use Rattle.tap_queue.proofs.end.TapEnd.leave.Goals as goal

pub returns-then-lost-clause-first : goal.returns-then-lost-clause-first
returns-then-lost-clause-first g c =
    let end = c.args.self in
    let looked = c.slots_beside-left.ensures in
    (_, first_taken (received end.consumer) _ _ (sent c.args.fed.put.producer) _ (rest_items end.rest) looked.looked.1 looked.fifo looked.producer.1 end.kept)

pub returns-clause-first : goal.returns-clause-first
returns-clause-first g c =
    let end = c.args.self in
    let looked = c.slots_beside-left.ensures in
    (_, first_taken (received end.consumer) _ _ (sent c.args.fed.put.producer) _ (rest_items end.rest) looked.looked.1 looked.fifo looked.producer.1 end.kept)
