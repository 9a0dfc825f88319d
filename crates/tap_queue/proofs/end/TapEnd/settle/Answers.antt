use Rattle.std.proofs.Common.{rules, inl, inr, length, ◌<◌, ◌+◌, arith}
use Rattle.tap_queue.specs.Batches.{rest_items}
use Rattle.rtrb.specs.Ring.{known_items, received, sent}
use Rattle.tap_queue.proofs.Rest.{some_left}
use Rattle.tap_queue.proofs.end.TapEnd.settle.Goals as goal
use Rattle.tap_queue.proofs.end.TapEnd.settle.Goals.{then-lost-via-then-lost, then-lost-via-else-lost+then-not-over, then-lost-via-else-lost+else-not-over+then-left-gt0, then-lost-via-else-lost+else-not-over+else-left-gt0+then-count_of-gt0}

pub returns-then-lost-clause-refused : goal.returns-then-lost-clause-refused
returns-then-lost-clause-refused g c =
    let end = c.args.self in
    let looked = c.slots_beside-left.ensures in
    let left : (0 < length (rest_items end.rest) + length (known_items c.slots_beside-left.new.self)) → _ =
    some_left (received end.consumer) _ _ (sent c.args.fed.put.producer) _ (rest_items end.rest) looked.looked.1 looked.fifo looked.producer.1 end.kept in
    elim c.then-lost.branch [
      | then-lost-via-then-lost w ↦ inl w.if-lost.true
      | then-lost-via-else-lost+then-not-over w ↦ search rules
      | then-lost-via-else-lost+else-not-over+then-left-gt0 w ↦ inr (inr (left (omega (arith, looked.value, w.if-left-gt0.true))))
      | then-lost-via-else-lost+else-not-over+else-left-gt0+then-count_of-gt0 w ↦ inr (inr (left (omega (arith, w.count_of.ensures, w.if-count_of-gt0.true))))
    ]
