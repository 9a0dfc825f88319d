use Rattle.std.proofs.Common.{rules, [], ap, ◌∙◌, sym, refl, arith}
use Rattle.std.proofs.lemmas.Bool.{false≢true}
use Rattle.std.proofs.lemmas.List.{append-nil}
use Rattle.tap_queue.specs.Batches.{batch_items}
use Rattle.tap_queue.specs.Items.{is_over}
use Rattle.tap_queue.specs.Ring.{put_items, put_of}
use Rattle.tap_queue.proofs.Given.{over_append, puts_on, puts_some}
use Rattle.tap_queue.proofs.feeding.fill.Goals as goal

pub loop-init : goal.loop-init
loop-init g c = record {
  put = record { ring = search rules; more = []; put = c.room-room.ensures.put ∙ sym (append-nil (put_items (put_of c.args.fed.now))); gives = refl };
  going = ap is_over c.room-room.ensures.put ∙ c.requires;
  room = omega (arith, c.room-room.ensures.room);
  known = omega (arith, c.room-room.ensures.room, c.room-room.ensures.kept);
  some = λ less. absurd (omega (arith, less));
}

pub returns-then-over-clause-put : goal.returns-then-over-clause-put
returns-then-over-clause-put g c =
    puts_on _ _ _ (batch_items c.next_batch-batch.result.0) (put_of c.args.fed.now) c.loop.fed.put c.put_reserved.new.self c.requires c.loop.invariant.going
    c.loop.invariant.put (search rules) c.put_reserved.ensures.put c.next_batch-batch.ensures.given

pub returns-then-over-clause-over : goal.returns-then-over-clause-over
returns-then-over-clause-over g c =
    sym (ap is_over c.put_reserved.ensures.put ∙ over_append (put_items c.loop.fed.put) (batch_items c.next_batch-batch.result.0) c.loop.invariant.going
    ∙ (sym c.next_batch-batch.ensures.last ∙ c.if-over.true))

pub returns-then-over-clause-filled : goal.returns-then-over-clause-filled
returns-then-over-clause-filled g c =
    let batch = c.next_batch-batch.result.0 in
    let over = ap is_over c.put_reserved.ensures.put ∙ over_append (put_items c.loop.fed.put) (batch_items batch) c.loop.invariant.going
    ∙ (sym c.next_batch-batch.ensures.last ∙ c.if-over.true) in
    record {
      full = λ going _. false≢true (sym going ∙ over);
      some = λ _. puts_some (put_of c.args.fed.now) c.loop.fed.put c.put_reserved.new.self c.loop.invariant.put.more (batch_items batch)
          c.loop.invariant.put.put c.put_reserved.ensures.put batch.some;
    }

pub loop-preserved : goal.loop-preserved
loop-preserved g c =
    let batch = c.next_batch-batch.result.0 in
    let inv = c.loop.invariant in
    record {
      put = puts_on _ _ _ (batch_items batch) (put_of c.args.fed.now) c.loop.fed.put c.put_reserved.new.self c.requires inv.going inv.put (search rules)
          c.put_reserved.ensures.put c.next_batch-batch.ensures.given;
      going = ap is_over c.put_reserved.ensures.put ∙ over_append (put_items c.loop.fed.put) (batch_items batch) inv.going
          ∙ (sym c.next_batch-batch.ensures.last ∙ c.if-over.false);
      room = omega (arith, inv.room, c.put_reserved.ensures.room);
      known = inv.known;
      some = λ _. puts_some (put_of c.args.fed.now) c.loop.fed.put c.put_reserved.new.self inv.put.more (batch_items batch) inv.put.put
          c.put_reserved.ensures.put batch.some;
    }
