use Rattle.std.proofs.Common.{rules, List, ap, ◌∙◌, sym, subst, refl}
use Rattle.pcap_io.specs.Reader.{reading_of}
use Rattle.pcap_io.specs.Position.{Reading}
use Rattle.tap_queue.specs.Items.{Gives, is_over}
use Rattle.tap_queue.specs.Batches.{batch_items}
use Rattle.tap_queue.specs.Ring.{put_items}
use Rattle.tap_queue.specs.declared.item.TapItem.{TapItem}
use Rattle.tap_queue.proofs.Given.{fed_but_some, fed_to_the_end, gives_append, over_append}
use Rattle.tap_queue.proofs.feeding.feed.Goals as goal
use Rattle.tap_queue.proofs.feeding.feed.Goals.{then-not-put-via-then-not-put, then-not-put-via-else-not-put+then-last}

pub returns-then-not-put-clause-fed : goal.returns-then-not-put-clause-fed
returns-then-not-put-clause-fed g c =
    let items = put_items c.loop.put in
    let put = put_items c.put.new.self in
    let batch = c.next_batch-batch.result.0 in
    let given = gives_append _ _ _ items (batch_items batch) c.loop.invariant.given c.loop.invariant.going c.next_batch-batch.ensures.given in
    elim c.then-not-put.branch [
      | then-not-put-via-then-not-put w ↦ fed_but_some _ _ items put (batch_items batch) given (w.if-not-put.ensures.gone refl) batch.some
      | then-not-put-via-else-not-put+then-last w ↦
          fed_to_the_end _ _ items put (batch_items batch) given c.loop.invariant.going (w.if-not-put.ensures.put refl) (sym c.next_batch-batch.ensures.last ∙ w.if-last.true)
    ]

pub loop-preserved : goal.loop-preserved
loop-preserved g c =
    let before : Reading = reading_of g.S.TapSource.remaining g.S.TapSource.failures g.S.TapSource.told c.args.reader in
    let after : Reading = reading_of g.S.TapSource.remaining g.S.TapSource.failures g.S.TapSource.told c.next_batch-batch.new.reader in
    let items = put_items c.loop.put in
    let more = batch_items c.next_batch-batch.result.0 in
    let put = c.if-not-put.ensures.put refl in
    record {
      ring = search rules;
      given = subst (λ (all : List TapItem). Gives before all after) (sym put)
          (gives_append before _ after items more c.loop.invariant.given c.loop.invariant.going c.next_batch-batch.ensures.given);
      going = ap is_over put ∙ (over_append items more c.loop.invariant.going ∙ (sym c.next_batch-batch.ensures.last ∙ c.if-last.false));
    }
