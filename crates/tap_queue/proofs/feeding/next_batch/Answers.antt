use Rattle.std.proofs.Common.{◌<◌, length, sym, subst}
use Rattle.pcap_io.specs.Position.{Reading}
use Rattle.pcap_io.specs.Reader.{reading_of}
use Rattle.tap_queue.specs.Items.{Gives, items_of}
use Rattle.tap_queue.specs.declared.item.TapBatch.{TapBatch}
use Rattle.tap_queue.proofs.Given.{gives_taken, some_taken}
use Rattle.tap_queue.proofs.feeding.next_batch.Goals as goal

pub invariant_of-result : goal.invariant_of-result
invariant_of-result g c = record {
  some = subst (λ (b : TapBatch). 0 < length (items_of b)) (sym c.of-content.ensures) (some_taken c.args.most c.next_batch.result c.next_batch.ensures.count);
}

pub returns-clause-given : goal.returns-clause-given
returns-clause-given g c =
    let before : Reading = reading_of g.S.TapSource.remaining g.S.TapSource.failures g.S.TapSource.told c.args.reader.now in
    let after : Reading = reading_of g.S.TapSource.remaining g.S.TapSource.failures g.S.TapSource.told c.next_batch.new.self in
    subst (λ (b : TapBatch). Gives before (items_of b) after) (sym c.of-content.ensures) (gives_taken before after c.next_batch.result c.next_batch.ensures.gives)
