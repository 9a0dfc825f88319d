use Rattle.std.proofs.Common.{[], ◌∷◌, length, ap, arith}
use Rattle.std.proofs.lemmas.List.{length-append}
use Rattle.frame_batch.specs.Batch.{BatchState}
use Rattle.pcap_io.proofs.Held.{adds_more, adds_none}
use Rattle.pcap_io.proofs.reader.TapReader.add_all_held.Goals as goal

pub loop-count-init : goal.loop-count-init
loop-count-init g c = record {
  going = c.requires.going;
  block = c.requires.block;
  adds = adds_none _ c.args.batch.now;
  counted = c.requires.one;
  some = omega arith;
  few = omega arith;
}

pub loop-count-preserved : goal.loop-count-preserved
loop-count-preserved g c =
    let inv = c.loop-count.invariant in
    let added = c.add_held.ensures.added c.if-not-add_held.false in
    record {
      going = c.add_held.ensures.going;
      block = c.add_held.ensures.block;
      adds = adds_more _ _ _ _ _ _ inv.adds added;
      counted = omega (arith, inv.counted, ap (λ (b : BatchState). length b.left) added.batch, length-append c.loop-count.batch.left (added.added ∷ []));
      some = omega (arith, inv.some);
      few = omega (arith, inv.few, c.loop-count-test.true);
    }
