use Rattle.std.proofs.Common.{arith, refl}
use Rattle.ledger_text.proofs.Nearness.{new_more, noted_none}
use Rattle.ledger_text.proofs.neighbours.Neighbours.new.Goals as goal

pub loop-init : goal.loop-init
loop-init c = record { len = c.in_ok-links.ensures.len; new = λ id none lt. absurd (omega (arith, lt)) }

pub loop-preserved : goal.loop-preserved
loop-preserved c = record {
  len = omega (arith, c.in_ok-push.ensures.len, c.loop.invariant.len);
  new = new_more c.loop.links.items c.push.new.self.items c.new.result c.loop.counter (omega (arith, c.loop.links.ok.0, c.loop.invariant.len)) c.in_ok-push.ensures.items
      (record { noted = c.new.ensures.noted; runs = c.new.ensures.runs; fresh = c.new.ensures.fresh }) c.loop.invariant.new;
}

pub invariant_of-result : goal.invariant_of-result
invariant_of-result c = record { whole = omega (arith, c.loop.invariant.len, c.loop-test.false, c.loop.auto.counter-end) }

pub returns : goal.returns
returns c = λ selection. record {
  count = refl;
  links = λ id none lt.
      let one = c.loop.invariant.new id none (omega (arith, lt, c.loop-test.false)) in
      noted_none selection c.args.around id _ one.noted one.runs one.fresh;
}
