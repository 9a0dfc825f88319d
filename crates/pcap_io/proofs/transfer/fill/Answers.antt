use Rattle.std.proofs.Common.{rules, ◌∙◌}
use Rattle.pcap_io.proofs.Transfers.{fill_more, stays_consumed}
use Rattle.pcap_io.proofs.transfer.fill.Goals as goal

pub loop-done-preserved : goal.loop-done-preserved
loop-done-preserved g c = record {
  within = search rules;
  given = fill_more _ _ _ c.loop-done.done c.in_ok-n.n _ c.loop-done.buf c.read.new.buf c.loop-done.invariant.within c.in_ok-n.ensures.bound c.loop-done.invariant.given c.in_ok-n.ensures.bytes.0;
  same = c.in_ok-n.ensures.no_failure.0 ∙ c.loop-done.invariant.same;
  told = stays_consumed _ _ _ _ _ _ c.loop-done.invariant.given c.loop-done.invariant.told c.read.ensures.told;
}
