use Rattle.std.proofs.Common.{rules, ◌∙◌}
use Rattle.std.proofs.KnownBytes.{Keeps-trans}
use Rattle.pcap_io.proofs.Transfers.{stays_prepended, take-read}
use Rattle.pcap_io.proofs.Draws.{keeps_more}
use Rattle.pcap_io.proofs.block.read_until.Goals as goal

pub loop-end-preserved : goal.loop-end-preserved
loop-end-preserved g c =
    let at = c.loop-end.end in
    record {
      within = search rules;
      kept = Keeps-trans _ _ _ c.loop-end.invariant.kept
          (keeps_more _ _ _ _ _ (take-read at c.in-Ok.n _ c.loop-end.bytes c.read.new.buf c.loop-end.invariant.within c.in-Ok.ensures.bound) c.in-Ok.ensures.bytes.0);
      same = c.in-Ok.ensures.no_failure.0 ∙ c.loop-end.invariant.same;
      told = stays_prepended _ _ _ _ _ _ _ c.loop-end.invariant.kept c.loop-end.invariant.told c.read.ensures.told;
    }
