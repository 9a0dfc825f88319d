use Rattle.std.proofs.Common.{rules, ◌∙◌}
use Rattle.std.proofs.lemmas.List.{take_rest}
use Rattle.pcap_io.proofs.Transfers.{write_more}
use Rattle.pcap_io.proofs.transfer.write_all.Goals as goal

pub loop-done-preserved : goal.loop-done-preserved
loop-done-preserved g c =
    let bytes = c.args.bytes.now in
    let done = c.loop-done.done in
    let n = c.in_ok-done.field-0 in
    record {
      within = search rules;
      written = write_more _ _ _ done n bytes c.loop-done.invariant.within c.loop-done.invariant.written (rw (take_rest bytes done) at c.in_ok-done.ensures.bytes);
      same = c.in_ok-done.ensures.no_failure.0 ∙ c.loop-done.invariant.same;
    }
