use Rattle.std.proofs.Common.{inr}
use Rattle.std.proofs.lemmas.Result.{err_from_is_err_and}
use Rattle.run_fault.proofs.Results.{with_err, with_on_ok}
use Rattle.pcap_io.specs.Writer.{sink_of}
use Rattle.run_fault.specs.Device.{sink_at}
use Rattle.watch_run.proofs.Writing.{capture_some, first_whole, lines_some, packets_first}
use Rattle.watch_run.specs.Filters.{making_of}
use Rattle.watch_run.proofs.outputs.Outputs.write_round.Goals as goal

pub returns-in_err-verdicts-clause-stopped : goal.returns-in_err-verdicts-clause-stopped
returns-in_err-verdicts-clause-stopped g c =
    let p = err_from_is_err_and c.from_residual.result c.from_residual.ensures.1 in
    rw (p.1, p.2) (λ vl_table capture ledger frames h. record {
      packets = capture_some (making_of c.args.plan.now) vl_table frames c.args.round.now _ _ h.packets;
      lines = lines_some (making_of c.args.plan.now) vl_table frames c.args.round.now _ _ h.lines;
      packets_first = first_whole (making_of c.args.plan.now) vl_table frames c.args.round.now _ _ _ _ h.packets h.lines;
      whole = inr (packets_first (making_of c.args.plan.now) vl_table frames c.args.round.now capture (sink_at g.W.OutSink (sink_of c.args.self.now.capture)) h.packets);
      fails = (h.capture_failures, h.ledger_failures);
    })

pub returns-in_err-fill-clause-stopped : goal.returns-in_err-fill-clause-stopped
returns-in_err-fill-clause-stopped g c =
    let p = err_from_is_err_and c.from_residual-in_err-fill.result c.from_residual-in_err-fill.ensures.1 in
    rw (p.1, p.2) (λ vl_table capture ledger frames h. record {
      packets = capture_some (making_of c.args.plan.now) vl_table frames c.args.round.now _ _ h.packets;
      lines = lines_some (making_of c.args.plan.now) vl_table frames c.args.round.now _ _ h.lines;
      packets_first = first_whole (making_of c.args.plan.now) vl_table frames c.args.round.now _ _ _ _ h.packets h.lines;
      whole = inr (packets_first (making_of c.args.plan.now) vl_table frames c.args.round.now capture (sink_at g.W.OutSink (sink_of c.args.self.now.capture)) h.packets);
      fails = (h.capture_failures, h.ledger_failures);
    })

pub returns-clause-written : goal.returns-clause-written
returns-clause-written g c =
    with_on_ok c.write_entries.result _ _ (λ f. λ vl_table capture ledger frames h.
    f (making_of c.args.plan.now) vl_table capture ledger frames c.args.self.now.lanes c.judge_frames.new.self h
    (rw c.deref-2.ensures.value (c.in_ok-verdicts.ensures.verdicts vl_table frames h.lanes))
    (rw c.deref-2.ensures.value (rw (c.all.ensures, c.deref.ensures.value) at c.in_ok-fill.ensures)) (c.in_ok-verdicts.ensures.after vl_table frames h.lanes)) c.write_entries.ensures.written

pub returns-clause-stopped : goal.returns-clause-stopped
returns-clause-stopped g c =
    with_err c.write_entries.result _ _ (λ fault f. λ vl_table capture ledger frames h.
    f (making_of c.args.plan.now) vl_table capture ledger frames c.args.self.now.lanes h
    (rw c.deref-2.ensures.value (c.in_ok-verdicts.ensures.verdicts vl_table frames h.lanes))
    (rw c.deref-2.ensures.value (rw (c.all.ensures, c.deref.ensures.value) at c.in_ok-fill.ensures))) c.write_entries.ensures.stopped
