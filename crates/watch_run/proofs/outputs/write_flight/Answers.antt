use Rattle.std.proofs.Common.{◌++◌, ◌∙◌, ap}
use Rattle.pcap_io.specs.Writer.{sink_of}
use Rattle.watch_run.specs.Outputs.{effect_of}
use Rattle.watch_run.specs.declared.shared.JudgedRound.{JudgedRound}
use Rattle.run_fault.specs.Device.{sink_at}
use Rattle.run_fault.proofs.Results.{with_err, with_on_ok}
use Rattle.watch_run.proofs.Writing.{capture_some, first_whole, lines_some, no_sink_fails, packets_first, same_effect, whole_after}
use Rattle.watch_run.specs.Filters.{making_of}
use Rattle.watch_run.proofs.outputs.write_flight.Goals as goal

pub returns-in-Err-clause-stopped : goal.returns-in-Err-clause-stopped
returns-in-Err-clause-stopped g c =
    let ps = (making_of c.args.flight.task.plan) in
    let round = c.args.flight.round.frames in
    λ vl_table capture ledger frames before h said. record {
      packets = capture_some ps vl_table frames round _ _ h.packets;
      lines = lines_some ps vl_table frames round _ _ h.lines;
      packets_first = first_whole ps vl_table frames round _ _ _ _ h.packets h.lines;
      whole = whole_after (effect_of c.in-Err.fault) ps vl_table (frames ++ round) capture (sink_at g.W.OutSink (sink_of c.args.capture.now))
          (packets_first ps vl_table frames round capture (sink_at g.W.OutSink (sink_of c.args.capture.now)) h.packets);
      fails = no_sink_fails c.in-Err.fault _ _ _ _ c.in-Err.ensures.fault h.capture_failures h.ledger_failures;
    }

pub returns-clause-written : goal.returns-clause-written
returns-clause-written g c =
    let ps = (making_of c.args.flight.task.plan) in
    let round = ap (λ (r : JudgedRound). r.frames) c.in-Ok.ensures.round in
    let judged = c.deref.ensures.value ∙ ap (λ (r : JudgedRound). r.verdicts.items) c.in-Ok.ensures.round in
    with_on_ok c.write_entries.result _ _ (λ f. λ vl_table capture ledger frames before after h said stands.
    f ps vl_table capture ledger frames before after h said c.in-Ok.ensures.entries stands) (rw (round, judged) at c.write_entries.ensures.written)

pub returns-clause-stopped : goal.returns-clause-stopped
returns-clause-stopped g c =
    let ps = (making_of c.args.flight.task.plan) in
    let round = ap (λ (r : JudgedRound). r.frames) c.in-Ok.ensures.round in
    let judged = c.deref.ensures.value ∙ ap (λ (r : JudgedRound). r.verdicts.items) c.in-Ok.ensures.round in
    with_err c.write_entries.result _ _ (λ fault f. λ vl_table capture ledger frames before h said.
    same_effect fault ps vl_table capture ledger _ _ _ (f ps vl_table capture ledger frames before h said
    c.in-Ok.ensures.entries)) (rw (round, judged) at c.write_entries.ensures.stopped)
