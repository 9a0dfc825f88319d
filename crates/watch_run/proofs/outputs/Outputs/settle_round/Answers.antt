use Rattle.std.proofs.Common.{◌≡◌, ◌∙◌, List, sym, subst}
use Rattle.std.specs.Prelude.{IfSome}
use Rattle.afdx_frame.specs.Frame.{Frame}
use Rattle.pcap_io.specs.Writer.{sink_of}
use Rattle.run_fault.specs.Device.{sink_at}
use Rattle.run_fault.proofs.Results.{with_err, with_on_ok}
use Rattle.watch_run.specs.Outputs.{HasWritten, StopsWriting, effect_of, outputs_of}
use Rattle.watch_run.proofs.ChunkSharing.{is_at}
use Rattle.verdict_ledger.specs.Ledger.{sink_of as ledger_sink}
use Rattle.watch_run.specs.Filters.{making_of}
use Rattle.watch_run.proofs.outputs.Outputs.settle_round.Goals as goal

pub returns-clause-written : goal.returns-clause-written
returns-clause-written g c =
    let ps = (making_of c.args.pool.now.task.plan) in
    let some = sym c.take.ensures.value ∙ c.in-Some.is in
    let same : c.in-Some.flight.task ≡ c.args.pool.now.task = subst (λ f. IfSome f (λ p. p.task ≡ c.args.pool.now.task)) some c.requires.task in
    with_on_ok c.write_flight.result _ _ (λ f. λ vl_table capture ledger frames after h.
    (let at = is_at g.W.OutSink g.L.OutSink ps vl_table capture ledger frames after c.args.self.now.capture c.args.self.now.ledger _ c.in-Some.flight h some in
    subst (λ (fs : List Frame). HasWritten g.W.OutSink g.L.OutSink ps vl_table capture ledger fs (outputs_of after c.write_flight.new.capture c.write_flight.new.ledger)) (sym at.all)
    (f vl_table capture ledger at.first h.before after at.written at.judged at.lanes))) (rw same at c.write_flight.ensures.written)

pub returns-clause-stopped : goal.returns-clause-stopped
returns-clause-stopped g c =
    let ps = (making_of c.args.pool.now.task.plan) in
    let some = sym c.take.ensures.value ∙ c.in-Some.is in
    let same : c.in-Some.flight.task ≡ c.args.pool.now.task = subst (λ f. IfSome f (λ p. p.task ≡ c.args.pool.now.task)) some c.requires.task in
    with_err c.write_flight.result _ _ (λ fault f. λ vl_table capture ledger frames after h.
    (let at = is_at g.W.OutSink g.L.OutSink ps vl_table capture ledger frames after c.args.self.now.capture c.args.self.now.ledger _ c.in-Some.flight h some in
    subst (λ (fs : List Frame). StopsWriting (effect_of fault) ps vl_table capture ledger (sink_at g.W.OutSink (sink_of c.write_flight.new.capture))
    (sink_at g.L.OutSink (ledger_sink c.write_flight.new.ledger)) fs) (sym at.all)
    (f vl_table capture ledger at.first h.before at.written at.judged))) (rw same at c.write_flight.ensures.stopped)
