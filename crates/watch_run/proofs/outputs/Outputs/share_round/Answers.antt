use Rattle.std.proofs.Common.{◌++◌, ap, sym}
use Rattle.watch_run.specs.declared.shared.JudgedRound.{JudgedRound}
use Rattle.std.proofs.lemmas.Result.{err_from_is_err_and}
use Rattle.watch_run.proofs.ChunkSharing.{shared_stops, stops_longer}
use Rattle.watch_run.proofs.Writing.{no_sink_fails}
use Rattle.watch_run.specs.Filters.{making_of}
use Rattle.watch_run.proofs.outputs.Outputs.share_round.Goals as goal

pub returns-in_err-verdicts-clause-stopped : goal.returns-in_err-verdicts-clause-stopped
returns-in_err-verdicts-clause-stopped g c =
    let ps = (making_of c.args.pool.now.task.plan) in
    let p = err_from_is_err_and c.from_residual.result c.from_residual.ensures.1 in
    rw (p.1, p.2) (λ vl_table capture ledger frames h.
    shared_stops g.W.OutSink g.L.OutSink ps vl_table capture ledger _ frames c.args.round c.args.self.now c.args.flight.now h
    (h.written.capture_failures, h.written.ledger_failures))

pub returns-in-Err-clause-stopped : goal.returns-in-Err-clause-stopped
returns-in-Err-clause-stopped g c =
    let ps = (making_of c.args.pool.now.task.plan) in
    λ vl_table capture ledger frames h.
    shared_stops g.W.OutSink g.L.OutSink ps vl_table capture ledger _ frames c.args.round c.args.self.now c.args.flight.now h
    (no_sink_fails c.fault_of_pool.result _ _ _ _ c.fault_of_pool.ensures h.written.capture_failures h.written.ledger_failures)

pub returns-in_err-settle_round-clause-stopped : goal.returns-in_err-settle_round-clause-stopped
returns-in_err-settle_round-clause-stopped g c =
    let ps = (making_of c.args.pool.now.task.plan) in
    let p = err_from_is_err_and c.from_residual-in_err-settle_round.result c.from_residual-in_err-settle_round.ensures.1 in
    rw (p.1, p.2) (λ vl_table capture ledger frames h.
    stops_longer _ ps vl_table capture ledger _ _ frames c.args.round
    ((rw c.put.ensures.pool at c.in_err-settle_round.ensures.stopped) vl_table capture ledger frames c.args.self.now.lanes h))

pub returns-clause-written : goal.returns-clause-written
returns-clause-written g c = λ vl_table capture ledger frames h. record {
  first = frames;
  before = c.args.self.now.lanes;
  all = ap (λ (r : JudgedRound). frames ++ r.frames) (sym c.in-Ok.ensures.round);
  lanes = rw c.settle_round.ensures.lanes (c.in_ok-verdicts.ensures.after vl_table frames h.lanes);
  written = (rw c.put.ensures.pool at c.in_ok-settle_round.ensures.written) vl_table capture ledger frames c.args.self.now.lanes h;
  judged = rw c.in-Ok.ensures.round (c.in_ok-verdicts.ensures.verdicts vl_table frames h.lanes);
}
