use Rattle.std.proofs.Common.{inr}
use Rattle.std.proofs.lemmas.Result.{err_from_is_err_and}
use Rattle.tap_merge.proofs.RingItems.{stops_with, takes_none}
use Rattle.watch_run.proofs.Sharing.{no_source, settled_shared, shared_room}
use Rattle.watch_run.specs.Filters.{making_of}
use Rattle.watch_run.proofs.running.settle_idle.Goals as goal

pub returns-then-is_soon_ready-clause-sharing : goal.returns-then-is_soon_ready-clause-sharing
returns-then-is_soon_ready-clause-sharing g c = λ vl_table capture ledger h. record {
  cut = h.cut;
  taken = c.is_soon_ready.ensures.same vl_table.late h.cut h.taken;
  shared = h.shared;
  capture_going = h.capture_going;
  ledger_going = h.ledger_going;
}

pub settle_round-requires-clause-room : goal.settle_round-requires-clause-room
settle_round-requires-clause-room g c κs within =
    let begun = c.requires.begun in
    shared_room g.W.OutSink g.L.OutSink (making_of c.args.pool.now.task.plan) begun.0 begun.1 begun.2 c.args.rings.now c.args.outputs.now c.args.flight.now begun.3

pub returns-in_err-settle_round-clause-stopped : goal.returns-in_err-settle_round-clause-stopped
returns-in_err-settle_round-clause-stopped g c =
    let p = err_from_is_err_and c.from_residual.result c.from_residual.ensures.1 in
    let rings = c.is_soon_ready.new.self in
    rw (p.1, p.2) (λ vl_table capture ledger h.
    (let stops = c.in_err-settle_round.ensures.stopped vl_table capture ledger h.cut c.args.outputs.now.lanes h.shared in
    record {
      cut = h.cut;
      taken = stops_with vl_table.late h.cut rings rings.a rings.b (c.is_soon_ready.ensures.same vl_table.late h.cut h.taken) (takes_none rings.a) (takes_none rings.b);
      why = inr stops;
      safe = no_source _ c.in_err-settle_round.field-0.0 (making_of c.args.pool.now.task.plan) vl_table capture ledger _ _ h.cut stops;
    }))

pub returns-clause-sharing : goal.returns-clause-sharing
returns-clause-sharing g c = λ vl_table capture ledger h. record {
  cut = h.cut;
  taken = c.is_soon_ready.ensures.same vl_table.late h.cut h.taken;
  shared = settled_shared g.W.OutSink g.L.OutSink (making_of c.args.pool.now.task.plan) vl_table capture ledger h.cut c.settle_round.new.self c.args.outputs.now.lanes _
      c.settle_round.ensures.lanes c.settle_round.ensures.none
      (c.in_ok-settle_round.ensures.written vl_table capture ledger h.cut c.args.outputs.now.lanes h.shared);
  capture_going = c.in_ok-settle_round.ensures.capture_going;
  ledger_going = c.in_ok-settle_round.ensures.ledger_going;
}
