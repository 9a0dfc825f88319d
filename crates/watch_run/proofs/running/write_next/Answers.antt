use Rattle.std.proofs.Common.{◌++◌, ap, inl, inr, refl, Ok}
use Rattle.std.proofs.lemmas.Result.{err_from_is_err_and}
use Rattle.tap_merge.proofs.RingItems.{stops_with, takes_none, where_failed}
use Rattle.watch_run.proofs.RoundsTaken.{none_taken, some_taken}
use Rattle.watch_run.proofs.Sharing.{cut_safe, no_source, settled_shared, shared_follows, shared_room, whole_rounds}
use Rattle.watch_run.specs.Filters.{making_of}
use Rattle.watch_run.proofs.running.write_next.Goals as goal

pub share_round-requires-clause-follows : goal.share_round-requires-clause-follows
share_round-requires-clause-follows g c κs within =
    let begun = c.requires.begun in
    let h = begun.3 in
    shared_follows g.W.OutSink g.L.OutSink (making_of c.args.pool.now.task.plan) begun.0 begun.1 begun.2 c.args.rings.now c.next_round.new.self c.args.outputs.now c.args.flight.now
    c.in-Ok-Some.round h
    (some_taken begun.0.late h.cut c.next_round.new.self _ c.in-Ok-Some.field-0 c.in-Ok-Some.round c.in-Ok-Some.round
    (c.in-Ok-Some.ensures.merged begun.0.late h.cut h.taken) c.in-Ok-Some.field-0-is refl)

pub share_round-requires-clause-room : goal.share_round-requires-clause-room
share_round-requires-clause-room g c κs within =
    let begun = c.requires.begun in
    shared_room g.W.OutSink g.L.OutSink (making_of c.args.pool.now.task.plan) begun.0 begun.1 begun.2 c.args.rings.now c.args.outputs.now c.args.flight.now begun.3

pub settle_round-requires-clause-room : goal.settle_round-requires-clause-room
settle_round-requires-clause-room g c κs within =
    let begun = c.requires.begun in
    shared_room g.W.OutSink g.L.OutSink (making_of c.args.pool.now.task.plan) begun.0 begun.1 begun.2 c.args.rings.now c.args.outputs.now c.args.flight.now begun.3

pub settle_round-requires-in-Err-clause-room : goal.settle_round-requires-in-Err-clause-room
settle_round-requires-in-Err-clause-room g c κs within =
    let begun = c.requires.begun in
    shared_room g.W.OutSink g.L.OutSink (making_of c.args.pool.now.task.plan) begun.0 begun.1 begun.2 c.args.rings.now c.args.outputs.now c.args.flight.now begun.3

pub returns-in_err-share_round-in-Ok-Some-clause-stepped : goal.returns-in_err-share_round-in-Ok-Some-clause-stepped
returns-in_err-share_round-in-Ok-Some-clause-stepped g c =
    let p = err_from_is_err_and c.from_residual.result c.from_residual.ensures.1 in
    let rings = c.next_round.new.self in
    rw (p.1, p.2) (record {
      same_a = c.next_round.ensures.a;
      same_b = c.next_round.ensures.b;
      sharing = tt;
      ended = λ is. (let wrong : ⊥ = cc is in absurd wrong);
      stopped = λ vl_table capture ledger h.
          (let taken = some_taken vl_table.late h.cut rings _ c.in-Ok-Some.field-0 c.in-Ok-Some.round c.in-Ok-Some.round
          (c.in-Ok-Some.ensures.merged vl_table.late h.cut h.taken) c.in-Ok-Some.field-0-is refl in
          record {
            cut = h.cut ++ c.in-Ok-Some.round;
            taken = stops_with vl_table.late (h.cut ++ c.in-Ok-Some.round) rings rings.a rings.b taken (takes_none rings.a) (takes_none rings.b);
            why = inr (c.in_err-share_round-in-Ok-Some.ensures.stopped vl_table capture ledger h.cut h.shared);
            safe = no_source _ c.in_err-share_round-in-Ok-Some.field-0.0 (making_of c.args.pool.now.task.plan) vl_table capture ledger _ _ _
                (c.in_err-share_round-in-Ok-Some.ensures.stopped vl_table capture ledger h.cut h.shared);
          });
    })

pub returns-in_ok-share_round-in-Ok-Some-clause-stepped : goal.returns-in_ok-share_round-in-Ok-Some-clause-stepped
returns-in_ok-share_round-in-Ok-Some-clause-stepped g c =
    let rings = c.next_round.new.self in
    record {
      same_a = c.next_round.ensures.a;
      same_b = c.next_round.ensures.b;
      sharing = λ vl_table capture ledger h. record {
        cut = h.cut ++ c.in-Ok-Some.round;
        taken = some_taken vl_table.late h.cut rings _ c.in-Ok-Some.field-0 c.in-Ok-Some.round c.in-Ok-Some.round
            (c.in-Ok-Some.ensures.merged vl_table.late h.cut h.taken) c.in-Ok-Some.field-0-is refl;
        shared = c.in_ok-share_round-in-Ok-Some.ensures.written vl_table capture ledger h.cut h.shared;
        capture_going = c.in_ok-share_round-in-Ok-Some.ensures.capture_going;
        ledger_going = c.in_ok-share_round-in-Ok-Some.ensures.ledger_going;
      };
      ended = λ is. (let wrong : ⊥ = cc is in absurd wrong);
      stopped = tt;
    }

pub returns-in_err-settle_round-in-Ok-None-clause-stepped : goal.returns-in_err-settle_round-in-Ok-None-clause-stepped
returns-in_err-settle_round-in-Ok-None-clause-stepped g c =
    let p = err_from_is_err_and c.from_residual-in_err-settle_round-in-Ok-None.result c.from_residual-in_err-settle_round-in-Ok-None.ensures.1 in
    let rings = c.next_round.new.self in
    rw (p.1, p.2) (record {
      same_a = c.next_round.ensures.a;
      same_b = c.next_round.ensures.b;
      sharing = tt;
      ended = λ is. (let wrong : ⊥ = cc is in absurd wrong);
      stopped = λ vl_table capture ledger h.
          (let taken = none_taken vl_table.late h.cut rings _ c.in-Ok-None.field-0 (c.in-Ok-None.ensures.merged vl_table.late h.cut h.taken) c.in-Ok-None.field-0-is in
          record {
            cut = h.cut;
            taken = stops_with vl_table.late h.cut rings rings.a rings.b taken (takes_none rings.a) (takes_none rings.b);
            why = inr (c.in_err-settle_round-in-Ok-None.ensures.stopped vl_table capture ledger h.cut c.args.outputs.now.lanes h.shared);
            safe = no_source _ c.in_err-settle_round-in-Ok-None.field-0.0 (making_of c.args.pool.now.task.plan) vl_table capture ledger _ _ _
                (c.in_err-settle_round-in-Ok-None.ensures.stopped vl_table capture ledger h.cut c.args.outputs.now.lanes h.shared);
          });
    })

pub returns-in_ok-settle_round-in-Ok-None-clause-stepped : goal.returns-in_ok-settle_round-in-Ok-None-clause-stepped
returns-in_ok-settle_round-in-Ok-None-clause-stepped g c =
    let rings = c.next_round.new.self in
    let ended = c.in-Ok-None.ensures.ended (ap Ok c.in-Ok-None.field-0-is) in
    record {
      same_a = c.next_round.ensures.a;
      same_b = c.next_round.ensures.b;
      sharing = λ vl_table capture ledger h. record {
        cut = h.cut;
        taken = none_taken vl_table.late h.cut rings _ c.in-Ok-None.field-0 (c.in-Ok-None.ensures.merged vl_table.late h.cut h.taken) c.in-Ok-None.field-0-is;
        shared = settled_shared g.W.OutSink g.L.OutSink (making_of c.args.pool.now.task.plan) vl_table capture ledger h.cut c.settle_round.new.self c.args.outputs.now.lanes _
            c.settle_round.ensures.lanes c.settle_round.ensures.none
            (c.in_ok-settle_round-in-Ok-None.ensures.written vl_table capture ledger h.cut c.args.outputs.now.lanes h.shared);
        capture_going = c.in_ok-settle_round-in-Ok-None.ensures.capture_going;
        ledger_going = c.in_ok-settle_round-in-Ok-None.ensures.ledger_going;
      };
      ended = λ is. (ended.0, ended.1, ended.2, c.settle_round.ensures.none);
      stopped = tt;
    }

pub returns-in_err-settle_round-in-Err-clause-stepped : goal.returns-in_err-settle_round-in-Err-clause-stepped
returns-in_err-settle_round-in-Err-clause-stepped g c =
    let p = err_from_is_err_and c.from_residual-in_err-settle_round-in-Err.result c.from_residual-in_err-settle_round-in-Err.ensures.1 in
    rw (p.1, p.2) (record {
      same_a = c.next_round.ensures.a;
      same_b = c.next_round.ensures.b;
      sharing = tt;
      ended = λ is. (let wrong : ⊥ = cc is in absurd wrong);
      stopped = λ vl_table capture ledger h. record {
        cut = h.cut;
        taken = c.in-Err.ensures.stopped vl_table.late h.cut h.taken;
        why = inr (c.in_err-settle_round-in-Err.ensures.stopped vl_table capture ledger h.cut c.args.outputs.now.lanes h.shared);
        safe = no_source _ c.in_err-settle_round-in-Err.field-0.0 (making_of c.args.pool.now.task.plan) vl_table capture ledger _ _ _
            (c.in_err-settle_round-in-Err.ensures.stopped vl_table capture ledger h.cut c.args.outputs.now.lanes h.shared);
      };
    })

pub returns-in_ok-settle_round-in-Err-clause-stepped : goal.returns-in_ok-settle_round-in-Err-clause-stepped
returns-in_ok-settle_round-in-Err-clause-stepped g c = record {
  same_a = c.next_round.ensures.a;
  same_b = c.next_round.ensures.b;
  sharing = tt;
  ended = λ is. (let wrong : ⊥ = cc is in absurd wrong);
  stopped = λ vl_table capture ledger h. record {
    cut = h.cut;
    taken = c.in-Err.ensures.stopped vl_table.late h.cut h.taken;
    why = inl (
      c.in-Err.ensures.fault,
      whole_rounds g.W.OutSink g.L.OutSink (making_of c.args.pool.now.task.plan) vl_table capture ledger h.cut c.settle_round-in-Err.new.self c.args.outputs.now.lanes
          (c.in_ok-settle_round-in-Err.ensures.written vl_table capture ledger h.cut c.args.outputs.now.lanes h.shared),
    );
    safe = where_failed c.in-Err.fault (λ told. cut_safe vl_table.late h.cut c.next_round.new.self (told.1 vl_table.late h.cut h.taken) told.0) c.in-Err.ensures.none_safe;
  };
}
