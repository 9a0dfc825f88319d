use Rattle.std.proofs.Common.{◌≡◌, ◌∙◌, ap, refl, Ok}
use Rattle.watch_run.proofs.ChunkSharing.{all_written, none_shared}
use Rattle.tap_merge.proofs.RingItems.{same_trans, takes_none}
use Rattle.watch_run.proofs.Feeding.{begins_feeding, feeding_now, still_feeding}
use Rattle.watch_run.specs.Filters.{making_of}
use Rattle.watch_run.proofs.running.write_rounds.Goals as goal

pub loop-init : goal.loop-init
loop-init g c = record {
  pool = refl;
  task = tt;
  feeding = begins_feeding g.S.TapSource g.T.TapSource c.args.feeds.now c.requires.feeding;
  a = (takes_none c.args.rings.now.a).same;
  b = (takes_none c.args.rings.now.b).same;
  running = λ vl_table capture ledger h. record {
    cut = h.cut;
    taken = h.taken;
    shared = none_shared g.W.OutSink g.L.OutSink (making_of c.args.pool.now.task.plan) vl_table capture ledger h.cut c.args.outputs h.written;
    capture_going = h.capture_going;
    ledger_going = h.ledger_going;
  };
}

pub settle_idle-idle-requires-clause-begun : goal.settle_idle-idle-requires-clause-begun
settle_idle-idle-requires-clause-begun g c κs within =
    let begun = c.requires.begun in
    (begun.0, begun.1, begun.2, rw c.loop.invariant.pool (c.loop.invariant.running begun.0 begun.1 begun.2 begun.3))

pub returns-in-Err-clause-written : goal.returns-in-Err-clause-written
returns-in-Err-clause-written g c =
    let before = c.args.rings.now in
    let rings = c.settle_idle-idle.new.rings in
    record {
      same_a = same_trans before.a c.loop.rings.a rings.a c.loop.invariant.a c.settle_idle-idle.ensures.a;
      same_b = same_trans before.b c.loop.rings.b rings.b c.loop.invariant.b c.settle_idle-idle.ensures.b;
      running = tt;
      ended = tt;
      stopped = rw c.unwritten.ensures (λ vl_table capture ledger h.
          (rw c.loop.invariant.pool at c.in-Err.ensures.stopped) vl_table capture ledger (c.loop.invariant.running vl_table capture ledger h));
    }

pub write_next-requires-clause-begun : goal.write_next-requires-clause-begun
write_next-requires-clause-begun g c κs within =
    let begun = c.requires.begun in
    let pool : c.settle_idle-idle.new.pool ≡ c.args.pool.now = c.settle_idle-idle.ensures.pool ∙ c.loop.invariant.pool in (
      begun.0,
      begun.1,
      begun.2,
      rw pool ((rw c.loop.invariant.pool at c.in_default.ensures.sharing) begun.0 begun.1 begun.2 (c.loop.invariant.running begun.0 begun.1 begun.2 begun.3)),
    )

pub loop-preserved : goal.loop-preserved
loop-preserved g c =
    let before = c.args.rings.now in
    let idle = c.settle_idle-idle.new.rings in
    let rings = c.write_next.new.rings in
    let pool : c.settle_idle-idle.new.pool ≡ c.args.pool.now = c.settle_idle-idle.ensures.pool ∙ c.loop.invariant.pool in
    record {
      pool = c.write_next.ensures.pool ∙ pool;
      task = rw pool at c.write_next.ensures.task;
      feeding = still_feeding g.S.TapSource g.T.TapSource c.args.feeds.now c.loop.feeds c.fill.new.self c.loop.invariant.feeding c.fill.ensures.kept;
      a = same_trans before.a idle.a rings.a (same_trans before.a c.loop.rings.a idle.a c.loop.invariant.a c.settle_idle-idle.ensures.a) c.write_next.ensures.stepped.same_a;
      b = same_trans before.b idle.b rings.b (same_trans before.b c.loop.rings.b idle.b c.loop.invariant.b c.settle_idle-idle.ensures.b) c.write_next.ensures.stepped.same_b;
      running = λ vl_table capture ledger h.
          (rw pool at c.in-Ok-true.ensures.stepped).sharing vl_table capture ledger
          ((rw c.loop.invariant.pool at c.in_default.ensures.sharing) vl_table capture ledger (c.loop.invariant.running vl_table capture ledger h));
    }

pub returns-in-Ok-false-clause-written : goal.returns-in-Ok-false-clause-written
returns-in-Ok-false-clause-written g c =
    let before = c.args.rings.now in
    let idle = c.settle_idle-idle.new.rings in
    let rings = c.write_next.new.rings in
    let pool : c.settle_idle-idle.new.pool ≡ c.args.pool.now = c.settle_idle-idle.ensures.pool ∙ c.loop.invariant.pool in
    let stepped = rw pool at c.in-Ok-false.ensures.stepped in
    let ended = stepped.ended (ap Ok c.in-Ok-false.field-0-test) in
    record {
      same_a = same_trans before.a idle.a rings.a (same_trans before.a c.loop.rings.a idle.a c.loop.invariant.a c.settle_idle-idle.ensures.a) c.write_next.ensures.stepped.same_a;
      same_b = same_trans before.b idle.b rings.b (same_trans before.b c.loop.rings.b idle.b c.loop.invariant.b c.settle_idle-idle.ensures.b) c.write_next.ensures.stepped.same_b;
      running = λ vl_table capture ledger h.
          (let s = stepped.sharing vl_table capture ledger
          ((rw c.loop.invariant.pool at c.in_default.ensures.sharing) vl_table capture ledger (c.loop.invariant.running vl_table capture ledger h)) in
          record {
            cut = s.cut;
            taken = s.taken;
            written = all_written g.W.OutSink g.L.OutSink (making_of c.args.pool.now.task.plan) vl_table capture ledger s.cut c.write_next.new.outputs.lanes
                c.write_next.new.outputs.capture c.write_next.new.outputs.ledger c.write_next.new.flight s.shared ended.3;
            capture_going = s.capture_going;
            ledger_going = s.ledger_going;
          });
      ended = (ended.0, ended.1, ended.2);
      stopped = tt;
    }

pub returns-in-Err-write_next-clause-written : goal.returns-in-Err-write_next-clause-written
returns-in-Err-write_next-clause-written g c =
    let before = c.args.rings.now in
    let idle = c.settle_idle-idle.new.rings in
    let rings = c.write_next.new.rings in
    let pool : c.settle_idle-idle.new.pool ≡ c.args.pool.now = c.settle_idle-idle.ensures.pool ∙ c.loop.invariant.pool in
    let stepped = rw pool at c.in-Err-write_next.ensures.stepped in
    record {
      same_a = same_trans before.a idle.a rings.a (same_trans before.a c.loop.rings.a idle.a c.loop.invariant.a c.settle_idle-idle.ensures.a) c.write_next.ensures.stepped.same_a;
      same_b = same_trans before.b idle.b rings.b (same_trans before.b c.loop.rings.b idle.b c.loop.invariant.b c.settle_idle-idle.ensures.b) c.write_next.ensures.stepped.same_b;
      running = tt;
      ended = tt;
      stopped = rw c.unwritten-in-Err-write_next.ensures (λ vl_table capture ledger h.
          stepped.stopped vl_table capture ledger
          ((rw c.loop.invariant.pool at c.in_default.ensures.sharing) vl_table capture ledger (c.loop.invariant.running vl_table capture ledger h)));
    }

pub fill-requires : goal.fill-requires
fill-requires g c = feeding_now g.S.TapSource g.T.TapSource c.args.feeds.now c.loop.feeds c.loop.invariant.feeding
