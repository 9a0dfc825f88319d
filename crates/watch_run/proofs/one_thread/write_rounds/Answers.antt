use Rattle.std.proofs.Common.{◌++◌, refl, rules}
use Rattle.std.proofs.lemmas.Result.{err_from_is_err_and}
use Rattle.tap_merge.proofs.TwoTaps.{part_of}
use Rattle.watch_run.proofs.Watching.{frames_counted, no_round, room_left, round_follows, some_round, stops_by_merging, stops_by_writing}
use Rattle.watch_run.proofs.WholeOrder.{cut_is_first}
use Rattle.watch_run.specs.Filters.{making_of}
use Rattle.watch_run.proofs.one_thread.write_rounds.Goals as goal

pub next_round-requires : goal.next_round-requires
next_round-requires g c =
    let begun = c.requires.begun in
    (c.loop-entries.invariant.watching begun.0 begun.1 begun.2).agree

pub returns-in_err-round-clause-stopped : goal.returns-in_err-round-clause-stopped
returns-in_err-round-clause-stopped g c =
    let p = err_from_is_err_and c.from_residual.result c.from_residual.ensures.1 in
    rw (p.1, p.2) (λ vl_table before h.
    (let w = c.loop-entries.invariant.watching vl_table before h in
    stops_by_merging _ (making_of c.args.plan.now) vl_table before w.cut _ _ _ _
    (cut_is_first _ _ vl_table.late before.a before.b w.frames_a w.frames_b w.cut c.loop-entries.taps w.merged w.agree)
    (c.in_err-round.ensures.stopped vl_table.late before.a before.b w.frames_a w.frames_b w.cut w.merged)
    w.written.packets w.written.lines w.written.capture_failures w.written.ledger_failures))

pub write_round-requires-clause-follows : goal.write_round-requires-clause-follows
write_round-requires-clause-follows g c =
    let begun = c.requires.begun in
    let w = c.loop-entries.invariant.watching begun.0 begun.1 begun.2 in
    let m = c.in_ok-round.ensures.merged (begun.0).late (begun.1).a (begun.1).b w.frames_a w.frames_b w.cut w.merged in
    let cut = some_round _ _ _ _ _ _ _ w.cut _ _ _ c.in-Some.round c.in-Some.round m.2 c.in-Some.is refl in
    rw w.written.lanes.last (round_follows m.0 m.1 w.cut c.in-Some.round c.next_round.new.self.merger.pending cut.follows.order)

pub write_round-requires-clause-room : goal.write_round-requires-clause-room
write_round-requires-clause-room g c =
    let begun = c.requires.begun in
    let w = c.loop-entries.invariant.watching begun.0 begun.1 begun.2 in
    let m = c.in_ok-round.ensures.merged (begun.0).late (begun.1).a (begun.1).b w.frames_a w.frames_b w.cut w.merged in
    let cut = some_round _ _ _ _ _ _ _ w.cut _ _ _ c.in-Some.round c.in-Some.round m.2 c.in-Some.is refl in
    (room_left (begun.0).late (begun.1).a (begun.1).b m.0 m.1 w.cut c.in-Some.round c.next_round.new.self.merger.pending _ _ _ _ _
    cut.read_a.read cut.read_b.read cut.follows.order
    (frames_counted (making_of c.args.plan.now) begun.0 w.cut _ w.written.tally.tally.totals))

pub write_round-requires-clause-capture_going : goal.write_round-requires-clause-capture_going
write_round-requires-clause-capture_going g c =
    let begun = c.requires.begun in
    (c.loop-entries.invariant.watching begun.0 begun.1 begun.2).capture_going

pub write_round-requires-clause-ledger_going : goal.write_round-requires-clause-ledger_going
write_round-requires-clause-ledger_going g c =
    let begun = c.requires.begun in
    (c.loop-entries.invariant.watching begun.0 begun.1 begun.2).ledger_going

pub returns-in_err-write_round-clause-stopped : goal.returns-in_err-write_round-clause-stopped
returns-in_err-write_round-clause-stopped g c =
    let p = err_from_is_err_and c.from_residual-in_err-write_round.result c.from_residual-in_err-write_round.ensures.1 in
    rw (p.1, p.2) (λ vl_table before h.
    (let w = c.loop-entries.invariant.watching vl_table before h in
    let m = c.in_ok-round.ensures.merged vl_table.late before.a before.b w.frames_a w.frames_b w.cut w.merged in
    let cut = some_round _ _ _ _ _ _ _ w.cut _ _ _ c.in-Some.round c.in-Some.round m.2 c.in-Some.is refl in
    stops_by_writing _ (making_of c.args.plan.now) vl_table before m.0 m.1 (w.cut ++ c.in-Some.round) c.next_round.new.self.merger.pending _ _ _ _
    (cut_is_first _ _ vl_table.late before.a before.b m.0 m.1 (w.cut ++ c.in-Some.round) c.next_round.new.self cut c.in_ok-round.ensures.agree)
    (part_of _ _ _ _ _ _ cut.read_a) (part_of _ _ _ _ _ _ cut.read_b) cut.follows.order cut.read_a.failures cut.read_b.failures
    (c.in_err-write_round.ensures.stopped vl_table before.capture before.ledger w.cut w.written)))

pub loop-entries-preserved : goal.loop-entries-preserved
loop-entries-preserved g c = record {
  watching = λ vl_table before h.
      (let w = c.loop-entries.invariant.watching vl_table before h in
      let m = c.in_ok-round.ensures.merged vl_table.late before.a before.b w.frames_a w.frames_b w.cut w.merged in
      record {
        frames_a = m.0;
        frames_b = m.1;
        cut = w.cut ++ c.in-Some.round;
        merged = some_round _ _ _ _ _ _ _ w.cut _ _ _ c.in-Some.round c.in-Some.round m.2 c.in-Some.is refl;
        written = c.in_ok-write_round.ensures.written vl_table before.capture before.ledger w.cut w.written;
        agree = c.in_ok-round.ensures.agree;
        capture_going = c.in_ok-write_round.ensures.capture_going;
        ledger_going = c.in_ok-write_round.ensures.ledger_going;
      });
}

pub returns-clause-watching : goal.returns-clause-watching
returns-clause-watching g c = λ vl_table before h.
    (let w = c.loop-entries.invariant.watching vl_table before h in
    let m = c.in_ok-round.ensures.merged vl_table.late before.a before.b w.frames_a w.frames_b w.cut w.merged in
    record {
      frames_a = m.0;
      frames_b = m.1;
      cut = w.cut;
      merged = no_round _ _ _ _ _ _ _ w.cut _ _ c.in_ok-round.field-0 m.2 (search rules);
      written = w.written;
      agree = c.in_ok-round.ensures.agree;
      capture_going = w.capture_going;
      ledger_going = w.ledger_going;
    })
