use Rattle.std.proofs.Common.{[], ap, refl}
use Rattle.std.proofs.KnownBytes.{Appends-nil}
use Rattle.std.proofs.lemmas.Result.{err_from_is_err_and}
use Rattle.filter_run.specs.Sessions.{lines_left, lines_of}
use Rattle.run_fault.specs.Device.{sink_at}
use Rattle.filter_run.proofs.Answering.{all_answered, at_start, last_answered, line_answered, not_answered}
use Rattle.filter_run.proofs.debug.answer_lines.Goals as goal

pub loop-left-init : goal.loop-left-init
loop-left-init g c = record { printed = []; taken = (Appends-nil (g.W.OutSink.contents c.args.sink.now), refl); on = at_start c.args.session.now (lines_of c.args.text.now) }

pub returns-in_err-answer_line : goal.returns-in_err-answer_line
returns-in_err-answer_line g c =
    let sink = sink_at g.W.OutSink in
    let at = c.loop-left.invariant in
    let p = err_from_is_err_and c.from_residual.result c.from_residual.ensures.1 in
    rw (p.1, p.2) (not_answered c.args.session.now c.loop-left.session c.answer_line.new.session (lines_of c.args.text.now) (lines_of c.in-Some.text.now)
    (lines_left c.next_line.result.1) c.next_line.result.0.now at.printed (sink c.args.sink.now) (sink c.loop-left.sink) (sink c.answer_line.new.sink)
    (rw c.in-Some.is at at.on) at.taken c.next_line.ensures.lines _ c.in_err-answer_line.ensures)

pub returns-then-not-branch : goal.returns-then-not-branch
returns-then-not-branch g c =
    let sink = sink_at g.W.OutSink in
    let at = c.loop-left.invariant in
    last_answered c.args.session.now c.loop-left.session c.answer_line.new.session (lines_of c.args.text.now) (lines_of c.in-Some.text.now)
    (lines_left c.next_line.result.1) c.next_line.result.0.now at.printed (sink c.args.sink.now) (sink c.loop-left.sink) (sink c.answer_line.new.sink)
    (rw c.in-Some.is at at.on) at.taken c.next_line.ensures.lines c.in_ok-answer_line.field-0 c.if-not-branch.true c.in_ok-answer_line.ensures

pub loop-left-preserved : goal.loop-left-preserved
loop-left-preserved g c =
    let sink = sink_at g.W.OutSink in
    let at = c.loop-left.invariant in
    let more = line_answered c.args.session.now c.loop-left.session c.answer_line.new.session (lines_of c.args.text.now) (lines_of c.in-Some.text.now)
    (lines_left c.next_line.result.1) c.next_line.result.0.now at.printed (sink c.args.sink.now) (sink c.loop-left.sink) (sink c.answer_line.new.sink)
    (rw c.in-Some.is at at.on) at.taken c.next_line.ensures.lines c.in_ok-answer_line.field-0 c.if-not-branch.false c.in_ok-answer_line.ensures in
    record { printed = more.0; taken = more.1; on = more.2 }

pub returns : goal.returns
returns g c =
    let sink = sink_at g.W.OutSink in
    let at = c.loop-left.invariant in
    all_answered c.args.session.now c.loop-left.session (lines_of c.args.text.now) (lines_left c.loop-left.left) at.printed (sink c.args.sink.now) (sink c.loop-left.sink)
    at.on at.taken (ap lines_left c.in_default.is)
