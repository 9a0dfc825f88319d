use Rattle.std.proofs.Common.{◌≡◌, string_bytes, sym}
use Rattle.std.proofs.lemmas.Result.{err_from_is_err_and}
use Rattle.run_fault.specs.Device.{sink_at}
use Rattle.filter_run.proofs.SessionRuns.{not_begun, session_run}
use Rattle.filter_run.proofs.debug.run_session.Goals as goal

pub returns-in_err-session : goal.returns-in_err-session
returns-in_err-session g c =
    let p = err_from_is_err_and c.from_residual.result c.from_residual.ensures.1 in
    rw (p.1, p.2) (not_begun c.args.program c.args.frames.items _ _ (string_bytes c.in-Ok.text) (c.in-Ok.ensures.whole, c.in-Ok.ensures.no_failure) _ _ _ c.in_err-session.ensures)

pub returns : goal.returns
returns g c =
    let sink = sink_at g.W.OutSink in
    let lines : string_bytes c.in-Ok.text ≡ c.deref.result.now = sym c.deref.ensures in
    session_run c.args.program c.args.frames.items _ _ (string_bytes c.in-Ok.text) (c.in-Ok.ensures.whole, c.in-Ok.ensures.no_failure) c.answer_lines.result c.in_ok-session.session c.answer_lines.new.session (sink c.args.sink.now) (sink c.begin_session.new.sink) (sink c.answer_lines.new.sink)
    c.in_ok-session.ensures (rw lines c.answer_lines.ensures)
