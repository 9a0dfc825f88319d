use Rattle.std.proofs.lemmas.Result.{err_from_is_err_and}
use Rattle.cut_run.proofs.Printed.{found_none, found_one, none_found}
use Rattle.cut_run.proofs.print.check.Goals as goal

pub returns-in-None : goal.returns-in-None
returns-in-None g c = λ before vs h. none_found g.S.TapSource g.T.TapSource before vs c.args.line.now c.args.recordings.now c.in-None.is h

pub returns-in_err-find-in-Some : goal.returns-in_err-find-in-Some
returns-in_err-find-in-Some g c = λ before vs h.
    (let p = err_from_is_err_and c.from_residual.result c.from_residual.ensures.1 in
    rw (p.1, p.2)
    (found_none g.S.TapSource g.T.TapSource before vs c.args.line.now c.args.number _ c.in-Some.recordings c.find.new.self (rw c.in-Some.is at h)
    (λ b fs fa fb named. c.in_err-find-in-Some.ensures b.a b.b vs fs fa fb named)))

pub returns-in_ok-find-in-Some : goal.returns-in_ok-find-in-Some
returns-in_ok-find-in-Some g c = λ before vs h.
    found_one g.S.TapSource g.T.TapSource before vs c.args.line.now c.in_ok-find-in-Some.field-0 c.in-Some.recordings c.find.new.self (rw c.in-Some.is at h)
    (λ b fs fa fb named. c.in_ok-find-in-Some.ensures b.a b.b vs fs fa fb named)
