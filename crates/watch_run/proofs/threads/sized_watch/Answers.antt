use Rattle.std.proofs.Common.{inr, length, rules}
use Rattle.run_fault.specs.Device.{sink_at, source_at}
use Rattle.watch_run.specs.Round.{IsFilterCount}
use Rattle.run_fault.specs.Opening.{watch_devices}
use Rattle.watch_run.proofs.Starting.{err_of, ok_of}
use Rattle.watch_run.proofs.Watching.{some_filters}
use Rattle.watch_run.specs.Filters.{making_of}
use Rattle.watch_run.proofs.threads.sized_watch.Goals as goal

pub returns-clause-watched : goal.returns-clause-watched
returns-clause-watched g c =
    let before = watch_devices (source_at g.S.TapSource c.args.a) (source_at g.T.TapSource c.args.b)
    (sink_at g.W.OutSink c.args.capture) (sink_at g.L.OutSink c.args.ledger) in
    let number : IsFilterCount (length (making_of c.args.plan).filters) = (some_filters _ _ c.is_empty.ensures c.if-is_empty.false, search rules) in
    ok_of c.run_threads.result _ _ (c.run_threads.ensures c.args.config.now before number c.in-Ok.ensures.ready) (λ done watched. (search rules, watched))

pub returns-clause-aborted : goal.returns-clause-aborted
returns-clause-aborted g c =
    let before = watch_devices (source_at g.S.TapSource c.args.a) (source_at g.T.TapSource c.args.b)
    (sink_at g.W.OutSink c.args.capture) (sink_at g.L.OutSink c.args.ledger) in
    let number : IsFilterCount (length (making_of c.args.plan).filters) = (some_filters _ _ c.is_empty.ensures c.if-is_empty.false, search rules) in
    err_of c.run_threads.result _ _ (c.run_threads.ensures c.args.config.now before number c.in-Ok.ensures.ready)
    (λ refused aborts. inr (inr (inr (search rules, number, aborts))))
