use Rattle.afdx_frame.specs.declared.key.Network.TheVariants.{A, B}
use Rattle.watch_run.proofs.Feeding.{reads_of}
use Rattle.watch_run.proofs.Starting.{both_ways, ready_runs, same_run, same_start}
use Rattle.watch_run.specs.Filters.{making_of}
use Rattle.watch_run.proofs.threads.run_ready.Goals as goal

pub finish-requires-clause-going : goal.finish-requires-clause-going
finish-requires-clause-going g c =
    let begun = c.requires.ready in
    let runs = ready_runs _ _ _ _ (making_of c.args.task.plan) begun.0 begun.1 c.args.ready begun.2 in
    let started = c.start-running.ensures in
    (c.in-Ok.ensures.written.running begun.0 begun.1.capture begun.1.ledger
    (same_run _ _ (making_of c.args.task.plan) begun.0 begun.1.capture begun.1.ledger c.args.ready.rings c.start-running.result.0.rings c.args.ready.outputs
    c.start-running.result.1 started.started.rings started.outputs runs)).ledger_going

pub returns-in-Ok : goal.returns-in-Ok
returns-in-Ok g c = λ vl_table before number h.
    (let ps = (making_of c.args.task.plan) in
    let started = c.start-running.ensures in
    let reads = reads_of g.S.TapSource g.T.TapSource c.args.ready c.start-running.result.0 c.write_all.new.feeds started.started c.in-Ok.ensures.feeding in
    let started_a = same_start g.S.TapSource A vl_table.late before.a c.args.ready.a _ reads.0 h.a in
    let started_b = same_start g.T.TapSource B vl_table.late before.b c.args.ready.b _ reads.1 h.b in
    let runs = c.in-Ok.ensures.written.running vl_table before.capture before.ledger
    (same_run _ _ ps vl_table before.capture before.ledger c.args.ready.rings c.start-running.result.0.rings c.args.ready.outputs c.start-running.result.1
    started.started.rings started.outputs (ready_runs _ _ _ _ ps vl_table before c.args.ready h)) in
    both_ways c.finish.result c.finish.ensures.watched c.finish.ensures.aborted (λ done watched. watched ps vl_table before started_a started_b runs number)
    (λ refused aborted. aborted ps vl_table before started_a started_b runs))

pub returns-in-Err : goal.returns-in-Err
returns-in-Err g c = λ vl_table before number h.
    (let ps = (making_of c.args.task.plan) in
    let started = c.start-running.ensures in
    let reads = reads_of g.S.TapSource g.T.TapSource c.args.ready c.start-running.result.0 c.write_all.new.feeds started.started c.in-Err.ensures.feeding in
    c.abort.ensures.aborted ps vl_table before
    (same_start g.S.TapSource A vl_table.late before.a c.args.ready.a _ reads.0 h.a)
    (same_start g.T.TapSource B vl_table.late before.b c.args.ready.b _ reads.1 h.b)
    (c.in-Err.ensures.written.stopped vl_table before.capture before.ledger
    (same_run _ _ ps vl_table before.capture before.ledger c.args.ready.rings c.start-running.result.0.rings c.args.ready.outputs c.start-running.result.1
    started.started.rings started.outputs (ready_runs _ _ _ _ ps vl_table before c.args.ready h))))
