use Rattle.std.proofs.Common.{inr, [], subst, rules}
use Rattle.tap_merge.specs.Taps.{HasMerged}
use Rattle.run_fault.specs.Device.{sink_at, source_at}
use Rattle.run_fault.specs.Opening.{watch_devices}
use Rattle.watch_run.proofs.Returned.{aborted}
use Rattle.run_fault.proofs.Results.{with_both, with_err, with_ok}
use Rattle.tap_merge.proofs.TwoTaps.{part_of}
use Rattle.watch_run.proofs.Watching.{has_begun, none_first, some_filters, stops_by_writing}
use Rattle.watch_run.specs.Filters.{making_of}
use Rattle.watch_run.proofs.one_thread.sized_watch_whole.Goals as goal

pub returns-in-Err-begin-clause-aborted : goal.returns-in-Err-begin-clause-aborted
returns-in-Err-begin-clause-aborted g c = rw c.new-in-Err-begin.ensures
    (let before = watch_devices (source_at g.S.TapSource c.args.a) (source_at g.T.TapSource c.args.b)
    (sink_at g.W.OutSink c.args.capture) (sink_at g.L.OutSink c.args.ledger) in
    let merged = subst (λ late. HasMerged g.S.TapSource g.T.TapSource late before.a before.b [] [] [] c.in-Ok.taps)
    c.late.ensures.value c.in-Ok.ensures.opened in
    inr (
      (some_filters _ _ c.is_empty.ensures c.if-is_empty.false, search rules),
      inr (aborted c.in-Err-begin.field-0.fault (making_of c.args.plan.now) c.args.config.now before _ _ _ _ _ (record {
        a_left = c.into_sources-a.ensures.a;
        b_left = c.into_sources-a.ensures.b;
        a_failures = c.into_sources-a.ensures.a_failures;
        b_failures = c.into_sources-a.ensures.b_failures;
      }) (stops_by_writing c.in-Err-begin.field-0.fault (making_of c.args.plan.now) c.args.config.now before [] [] [] c.in-Ok.taps.merger.pending _ _ _ _
          (none_first c.args.config.now.late before.a before.b)
          (part_of _ _ _ _ _ _ merged.read_a) (part_of _ _ _ _ _ _ merged.read_b) merged.follows.order merged.read_a.failures merged.read_b.failures
          c.in-Err-begin.ensures.stopped)),
    ))

pub write_rounds-requires-clause-begun : goal.write_rounds-requires-clause-begun
write_rounds-requires-clause-begun g c =
    let before = watch_devices (source_at g.S.TapSource c.args.a) (source_at g.T.TapSource c.args.b)
    (sink_at g.W.OutSink c.args.capture) (sink_at g.L.OutSink c.args.ledger) in (
      c.args.config.now,
      before,
      has_begun _ _ _ _ _ c.args.config.now before c.in-Ok.taps c.in-Ok-begin.outputs _ c.late.ensures.value c.in-Ok.ensures.opened
          c.in-Ok-begin.ensures.written c.in-Ok.ensures.agree c.in-Ok-begin.ensures.capture_going c.in-Ok-begin.ensures.ledger_going,
    )

pub finish-requires-clause-going : goal.finish-requires-clause-going
finish-requires-clause-going g c =
    let before = watch_devices (source_at g.S.TapSource c.args.a) (source_at g.T.TapSource c.args.b)
    (sink_at g.W.OutSink c.args.capture) (sink_at g.L.OutSink c.args.ledger) in
    (c.in-Ok-write_rounds.ensures.watching c.args.config.now before
    (has_begun _ _ _ _ _ c.args.config.now before c.in-Ok.taps c.in-Ok-begin.outputs _ c.late.ensures.value c.in-Ok.ensures.opened
    c.in-Ok-begin.ensures.written c.in-Ok.ensures.agree c.in-Ok-begin.ensures.capture_going c.in-Ok-begin.ensures.ledger_going)).ledger_going

pub returns-in-Err-write_rounds-clause-aborted : goal.returns-in-Err-write_rounds-clause-aborted
returns-in-Err-write_rounds-clause-aborted g c =
    let before = watch_devices (source_at g.S.TapSource c.args.a) (source_at g.T.TapSource c.args.b)
    (sink_at g.W.OutSink c.args.capture) (sink_at g.L.OutSink c.args.ledger) in
    let begun = has_begun _ _ _ _ _ c.args.config.now before c.in-Ok.taps c.in-Ok-begin.outputs _ c.late.ensures.value c.in-Ok.ensures.opened
    c.in-Ok-begin.ensures.written c.in-Ok.ensures.agree c.in-Ok-begin.ensures.capture_going c.in-Ok-begin.ensures.ledger_going in
    with_both c.stopped.result.a c.stopped.result.b _ _
    (λ a b f. inr ((some_filters _ _ c.is_empty.ensures c.if-is_empty.false, search rules), inr (f (making_of c.args.plan.now) c.args.config.now before (c.in-Err-write_rounds.ensures.stopped c.args.config.now before begun)))) c.stopped.ensures.aborted

pub returns-in-Ok-write_rounds-clause-watched : goal.returns-in-Ok-write_rounds-clause-watched
returns-in-Ok-write_rounds-clause-watched g c =
    let before = watch_devices (source_at g.S.TapSource c.args.a) (source_at g.T.TapSource c.args.b)
    (sink_at g.W.OutSink c.args.capture) (sink_at g.L.OutSink c.args.ledger) in
    let begun = has_begun _ _ _ _ _ c.args.config.now before c.in-Ok.taps c.in-Ok-begin.outputs _ c.late.ensures.value c.in-Ok.ensures.opened
    c.in-Ok-begin.ensures.written c.in-Ok.ensures.agree c.in-Ok-begin.ensures.capture_going c.in-Ok-begin.ensures.ledger_going in
    with_ok c.finish.result _ _
    (λ done f. f (making_of c.args.plan.now) c.args.config.now before (c.in-Ok-write_rounds.ensures.watching c.args.config.now before begun)
    (some_filters _ _ c.is_empty.ensures c.if-is_empty.false, search rules)) c.finish.ensures.watched

pub returns-in-Ok-write_rounds-clause-aborted : goal.returns-in-Ok-write_rounds-clause-aborted
returns-in-Ok-write_rounds-clause-aborted g c =
    let before = watch_devices (source_at g.S.TapSource c.args.a) (source_at g.T.TapSource c.args.b)
    (sink_at g.W.OutSink c.args.capture) (sink_at g.L.OutSink c.args.ledger) in
    let begun = has_begun _ _ _ _ _ c.args.config.now before c.in-Ok.taps c.in-Ok-begin.outputs _ c.late.ensures.value c.in-Ok.ensures.opened
    c.in-Ok-begin.ensures.written c.in-Ok.ensures.agree c.in-Ok-begin.ensures.capture_going c.in-Ok-begin.ensures.ledger_going in
    let watching = c.in-Ok-write_rounds.ensures.watching c.args.config.now before begun in
    with_err c.finish.result _ _
    (λ refused h. with_both refused.a refused.b _ _ (λ a b f.
    inr ((some_filters _ _ c.is_empty.ensures c.if-is_empty.false, search rules), inr (f (making_of c.args.plan.now) c.args.config.now before watching))) h) c.finish.ensures.aborted
