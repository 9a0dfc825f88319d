use Rattle.std.proofs.Common.{inr, [], subst}
use Rattle.afdx_frame.specs.declared.key.Network.TheVariants.{A, B}
use Rattle.tap_merge.specs.Taps.{HasMerged}
use Rattle.pcap_io.specs.Writer.{sink_of}
use Rattle.run_fault.specs.Device.{sink_at, source_at}
use Rattle.run_fault.specs.Opening.{watch_devices}
use Rattle.run_fault.specs.declared.fault.WatchFault.TheVariants.{Memory}
use Rattle.watch_run.proofs.Returned.{aborted}
use Rattle.watch_run.proofs.Starting.{ready_made, still_opened}
use Rattle.tap_merge.proofs.TwoTaps.{part_of}
use Rattle.watch_run.proofs.Watching.{none_first, stops_by_writing}
use Rattle.watch_run.proofs.Writing.{capture_all, first_whole, lines_all, packets_all}
use Rattle.watch_run.specs.Filters.{making_of}
use Rattle.watch_run.proofs.threads.prepare.Goals as goal

pub returns-in-Err-begin-clause-refused : goal.returns-in-Err-begin-clause-refused
returns-in-Err-begin-clause-refused g c = rw c.new-in-Err-begin.ensures
    (let before = watch_devices (source_at g.S.TapSource c.args.a) (source_at g.T.TapSource c.args.b)
    (sink_at g.W.OutSink c.args.capture) (sink_at g.L.OutSink c.args.ledger) in
    let merged = subst (λ late. HasMerged g.S.TapSource g.T.TapSource late before.a before.b [] [] [] c.in-Ok.taps)
    c.late-late.ensures.value c.in-Ok.ensures.opened in
    inr (
      still_opened A c.args.config.now.late before.a (source_at g.S.TapSource c.into_sources-a.result.0) _ _ _ merged.read_a c.in-Ok.ensures.ends.0 c.in-Ok.ensures.fresh.0 c.into_sources-a.ensures.a.1,
      still_opened B c.args.config.now.late before.b (source_at g.T.TapSource c.into_sources-a.result.1) _ _ _ merged.read_b c.in-Ok.ensures.ends.1 c.in-Ok.ensures.fresh.1 c.into_sources-a.ensures.b.1,
      aborted c.in-Err-begin.field-0.fault (making_of c.args.plan.now) c.args.config.now before _ _ _ _ _ (record {
        a_left = c.into_sources-a.ensures.a;
        b_left = c.into_sources-a.ensures.b;
        a_failures = c.into_sources-a.ensures.a_failures;
        b_failures = c.into_sources-a.ensures.b_failures;
      }) (stops_by_writing c.in-Err-begin.field-0.fault (making_of c.args.plan.now) c.args.config.now before [] [] [] c.in-Ok.taps.merger.pending _ _ _ _
          (none_first c.args.config.now.late before.a before.b)
          (part_of _ _ _ _ _ _ merged.read_a) (part_of _ _ _ _ _ _ merged.read_b) merged.follows.order merged.read_a.failures merged.read_b.failures
          c.in-Err-begin.ensures.stopped),
    ))

pub returns-in-Err-two_rings-clause-refused : goal.returns-in-Err-two_rings-clause-refused
returns-in-Err-two_rings-clause-refused g c = rw (c.new-in-Err-two_rings.ensures, c.into_sinks-capture.ensures)
    (let ps = (making_of c.args.plan.now) in
    let vl_table = c.args.config.now in
    let before = watch_devices (source_at g.S.TapSource c.args.a) (source_at g.T.TapSource c.args.b)
    (sink_at g.W.OutSink c.args.capture) (sink_at g.L.OutSink c.args.ledger) in
    let merged = subst (λ late. HasMerged g.S.TapSource g.T.TapSource late before.a before.b [] [] [] c.in-Ok.taps)
    c.late-late.ensures.value c.in-Ok.ensures.opened in
    let written = c.in-Ok-begin.ensures.written in
    let back = c.into_sources-a-in-Err-two_rings.ensures in
    inr (
      still_opened A vl_table.late before.a (source_at g.S.TapSource c.into_sources-a-in-Err-two_rings.result.0) _ _ _ merged.read_a c.in-Ok.ensures.ends.0 c.in-Ok.ensures.fresh.0 back.a.1,
      still_opened B vl_table.late before.b (source_at g.T.TapSource c.into_sources-a-in-Err-two_rings.result.1) _ _ _ merged.read_b c.in-Ok.ensures.ends.1 c.in-Ok.ensures.fresh.1 back.b.1,
      aborted Memory ps vl_table before _ _ _ _ _ (record { a_left = back.a; b_left = back.b; a_failures = back.a_failures; b_failures = back.b_failures })
          (stops_by_writing Memory ps vl_table before [] [] [] c.in-Ok.taps.merger.pending _ _ _ _
          (none_first vl_table.late before.a before.b) (part_of _ _ _ _ _ _ merged.read_a) (part_of _ _ _ _ _ _ merged.read_b) merged.follows.order
          merged.read_a.failures merged.read_b.failures (record {
            packets = capture_all ps vl_table [] _ _ written.packets;
            lines = lines_all ps vl_table [] _ _ written.lines;
            packets_first = first_whole ps vl_table [] [] _ _ _ _ written.packets written.lines;
            whole = inr (packets_all ps vl_table [] before.capture (sink_at g.W.OutSink (sink_of c.in-Ok-begin.outputs.capture)) written.packets);
            fails = (written.capture_failures, written.ledger_failures);
          })),
    ))

pub returns-in-Ok-two_rings-clause-ready : goal.returns-in-Ok-two_rings-clause-ready
returns-in-Ok-two_rings-clause-ready g c = rw c.of.ensures
    (let before = watch_devices (source_at g.S.TapSource c.args.a) (source_at g.T.TapSource c.args.b)
    (sink_at g.W.OutSink c.args.capture) (sink_at g.L.OutSink c.args.ledger) in
    let opened = c.in-Ok.ensures in
    let begun = c.in-Ok-begin.ensures in
    ready_made _ _ _ _ (making_of c.args.plan.now) c.args.config.now before c.in-Ok-two_rings.ends c.in-Ok.taps c.in-Ok-begin.outputs c.late-late.result c.late-late.ensures.value
    opened.opened opened.agree opened.merger opened.ends opened.fresh c.in-Ok-two_rings.ensures begun.written begun.capture_going begun.ledger_going)
