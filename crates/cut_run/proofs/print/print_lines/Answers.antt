use Rattle.std.proofs.Common.{◌∙◌, refl}
use Rattle.cut_run.specs.Lines.{Choice}
use Rattle.cut_run.specs.Printed.{line_devices_at}
use Rattle.cut_run.proofs.PrintedLedger.{appends_none, lines_refused, opened_both, opened_none}
use Rattle.cut_run.proofs.Whole.{reads_nothing}
use Rattle.cut_run.proofs.print.print_lines.Goals as goal
use Rattle.cut_run.proofs.print.print_lines.Goals.{in-None, in-Some+in-Ok-open}

pub returns-in-Err-open : goal.returns-in-Err-open
returns-in-Err-open g c = λ around noted. rw c.not_begun-in-Err-open.ensures
    (let choice : Choice = record { selection = c.args.selection.now; around = around; skips = c.args.skips } in
    lines_refused g.L.TapSource g.S.TapSource g.T.TapSource g.W.OutSink choice c.in-Err-open.field-0.fault c.args.ledger c.into_source.result c.args.recordings
    c.in-Some.a c.in-Err-open.field-0.a c.in-Some.b c.in-Err-open.field-0.b c.args.output (c.into_source.ensures ∙ c.in-Ok.ensures.source) c.in-Some.is
    c.in-Err-open.ensures.refused)

pub returns : goal.returns
returns g c = λ around noted.
    (let choice : Choice = record { selection = c.args.selection.now; around = around; skips = c.args.skips } in
    let before = line_devices_at g.L.TapSource g.S.TapSource g.T.TapSource g.W.OutSink c.args.ledger c.args.recordings c.args.output in
    rw (c.into_ledger.ensures.source, c.into_devices-recordings.ensures.output)
    (c.print_all-outcome.ensures around before
    (record {
      read = reads_nothing g.L.TapSource c.args.ledger c.in-Ok.reader c.in-Ok.ensures.source c.in-Ok.ensures.unread c.in-Ok.ensures.start;
      print = record {
        checked = elim c.match-recordings.branch [
          | in-None w ↦ opened_none g.S.TapSource g.T.TapSource c.args.recordings c.match-recordings.recordings w.in-None.is w.recordings-is
          | in-Some+in-Ok-open w ↦
              opened_both g.S.TapSource g.T.TapSource c.args.recordings c.match-recordings.recordings w.in-Some.a w.in-Some.b w.in-Ok-open.recordings w.in-Some.is w.recordings-is
              w.in-Ok-open.ensures.opened
        ];
        takes = refl;
        asked = c.new-2.ensures c.args.selection.now around noted;
        written = appends_none before.output.contents;
        no_failure = refl;
      };
    })
    c.into_ledger.ensures.lost c.into_devices-recordings.result.0 c.into_devices-recordings.ensures.sources))
