-- Nothing was read or taken before the first line.
use Rattle.ledger_report.specs.Refused.{source_at}
use Rattle.ledger_text.specs.Reader.{source_of}
use Rattle.ledger_report.proofs.Refusals.{no_memory}
use Rattle.ledger_report.proofs.Readings.{notes_nothing}
use Rattle.ledger_report.proofs.report.read_report.Goals as goal

pub returns-in-Ok-end-clause-told : goal.returns-in-Ok-end-clause-told
returns-in-Ok-end-clause-told g c =
    let bytes = g.S.TapSource.remaining c.args.source in
    let reading = c.in-Ok-new.reading in
    let begun = notes_nothing g.S.TapSource c.args.source c.args.config.now c.in-Ok.ledger reading.counts reading.frames reading.lines
    c.in-Ok.ensures.source c.in-Ok.ensures.unread c.in-Ok.ensures.start
    c.in-Ok-new.ensures.counts c.in-Ok-new.ensures.frames c.in-Ok-new.ensures.lines in
    rw (c.into_report.ensures.counts, c.into_report.ensures.endings, c.into_report.ensures.whole, c.into_report.ensures.stop)
    (c.in-Ok-read_lines.ensures bytes (g.S.TapSource.failures c.args.source) begun)

pub returns-in-Err-read_lines-clause-refused : goal.returns-in-Err-read_lines-clause-refused
returns-in-Err-read_lines-clause-refused g c =
    let bytes = g.S.TapSource.remaining c.args.source in
    let reading = c.in-Ok-new.reading in
    let begun = notes_nothing g.S.TapSource c.args.source c.args.config.now c.in-Ok.ledger reading.counts reading.frames reading.lines
    c.in-Ok.ensures.source c.in-Ok.ensures.unread c.in-Ok.ensures.start
    c.in-Ok-new.ensures.counts c.in-Ok-new.ensures.frames c.in-Ok-new.ensures.lines in
    (source_of c.read_lines.new.ledger, c.in-Err-read_lines.ensures bytes (g.S.TapSource.failures c.args.source) begun)

pub returns-in-Err-clause-refused : goal.returns-in-Err-clause-refused
returns-in-Err-clause-refused g c =
    (c.args.source, no_memory c.args.config.now (source_at g.S.TapSource c.args.source))

pub returns-in-Err-new-clause-refused : goal.returns-in-Err-new-clause-refused
returns-in-Err-new-clause-refused g c =
    (c.args.source, no_memory c.args.config.now (source_at g.S.TapSource c.args.source))

pub returns-clause-refused : goal.returns-clause-refused
returns-clause-refused g c =
    (c.args.source, no_memory c.args.config.now (source_at g.S.TapSource c.args.source))
