use Rattle.std.proofs.Common.{◌∙◌, refl, sym}
use Rattle.std.proofs.lemmas.Result.{err_from_is_err_and}
use Rattle.cut_run.specs.Lines.{Choice, read_lines}
use Rattle.cut_run.proofs.Cutting.{passed_line, stops_naming, written_line}
use Rattle.cut_run.proofs.cut.Taking.cut_line.Goals as goal

pub returns-then-not-is_read-clause-cut : goal.returns-then-not-is_read-clause-cut
returns-then-not-is_read-clause-cut g c = λ format around a b output vs fs taken fa fb few h.
    (let choice : Choice = record { selection = c.args.selection.now; around = around; skips = c.args.skips } in
    passed_line g.S.TapSource g.T.TapSource g.W.OutSink format choice a b output vs fs taken fa fb c.args.line.now c.args.self.now c.pass_over.new.self h
    (sym c.if-not-is_read.ensures) c.pass_over.ensures.recordings c.pass_over.ensures.output (c.pass_over.ensures.asked around vs few h.asked))

pub returns-in_err-frame-clause-cut : goal.returns-in_err-frame-clause-cut
returns-in_err-frame-clause-cut g c = λ format around a b output vs fs taken fa fb few h.
    (let choice : Choice = record { selection = c.args.selection.now; around = around; skips = c.args.skips } in
    let p = err_from_is_err_and c.from_residual.result c.from_residual.ensures.1 in
    let stops = c.in_err-frame.ensures a b (read_lines choice.skips vs) h.found fa fb h.named in
    rw (p.1, p.2) (stops_naming g.S.TapSource g.T.TapSource g.W.OutSink format choice a b output vs fs taken fa fb c.args.line.now c.args.number c.in_err-frame.field-0.0 c.args.self.now
    (record c.args.self.now { recordings = c.find.new.self }) h (sym c.if-not-is_read.ensures) stops refl))

pub returns-clause-cut : goal.returns-clause-cut
returns-clause-cut g c = λ format around a b output vs fs taken fa fb few h.
    (let choice : Choice = record { selection = c.args.selection.now; around = around; skips = c.args.skips } in
    let wrote = c.write_taken.ensures.written format around c.args.skips vs few h.format_kept h.asked in
    written_line g.S.TapSource g.T.TapSource g.W.OutSink format choice a b output vs fs taken fa fb c.args.line.now c.args.number c.in_ok-frame.frame
    c.write_taken.result c.args.self.now c.write_taken.new.self h (sym c.if-not-is_read.ensures)
    (rw c.write_taken.ensures.recordings (c.in_ok-frame.ensures a b (read_lines choice.skips vs) h.found fa fb h.named))
    wrote.0 wrote.1 (c.write_taken.ensures.format ∙ h.format_kept) c.write_taken.ensures.going)
