use Rattle.std.proofs.Common.{refl, sym}
use Rattle.std.proofs.lemmas.Result.{err_from_is_err_and}
use Rattle.cut_run.specs.Lines.{Choice, read_lines}
use Rattle.cut_run.proofs.Printed.{passed_text, printed_line, stops_checking}
use Rattle.cut_run.proofs.print.Printing.print_line.Goals as goal

pub returns-then-not-is_read : goal.returns-then-not-is_read
returns-then-not-is_read g c = λ around before vs texts printed few h.
    (let choice : Choice = record { selection = c.args.selection.now; around = around; skips = c.args.skips } in
    passed_text g.S.TapSource g.T.TapSource g.W.OutSink choice before vs texts printed c.args.line.now c.args.text.now c.args.self.now c.pass_over.new.self h
    (sym c.if-not-is_read.ensures) c.pass_over.ensures.recordings c.pass_over.ensures.output (c.pass_over.ensures.asked around vs few h.asked))

pub returns-in_err-check : goal.returns-in_err-check
returns-in_err-check g c = λ around before vs texts printed few h.
    (let choice : Choice = record { selection = c.args.selection.now; around = around; skips = c.args.skips } in
    let p = err_from_is_err_and c.from_residual.result c.from_residual.ensures.1 in
    let stops = c.in_err-check.ensures before.recordings (read_lines choice.skips vs) h.checked in
    rw (p.1, p.2)
    (stops_checking g.S.TapSource g.T.TapSource g.W.OutSink choice before vs texts printed c.args.line.now c.args.text.now c.args.number c.in_err-check.field-0.0 c.args.self.now
    (record c.args.self.now { recordings = c.check.new.recordings }) h (sym c.if-not-is_read.ensures) stops refl))

pub returns : goal.returns
returns g c = λ around before vs texts printed few h.
    (let choice : Choice = record { selection = c.args.selection.now; around = around; skips = c.args.skips } in
    let checked = c.in_ok-check.ensures before.recordings (read_lines choice.skips vs) h.checked in
    let wrote = c.print_taken.ensures.written around c.args.skips vs few h.asked in
    printed_line g.S.TapSource g.T.TapSource g.W.OutSink choice before vs texts printed c.args.line.now c.args.text.now c.args.number c.print_taken.result c.args.self.now
    (record c.args.self.now { recordings = c.check.new.recordings })
    c.print_taken.new.self h (sym c.if-not-is_read.ensures) refl (rw c.print_taken.ensures.recordings checked) wrote.0 wrote.1 c.print_taken.ensures.fault)
