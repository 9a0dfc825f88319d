use Rattle.std.proofs.Common.{refl}
use Rattle.std.proofs.lemmas.Result.{err_from_is_err_and}
use Rattle.ledger_text.specs.Ledger.{frame_lines, lent_of}
use Rattle.ledger_text.specs.declared.order.LedgerLine.TheVariants as lines
use Rattle.cut_run.specs.Lines.{Choice}
use Rattle.cut_run.specs.Printed.{frame_texts}
use Rattle.cut_run.specs.declared.cut.CutEnding.TheVariants as ending
use Rattle.ledger_text.proofs.Ledgers.{found_complete, found_incomplete}
use Rattle.cut_run.proofs.Ledgers.{few_before}
use Rattle.cut_run.proofs.PrintedLedger.{ends_printing, frame_printed, ledger_stops_printing, other_printed, stops_printing}
use Rattle.cut_run.proofs.print.print_all.Goals as goal

pub loop-line-preserved-in-Continue-1 : goal.loop-line-preserved-in-Continue-1
loop-line-preserved-in-Continue-1 g c = record {
  printed = λ around before begun.
      (let choice : Choice = record { selection = c.args.selection.now; around = around; skips = c.args.skips } in
      let at = c.loop-line.invariant.printed around before begun in
      let v = c.in-Ok-Line-Frame.line in
      let found = rw (c.in-Ok-Line-Frame.field-0-is, c.in-Ok-Line-Frame.field-0-0-is) at (c.in-Ok-Line-Frame.ensures.found c.loop-line.invariant.sound) in
      let few = few_before g.L.TapSource before.ledger.remaining before.ledger.failures at.0 c.loop-line.ledger c.advance.new.self (lines.Frame v) at.2.read found in
      let more = rw c.line.ensures at (c.in_ok-print_line-in-Ok-Line-Frame.ensures around before (frame_lines at.0) (frame_texts at.0) at.1 few at.2.print) in
      frame_printed g.L.TapSource g.S.TapSource g.T.TapSource g.W.OutSink choice before at.0 at.1 c.loop-line.ledger c.advance.new.self
      c.loop-line.printing c.print_line.new.self v at.2 found (c.in-Ok-Line-Frame.ensures.sound c.loop-line.invariant.sound) more);
  sound = c.in-Ok-Line-Frame.ensures.sound c.loop-line.invariant.sound;
}

pub returns-in_err-print_line-in-Ok-Line-Frame : goal.returns-in_err-print_line-in-Ok-Line-Frame
returns-in_err-print_line-in-Ok-Line-Frame g c = λ around before begun.
    (let p = err_from_is_err_and c.from_residual.result c.from_residual.ensures.1 in
    let choice : Choice = record { selection = c.args.selection.now; around = around; skips = c.args.skips } in
    let at = c.loop-line.invariant.printed around before begun in
    let v = c.in-Ok-Line-Frame.line in
    let found = rw (c.in-Ok-Line-Frame.field-0-is, c.in-Ok-Line-Frame.field-0-0-is) at (c.in-Ok-Line-Frame.ensures.found c.loop-line.invariant.sound) in
    let few = few_before g.L.TapSource before.ledger.remaining before.ledger.failures at.0 c.loop-line.ledger c.advance.new.self (lines.Frame v) at.2.read found in
    let stops = rw (c.line.ensures, c.number.ensures) at (c.in_err-print_line-in-Ok-Line-Frame.ensures around before (frame_lines at.0) (frame_texts at.0) at.1 few at.2.print) in
    rw (p.1, p.2)
    (stops_printing g.L.TapSource g.S.TapSource g.T.TapSource g.W.OutSink choice before at.0 at.1 c.loop-line.ledger c.advance.new.self
    c.loop-line.printing c.print_line.new.self v c.in_err-print_line-in-Ok-Line-Frame.field-0.0 at.2 found stops))

pub loop-line-preserved-in-Ok-Line-Head : goal.loop-line-preserved-in-Ok-Line-Head
loop-line-preserved-in-Ok-Line-Head g c = record {
  printed = λ around before begun.
      (let choice : Choice = record { selection = c.args.selection.now; around = around; skips = c.args.skips } in
      let at = c.loop-line.invariant.printed around before begun in
      let found = rw (c.in-Ok-Line-Head.field-0-is, c.in-Ok-Line-Head.field-0-0-is) at (c.in-Ok-Line-Head.ensures.found c.loop-line.invariant.sound) in
      other_printed g.L.TapSource g.S.TapSource g.T.TapSource g.W.OutSink choice before at.0 at.1 c.loop-line.ledger c.advance.new.self
      c.loop-line.printing _ refl refl at.2 found (c.in-Ok-Line-Head.ensures.sound c.loop-line.invariant.sound));
  sound = c.in-Ok-Line-Head.ensures.sound c.loop-line.invariant.sound;
}

pub loop-line-preserved : goal.loop-line-preserved
loop-line-preserved g c = record {
  printed = λ around before begun.
      (let choice : Choice = record { selection = c.args.selection.now; around = around; skips = c.args.skips } in
      let at = c.loop-line.invariant.printed around before begun in
      let found = rw (c.in-Ok-Line-Counts.field-0-is, c.in-Ok-Line-Counts.field-0-0-is) at (c.in-Ok-Line-Counts.ensures.found c.loop-line.invariant.sound) in
      other_printed g.L.TapSource g.S.TapSource g.T.TapSource g.W.OutSink choice before at.0 at.1 c.loop-line.ledger c.advance.new.self
      c.loop-line.printing _ refl refl at.2 found (c.in-Ok-Line-Counts.ensures.sound c.loop-line.invariant.sound));
  sound = c.in-Ok-Line-Counts.ensures.sound c.loop-line.invariant.sound;
}

pub returns-in-Ok-Complete : goal.returns-in-Ok-Complete
returns-in-Ok-Complete g c = λ around before begun.
    (let choice : Choice = record { selection = c.args.selection.now; around = around; skips = c.args.skips } in
    let at = c.loop-line.invariant.printed around before begun in
    let found = rw c.in-Ok-Complete.field-0-is at (c.in-Ok-Complete.ensures.found c.loop-line.invariant.sound) in
    ends_printing g.L.TapSource g.S.TapSource g.T.TapSource g.W.OutSink choice before at.0 at.1 c.loop-line.ledger c.advance.new.self
    c.loop-line.printing ending.Complete
    (found_complete g.L.TapSource before.ledger.remaining before.ledger.failures at.0 c.loop-line.ledger c.advance.new.self at.2.read found) found.2.2 at.2)

pub returns-in-Ok-Incomplete : goal.returns-in-Ok-Incomplete
returns-in-Ok-Incomplete g c = λ around before begun.
    (let choice : Choice = record { selection = c.args.selection.now; around = around; skips = c.args.skips } in
    let at = c.loop-line.invariant.printed around before begun in
    let found = rw c.in-Ok-Incomplete.field-0-is at (c.in-Ok-Incomplete.ensures.found c.loop-line.invariant.sound) in
    ends_printing g.L.TapSource g.S.TapSource g.T.TapSource g.W.OutSink choice before at.0 at.1 c.loop-line.ledger c.advance.new.self
    c.loop-line.printing (ending.Incomplete c.in-Ok-Incomplete.stop)
    (found_incomplete g.L.TapSource before.ledger.remaining before.ledger.failures at.0 c.loop-line.ledger c.advance.new.self c.in-Ok-Incomplete.stop at.2.read found) found.3.2 at.2)

pub returns-in-Err : goal.returns-in-Err
returns-in-Err g c = λ around before begun.
    (let choice : Choice = record { selection = c.args.selection.now; around = around; skips = c.args.skips } in
    let at = c.loop-line.invariant.printed around before begun in
    rw c.ledger_fault.ensures
    (ledger_stops_printing g.L.TapSource g.S.TapSource g.T.TapSource g.W.OutSink choice before at.0 at.1 c.loop-line.ledger c.advance.new.self
    c.loop-line.printing (lent_of c.advance.new.self) c.in-Err.fault at.2 (c.in-Err.ensures.fault c.loop-line.invariant.sound)))
