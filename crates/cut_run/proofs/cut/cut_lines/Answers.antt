use Rattle.std.proofs.Common.{refl}
use Rattle.std.proofs.lemmas.Result.{err_from_is_err_and}
use Rattle.ledger_text.specs.Ledger.{frame_lines, lent_of}
use Rattle.ledger_text.specs.declared.order.LedgerLine.TheVariants as lines
use Rattle.cut_run.specs.Lines.{Choice}
use Rattle.cut_run.proofs.Ledgers.{ends_complete, ends_incomplete, few_before, frame_cut, frame_stops, ledger_stops, other_cut}
use Rattle.cut_run.proofs.cut.cut_lines.Goals as goal

pub loop-line-preserved-in-Continue-1 : goal.loop-line-preserved-in-Continue-1
loop-line-preserved-in-Continue-1 g c = record {
  cut = λ format around before begun.
      (let choice : Choice = record { selection = c.args.selection.now; around = around; skips = c.args.skips } in
      let at = c.loop-line.invariant.cut format around before begun in
      let found = rw (c.in-Ok-Line-Frame.field-0-is, c.in-Ok-Line-Frame.field-0-0-is) at (c.in-Ok-Line-Frame.ensures.found c.loop-line.invariant.sound) in
      let more = c.in_ok-cut_line-in-Ok-Line-Frame.ensures.cut format around before.a before.b before.output (frame_lines at.0) at.1 at.2 at.3 at.4
      (few_before g.L.TapSource before.ledger.remaining before.ledger.failures at.0 c.loop-line.ledger c.advance.new.self (lines.Frame c.in-Ok-Line-Frame.line) at.5.read found) at.5.took in
      frame_cut g.L.TapSource g.S.TapSource g.T.TapSource g.W.OutSink format choice before at.0 at.1 at.2 at.3 at.4 c.loop-line.ledger c.advance.new.self
      c.loop-line.taking c.cut_line.new.self c.in-Ok-Line-Frame.line at.5 found (c.in-Ok-Line-Frame.ensures.sound c.loop-line.invariant.sound) more);
  sound = c.in-Ok-Line-Frame.ensures.sound c.loop-line.invariant.sound;
  going = c.in_ok-cut_line-in-Ok-Line-Frame.ensures.going;
}

pub returns-in_err-cut_line-in-Ok-Line-Frame : goal.returns-in_err-cut_line-in-Ok-Line-Frame
returns-in_err-cut_line-in-Ok-Line-Frame g c = λ format around before begun.
    (let p = err_from_is_err_and c.from_residual.result c.from_residual.ensures.1 in
    let choice : Choice = record { selection = c.args.selection.now; around = around; skips = c.args.skips } in
    let at = c.loop-line.invariant.cut format around before begun in
    let found = rw (c.in-Ok-Line-Frame.field-0-is, c.in-Ok-Line-Frame.field-0-0-is) at (c.in-Ok-Line-Frame.ensures.found c.loop-line.invariant.sound) in
    let stops = rw c.number.ensures at (c.in_err-cut_line-in-Ok-Line-Frame.ensures.cut format around before.a before.b before.output (frame_lines at.0) at.1 at.2 at.3 at.4
    (few_before g.L.TapSource before.ledger.remaining before.ledger.failures at.0 c.loop-line.ledger c.advance.new.self (lines.Frame c.in-Ok-Line-Frame.line) at.5.read found) at.5.took) in
    rw (p.1, p.2)
    (frame_stops g.L.TapSource g.S.TapSource g.T.TapSource g.W.OutSink format choice before at.0 at.1 at.2 at.3 at.4 c.loop-line.ledger c.advance.new.self
    c.loop-line.taking c.cut_line.new.self c.in-Ok-Line-Frame.line c.in_err-cut_line-in-Ok-Line-Frame.field-0.0 at.5 found stops))

pub loop-line-preserved-in-Ok-Line-Head : goal.loop-line-preserved-in-Ok-Line-Head
loop-line-preserved-in-Ok-Line-Head g c = record {
  cut = λ format around before begun.
      (let choice : Choice = record { selection = c.args.selection.now; around = around; skips = c.args.skips } in
      let at = c.loop-line.invariant.cut format around before begun in
      let found = rw (c.in-Ok-Line-Head.field-0-is, c.in-Ok-Line-Head.field-0-0-is) at (c.in-Ok-Line-Head.ensures.found c.loop-line.invariant.sound) in
      other_cut g.L.TapSource g.S.TapSource g.T.TapSource g.W.OutSink format choice before at.0 at.1 at.2 at.3 at.4 c.loop-line.ledger c.advance.new.self
      c.loop-line.taking _ refl at.5 found (c.in-Ok-Line-Head.ensures.sound c.loop-line.invariant.sound));
  sound = c.in-Ok-Line-Head.ensures.sound c.loop-line.invariant.sound;
  going = c.loop-line.invariant.going;
}

pub loop-line-preserved : goal.loop-line-preserved
loop-line-preserved g c = record {
  cut = λ format around before begun.
      (let choice : Choice = record { selection = c.args.selection.now; around = around; skips = c.args.skips } in
      let at = c.loop-line.invariant.cut format around before begun in
      let found = rw (c.in-Ok-Line-Counts.field-0-is, c.in-Ok-Line-Counts.field-0-0-is) at (c.in-Ok-Line-Counts.ensures.found c.loop-line.invariant.sound) in
      other_cut g.L.TapSource g.S.TapSource g.T.TapSource g.W.OutSink format choice before at.0 at.1 at.2 at.3 at.4 c.loop-line.ledger c.advance.new.self
      c.loop-line.taking _ refl at.5 found (c.in-Ok-Line-Counts.ensures.sound c.loop-line.invariant.sound));
  sound = c.in-Ok-Line-Counts.ensures.sound c.loop-line.invariant.sound;
  going = c.loop-line.invariant.going;
}

pub returns-in-Ok-Complete : goal.returns-in-Ok-Complete
returns-in-Ok-Complete g c = λ format around before begun.
    (let choice : Choice = record { selection = c.args.selection.now; around = around; skips = c.args.skips } in
    let at = c.loop-line.invariant.cut format around before begun in
    ends_complete g.L.TapSource g.S.TapSource g.T.TapSource g.W.OutSink format choice before at.0 at.1 at.2 at.3 at.4 c.loop-line.ledger c.advance.new.self
    c.loop-line.taking (rw c.in-Ok-Complete.field-0-is at (c.in-Ok-Complete.ensures.found c.loop-line.invariant.sound)) at.5)

pub returns-in-Ok-Incomplete : goal.returns-in-Ok-Incomplete
returns-in-Ok-Incomplete g c = λ format around before begun.
    (let choice : Choice = record { selection = c.args.selection.now; around = around; skips = c.args.skips } in
    let at = c.loop-line.invariant.cut format around before begun in
    ends_incomplete g.L.TapSource g.S.TapSource g.T.TapSource g.W.OutSink format choice before at.0 at.1 at.2 at.3 at.4 c.loop-line.ledger c.advance.new.self
    c.loop-line.taking c.in-Ok-Incomplete.stop (rw c.in-Ok-Incomplete.field-0-is at (c.in-Ok-Incomplete.ensures.found c.loop-line.invariant.sound)) at.5)

pub returns-in-Err : goal.returns-in-Err
returns-in-Err g c = λ format around before begun.
    (let choice : Choice = record { selection = c.args.selection.now; around = around; skips = c.args.skips } in
    let at = c.loop-line.invariant.cut format around before begun in
    rw c.ledger_fault.ensures
    (ledger_stops g.L.TapSource g.S.TapSource g.T.TapSource g.W.OutSink format choice before at.0 at.1 at.2 at.3 at.4 c.loop-line.ledger c.advance.new.self
    c.loop-line.taking (lent_of c.advance.new.self) c.in-Err.fault at.5 (c.in-Err.ensures.fault c.loop-line.invariant.sound)))
