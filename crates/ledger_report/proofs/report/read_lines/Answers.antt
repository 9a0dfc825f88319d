-- One more line is right or wrong, or the ledger ends.
use Rattle.std.proofs.Common.{ℕ, List, None, Some, refl, reverse, subst}
use Rattle.ledger_text.specs.Ledger.{frame_lines, lent_of, number_of}
use Rattle.ledger_text.proofs.Ledgers.{found_complete, found_incomplete}
use Rattle.ledger_report.proofs.Readings.{all_read, counted_head, counted_more, few_before, frame_noted, other_noted, right_counts}
use Rattle.ledger_report.proofs.Refusals.{refused_counts, refused_frame, refused_read}
use Rattle.ledger_report.specs.CountsLines.{IsRightLine, Moves, taps_in}
use Rattle.ledger_report.specs.declared.fault.Refusal.TheVariants.{Memory}
use Rattle.ledger_text.specs.declared.order.LedgerLine.TheVariants as lines
use Rattle.ledger_report.proofs.report.read_lines.Goals as goal

pub returns-in-Ok-Complete : goal.returns-in-Ok-Complete
returns-in-Ok-Complete g c = λ bytes failures begun.
    (let at = c.loop-frame.invariant.noted bytes failures begun in
    let reading = c.loop-frame.reading in
    let found = rw c.in-Ok-Complete.field-0-is at (c.in-Ok-Complete.ensures.found c.loop-frame.invariant.sound) in
    all_read g.S.TapSource bytes failures c.args.config.now at.0 c.loop-frame.ledger c.advance.new.self reading.counts reading.frames reading.lines at.1
    None (found_complete g.S.TapSource bytes failures at.0 c.loop-frame.ledger c.advance.new.self at.1.read found))

pub returns-in-Ok-Incomplete : goal.returns-in-Ok-Incomplete
returns-in-Ok-Incomplete g c = λ bytes failures begun.
    (let at = c.loop-frame.invariant.noted bytes failures begun in
    let reading = c.loop-frame.reading in
    let found = rw c.in-Ok-Incomplete.field-0-is at (c.in-Ok-Incomplete.ensures.found c.loop-frame.invariant.sound) in
    all_read g.S.TapSource bytes failures c.args.config.now at.0 c.loop-frame.ledger c.advance.new.self reading.counts reading.frames reading.lines at.1
    (Some c.in-Ok-Incomplete.stop)
    (found_incomplete g.S.TapSource bytes failures at.0 c.loop-frame.ledger c.advance.new.self c.in-Ok-Incomplete.stop at.1.read found))

pub loop-frame-preserved-in-Ok-Line-Head : goal.loop-frame-preserved-in-Ok-Line-Head
loop-frame-preserved-in-Ok-Line-Head g c = record {
  sound = c.in-Ok-Line-Head.ensures.sound c.loop-frame.invariant.sound;
  noted = λ bytes failures begun.
      (let at = c.loop-frame.invariant.noted bytes failures begun in
      let reading = c.loop-frame.reading in
      let found = rw (c.in-Ok-Line-Head.field-0-is, c.in-Ok-Line-Head.field-0-0-is) at
      (c.in-Ok-Line-Head.ensures.found c.loop-frame.invariant.sound) in
      other_noted g.S.TapSource bytes failures c.args.config.now at.0 c.loop-frame.ledger c.advance.new.self reading.counts reading.frames reading.lines
      at.1 _ reading.lines refl found (c.in-Ok-Line-Head.ensures.sound c.loop-frame.invariant.sound) (tt, at.1.right.counts)
      (counted_head _ reading.lines (lent_of c.advance.new.self) _ at.1.counted_are));
}

pub returns-in-Err : goal.returns-in-Err
returns-in-Err g c = λ bytes failures begun.
    (let at = c.loop-frame.invariant.noted bytes failures begun in
    let reading = c.loop-frame.reading in
    rw c.read_fault.ensures
    (refused_read g.S.TapSource bytes failures c.args.config.now at.0 c.loop-frame.ledger c.advance.new.self reading.counts reading.frames reading.lines
    (lent_of c.advance.new.self) c.in-Err.fault at.1 (c.in-Err.ensures.fault c.loop-frame.invariant.sound)))

pub loop-frame-preserved-in_default-note : goal.loop-frame-preserved-in_default-note
loop-frame-preserved-in_default-note g c = record {
  sound = c.in-Ok-Line-Frame.ensures.sound c.loop-frame.invariant.sound;
  noted = λ bytes failures begun.
      (let at = c.loop-frame.invariant.noted bytes failures begun in
      let reading = c.loop-frame.reading in
      let v = c.in-Ok-Line-Frame.frame in
      let before = reverse (frame_lines at.0) in
      let found = rw (c.in-Ok-Line-Frame.field-0-is, c.in-Ok-Line-Frame.field-0-0-is) at
      (c.in-Ok-Line-Frame.ensures.found c.loop-frame.invariant.sound) in
      let few = few_before g.S.TapSource bytes failures at.0 c.loop-frame.ledger c.advance.new.self (lines.Frame v) at.1.read found in
      frame_noted g.S.TapSource bytes failures c.args.config.now at.0 c.loop-frame.ledger c.advance.new.self reading.counts reading.frames reading.lines
      at.1 v c.count.new.self c.take.new.self found (c.in-Ok-Line-Frame.ensures.sound c.loop-frame.invariant.sound)
      (c.count.ensures (frame_lines at.0) few at.1.counts_are) (c.in_default.ensures.wrong before at.1.frames_are)
      (c.in_default.ensures.taken before at.1.frames_are));
}

pub loop-frame-preserved : goal.loop-frame-preserved
loop-frame-preserved g c = record {
  sound = c.in-Ok-Line-Counts.ensures.sound c.loop-frame.invariant.sound;
  noted = λ bytes failures begun.
      (let at = c.loop-frame.invariant.noted bytes failures begun in
      let reading = c.loop-frame.reading in
      let table = c.args.config.now in
      let kind = c.in-Ok-Line-Counts.kind in
      let text = lent_of c.advance.new.self in
      let found = rw (c.in-Ok-Line-Counts.field-0-is, c.in-Ok-Line-Counts.field-0-0-is) at
      (c.in-Ok-Line-Counts.ensures.found c.loop-frame.invariant.sound) in
      let right = subst (λ (x : List ℕ). IsRightLine table (frame_lines at.0) reading.lines.links reading.lines.filters (taps_in reading.lines.endings)
      kind x) c.line.ensures (c.in_default-taken.ensures.right (frame_lines at.0) at.1.counts_are) in
      let moves = subst (λ (x : List ℕ). Moves (frame_lines at.0) kind x reading.lines c.take-taken.new.self) c.line.ensures
      (c.in_default-taken.ensures.moves (frame_lines at.0) at.1.counts_are) in
      other_noted g.S.TapSource bytes failures table at.0 c.loop-frame.ledger c.advance.new.self reading.counts reading.frames reading.lines
      at.1 (lines.Counts kind) c.take-taken.new.self refl found (c.in-Ok-Line-Counts.ensures.sound c.loop-frame.invariant.sound)
      (right_counts table at.0 reading.lines kind text at.1.counted_are right, at.1.right.counts)
      (counted_more at.0 table reading.lines c.take-taken.new.self text kind at.1.counted_are right.place moves));
}

pub returns-in-Err-take : goal.returns-in-Err-take
returns-in-Err-take g c = λ bytes failures begun.
    (let at = c.loop-frame.invariant.noted bytes failures begun in
    let reading = c.loop-frame.reading in
    let found = rw (c.in-Ok-Line-Frame.field-0-is, c.in-Ok-Line-Frame.field-0-0-is) at
    (c.in-Ok-Line-Frame.ensures.found c.loop-frame.invariant.sound) in
    rw c.line_fault.ensures
    (refused_frame g.S.TapSource bytes failures c.args.config.now at.0 c.loop-frame.ledger c.advance.new.self reading.counts reading.frames reading.lines
    at.1 c.in-Ok-Line-Frame.frame c.number.result c.in-Err-take.refusal found c.number.ensures
    (c.in-Err-take.ensures.wrong (reverse (frame_lines at.0)) at.1.frames_are)))

pub returns-in-Err-note : goal.returns-in-Err-note
returns-in-Err-note g c = λ bytes failures begun.
    (let at = c.loop-frame.invariant.noted bytes failures begun in
    let reading = c.loop-frame.reading in
    let found = rw (c.in-Ok-Line-Frame.field-0-is, c.in-Ok-Line-Frame.field-0-0-is) at
    (c.in-Ok-Line-Frame.ensures.found c.loop-frame.invariant.sound) in
    refused_frame g.S.TapSource bytes failures c.args.config.now at.0 c.loop-frame.ledger c.advance.new.self reading.counts reading.frames reading.lines
    at.1 c.in-Ok-Line-Frame.frame (number_of c.advance.new.self) Memory found refl tt)

pub returns-in-Err-taken : goal.returns-in-Err-taken
returns-in-Err-taken g c = λ bytes failures begun.
    (let at = c.loop-frame.invariant.noted bytes failures begun in
    let reading = c.loop-frame.reading in
    let found = rw (c.in-Ok-Line-Counts.field-0-is, c.in-Ok-Line-Counts.field-0-0-is) at
    (c.in-Ok-Line-Counts.ensures.found c.loop-frame.invariant.sound) in
    rw c.line_fault-in-Err-taken.ensures
    (refused_counts g.S.TapSource bytes failures c.args.config.now at.0 c.loop-frame.ledger c.advance.new.self reading.counts reading.frames reading.lines
    at.1 c.in-Ok-Line-Counts.kind c.number-in-Err-taken.result c.line.result.now c.in-Err-taken.refusal found c.number-in-Err-taken.ensures
    c.line.ensures (c.in-Err-taken.ensures.right (frame_lines at.0) at.1.counts_are)))
