use Rattle.std.proofs.Common.{◌++◌, ◌∷◌, [], ℕ, None, Some, refl, subst, sym}
use Rattle.ledger_text.specs.Ledger.{frame_lines, lent_of}
use Rattle.ledger_text.specs.declared.order.LedgerLine.TheVariants as lines
use Rattle.ledger_text.proofs.Ledgers.{found_complete, found_incomplete}
use Rattle.ledger_text.specs.Neighbours.{HasNoted}
use Rattle.cut_run.proofs.Ledgers.{few_before}
use Rattle.cut_run.proofs.Noted.{ends_noting, frame_noted, ledger_stops_noting, no_memory, other_noted}
use Rattle.cut_run.proofs.noting.note_lines.Goals as goal

pub loop-line-preserved-in-Ok : goal.loop-line-preserved-in-Ok
loop-line-preserved-in-Ok g c = record {
  noted = λ count before begun.
      (let at = c.loop-line.invariant.noted count before begun in
      let selection = c.args.selection.now in
      let v = c.in-Ok-Line-Frame.line in
      let found = rw (c.in-Ok-Line-Frame.field-0-is, c.in-Ok-Line-Frame.field-0-0-is) at (c.in-Ok-Line-Frame.ensures.found c.loop-line.invariant.sound) in
      let few = few_before g.L.TapSource before.remaining before.failures at.0 c.loop-line.ledger c.advance.new.self (lines.Frame v) at.1.read found in
      let says = c.takes-selected.ensures None (frame_lines at.0) few at.1.asked in
      let same = at.1.noted.count in
      let old = subst (λ (n : ℕ). HasNoted selection (record { count = n; lines = frame_lines at.0 }) c.loop-line.neighbours) (sym same) at.1.noted in
      let has = subst (λ (n : ℕ). HasNoted selection (record { count = n; lines = frame_lines at.0 ++ v ∷ [] }) c.note.new.self) same
      (c.in-Ok.ensures selection (frame_lines at.0) few old says.0) in
      frame_noted g.L.TapSource selection count before at.0 c.loop-line.ledger c.advance.new.self c.loop-line.chooser c.takes-selected.new.self c.loop-line.neighbours c.note.new.self
      v at.1 found (c.in-Ok-Line-Frame.ensures.sound c.loop-line.invariant.sound) says.1 has);
  sound = c.in-Ok-Line-Frame.ensures.sound c.loop-line.invariant.sound;
}

pub returns-in-Err-note : goal.returns-in-Err-note
returns-in-Err-note g c = λ count before begun.
    (let at = c.loop-line.invariant.noted count before begun in
    let found = rw (c.in-Ok-Line-Frame.field-0-is, c.in-Ok-Line-Frame.field-0-0-is) at (c.in-Ok-Line-Frame.ensures.found c.loop-line.invariant.sound) in
    no_memory g.L.TapSource c.args.selection.now count before at.0 c.loop-line.ledger c.advance.new.self c.loop-line.chooser c.loop-line.neighbours c.in-Ok-Line-Frame.line at.1 found)

pub loop-line-preserved-in-Ok-Line-Head : goal.loop-line-preserved-in-Ok-Line-Head
loop-line-preserved-in-Ok-Line-Head g c = record {
  noted = λ count before begun.
      (let at = c.loop-line.invariant.noted count before begun in
      let found = rw (c.in-Ok-Line-Head.field-0-is, c.in-Ok-Line-Head.field-0-0-is) at (c.in-Ok-Line-Head.ensures.found c.loop-line.invariant.sound) in
      other_noted g.L.TapSource c.args.selection.now count before at.0 c.loop-line.ledger c.advance.new.self c.loop-line.chooser c.loop-line.neighbours
      _ refl at.1 found (c.in-Ok-Line-Head.ensures.sound c.loop-line.invariant.sound));
  sound = c.in-Ok-Line-Head.ensures.sound c.loop-line.invariant.sound;
}

pub loop-line-preserved : goal.loop-line-preserved
loop-line-preserved g c = record {
  noted = λ count before begun.
      (let at = c.loop-line.invariant.noted count before begun in
      let found = rw (c.in-Ok-Line-Counts.field-0-is, c.in-Ok-Line-Counts.field-0-0-is) at (c.in-Ok-Line-Counts.ensures.found c.loop-line.invariant.sound) in
      other_noted g.L.TapSource c.args.selection.now count before at.0 c.loop-line.ledger c.advance.new.self c.loop-line.chooser c.loop-line.neighbours
      _ refl at.1 found (c.in-Ok-Line-Counts.ensures.sound c.loop-line.invariant.sound));
  sound = c.in-Ok-Line-Counts.ensures.sound c.loop-line.invariant.sound;
}

pub returns-in-Ok-Complete : goal.returns-in-Ok-Complete
returns-in-Ok-Complete g c = λ count before begun.
    (let at = c.loop-line.invariant.noted count before begun in
    let found = rw c.in-Ok-Complete.field-0-is at (c.in-Ok-Complete.ensures.found c.loop-line.invariant.sound) in
    ends_noting g.L.TapSource c.args.selection.now count before at.0 c.loop-line.ledger c.advance.new.self c.loop-line.chooser c.loop-line.neighbours None at.1
    (found_complete g.L.TapSource before.remaining before.failures at.0 c.loop-line.ledger c.advance.new.self at.1.read found) found.2.2)

pub returns-in-Ok-Incomplete : goal.returns-in-Ok-Incomplete
returns-in-Ok-Incomplete g c = λ count before begun.
    (let at = c.loop-line.invariant.noted count before begun in
    let found = rw c.in-Ok-Incomplete.field-0-is at (c.in-Ok-Incomplete.ensures.found c.loop-line.invariant.sound) in
    let stop = c.in-Ok-Incomplete.field-0-0 in
    ends_noting g.L.TapSource c.args.selection.now count before at.0 c.loop-line.ledger c.advance.new.self c.loop-line.chooser c.loop-line.neighbours (Some stop) at.1
    (found_incomplete g.L.TapSource before.remaining before.failures at.0 c.loop-line.ledger c.advance.new.self stop at.1.read found) found.3.2)

pub returns-in-Err : goal.returns-in-Err
returns-in-Err g c = λ count before begun.
    (let at = c.loop-line.invariant.noted count before begun in
    rw c.ledger_fault.ensures
    (ledger_stops_noting g.L.TapSource c.args.selection.now count before at.0 c.loop-line.ledger c.advance.new.self c.loop-line.chooser c.loop-line.neighbours
    (lent_of c.advance.new.self) c.in-Err.fault at.1 (c.in-Err.ensures.fault c.loop-line.invariant.sound)))
