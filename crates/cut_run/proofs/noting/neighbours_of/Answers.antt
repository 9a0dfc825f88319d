use Rattle.std.proofs.Common.{[], None}
use Rattle.run_fault.specs.Device.{source_at}
use Rattle.cut_run.specs.Noting.{HasNotedLines}
use Rattle.cut_run.proofs.Whole.{reads_nothing}
use Rattle.cut_run.proofs.noting.neighbours_of.Goals as goal
use Rattle.cut_run.proofs.noting.neighbours_of.Goals.{in-Ok-note_lines, in-Err-note_lines}

pub returns : goal.returns
returns g c =
    let before = source_at g.L.TapSource c.args.ledger in
    let selection = c.args.selection.now in
    let begun : HasNotedLines g.L.TapSource selection c.args.around before [] c.in-Ok-new.reader c.new-chooser.result c.in-Ok.neighbours = record {
      read = reads_nothing g.L.TapSource c.args.ledger c.in-Ok-new.reader c.in-Ok-new.ensures.source c.in-Ok-new.ensures.unread c.in-Ok-new.ensures.start;
      asked = c.new-chooser.ensures selection None tt;
      noted = c.in-Ok.ensures selection;
    } in
    rw c.into_ledger.ensures.source (elim c.match-note_lines.branch [
      | in-Ok-note_lines w ↦ rw w.outcome-is (w.in-Ok-note_lines.ensures c.args.around before begun)
      | in-Err-note_lines w ↦ rw w.outcome-is (w.in-Err-note_lines.ensures c.args.around before begun c.into_ledger.ensures.lost)
    ])
