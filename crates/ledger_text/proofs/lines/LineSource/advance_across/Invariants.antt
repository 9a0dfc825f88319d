-- The unread bytes stand at the block's front, and have no newline.
use Rattle.std.proofs.Common.{◌≡◌, ◌-◌}
use Rattle.std.specs.Io.KnownBytes.{Keeps}
use Rattle.ledger_text.specs.Newlines.{NoNewline}
use Rattle.ledger_text.specs.Lines.{lines_left, unread_of, line_source}
use Rattle.ledger_text.proofs.lines.LineSource.advance_across.Given as goal

abbrev pub invariant-loop-self : goal.invariant-loop-self
invariant-loop-self g l = record {
  start : l.self.start ≡ 0;
  none : NoNewline (unread_of l.self);
  kept : Keeps (lines_left g.S.TapSource.remaining l.initial.self) (lines_left g.S.TapSource.remaining l.self);
  same : g.S.TapSource.failures (line_source l.self) ≡ g.S.TapSource.failures (line_source l.initial.self);
}

abbrev pub decreases-loop-self : goal.decreases-loop-self
decreases-loop-self g l = 65536 - l.self.end
