use Rattle.std.proofs.Common.{rules, ap}
use Rattle.std.specs.Io.KnownBytes.{Keeps}
use Rattle.ledger_text.specs.Lines.{lines_left}
use Rattle.ledger_text.proofs.Blocks.{line_consumed}
use Rattle.ledger_text.proofs.lines.LineSource.advance_across.Goals as goal

pub returns-then-take_line-clause-found : goal.returns-then-take_line-clause-found
returns-then-take_line-clause-found g c =
    let yes = c.if-take_line.true in
    let kept : Keeps (lines_left g.S.TapSource.remaining c.args.self.now) (lines_left g.S.TapSource.remaining c.read_behind.new.self) = search rules in (
      c.take_line.ensures.line yes,
      c.take_line.ensures.short yes,
      line_consumed _ _ _ _ _ _ (ap g.S.TapSource.remaining c.take_line.ensures.source) kept (c.take_line.ensures.taken yes),
    )
