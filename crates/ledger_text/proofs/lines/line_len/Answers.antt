use Rattle.std.proofs.Common.{Option, ℕ, ap, length, sym, unwrap_or, ◌∙◌}
use Rattle.ledger_text.proofs.LineEnds.{line_ends}
use Rattle.ledger_text.proofs.lines.line_len.Goals as goal

pub returns-in-Some-clause-len : goal.returns-in-Some-clause-len
returns-in-Some-clause-len c =
    ap (λ (found : Option ℕ). unwrap_or found (length c.args.bytes.now)) (sym c.in-Some.is) ∙ line_ends c.args.bytes.now c.memchr.result c.memchr.ensures

pub returns-in-None-clause-len : goal.returns-in-None-clause-len
returns-in-None-clause-len c =
    ap (λ (found : Option ℕ). unwrap_or found (length c.args.bytes.now)) (sym c.in-None.is) ∙ line_ends c.args.bytes.now c.memchr.result c.memchr.ensures
