use Rattle.std.proofs.Common.{◌≡◌, drop, length}
use Rattle.ledger_text.proofs.Matching.{Meets}
use Rattle.ledger_text.proofs.pattern.matches.Given as goal

abbrev pub invariant-loop-at : goal.invariant-loop-at
invariant-loop-at l = (length l.from ≡ 33) × Meets (drop l.at l.pattern) l.name l.from
