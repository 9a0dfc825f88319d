use Rattle.std.proofs.Common.{◌≡◌, ℕ, ◌+◌, ◌<◌, ◌≤◌, ◌==◌, ◌&&◌, false, get_or}
use Rattle.ledger_text.proofs.pattern.before_letter.Given as goal

abbrev pub invariant-loop-i : goal.invariant-loop-i
invariant-loop-i l = record {
  done : (k : ℕ) → k < l.i → get_or l.from k false ≡ ((get_or l.name k 0 == l.letter) && get_or l.initial.from (k + 1) false);
  left : (k : ℕ) → l.i ≤ k → get_or l.from k false ≡ get_or l.initial.from k false;
}
