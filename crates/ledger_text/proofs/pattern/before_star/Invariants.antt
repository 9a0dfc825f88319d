use Rattle.std.proofs.Common.{◌≡◌, ℕ, ◌+◌, ◌<◌, ◌≤◌, ◌||◌, false, get_or, length}
use Rattle.ledger_text.proofs.pattern.before_star.Given as goal

abbrev pub invariant-loop-i : goal.invariant-loop-i
invariant-loop-i l = record {
  done : (k : ℕ) → l.i ≤ k → k < length l.name → get_or l.from k false ≡ (get_or l.initial.from k false || get_or l.from (k + 1) false);
  left : (k : ℕ) → k < l.i → get_or l.from k false ≡ get_or l.initial.from k false;
  last : get_or l.from (length l.name) false ≡ get_or l.initial.from (length l.name) false;
}
