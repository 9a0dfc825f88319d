use Rattle.std.proofs.Common.{◌≡◌, ℕ, ◌<◌, get_or, vec_len}
use Rattle.ledger_text.specs.declared.link_runs.LinkRuns.{LinkRuns}
use Rattle.ledger_text.proofs.Nearness.{IsNew}
use Rattle.ledger_text.proofs.neighbours.Neighbours.new.Given as goal

abbrev pub invariant-loop : goal.invariant-loop
invariant-loop l = record {
  len : vec_len l.links ≡ l.counter;
  new : (id : ℕ) (none : LinkRuns) → id < l.counter → IsNew (get_or l.links.items id none);
}
