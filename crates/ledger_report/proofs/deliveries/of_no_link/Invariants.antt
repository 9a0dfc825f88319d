-- So many links, each of no delivery.
use Rattle.std.proofs.Common.{◌≡◌, ℕ, None, vec_len}
use Rattle.ledger_report.specs.Held.{held_in}
use Rattle.ledger_report.proofs.deliveries.of_no_link.Given as goal

abbrev pub invariant-loop-id : goal.invariant-loop-id
invariant-loop-id l = record {
  count : vec_len l.links ≡ l._id;
  none : (id number : ℕ) → held_in l.links.items id number ≡ None;
}
