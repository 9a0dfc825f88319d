use Rattle.std.proofs.Common.{◌≡◌, ◌↔◌, ◌⊎◌, ℕ, true, false, get_or}
use Rattle.ledger_text.proofs.Taken.{Before}
use Rattle.ledger_text.specs.Pattern.{IsMatch}
use Rattle.ledger_text.proofs.link_set.LinkSet.insert_named.Given as goal

abbrev pub invariant-loop-link : goal.invariant-loop-link
invariant-loop-link l = record {
  held : (id : ℕ) → (get_or l.self.held.items id false ≡ true)
      ↔ ((get_or l.initial.self.held.items id false ≡ true) ⊎ Before (λ link. IsMatch l.pattern link.name × (link.id.0 ≡ id)) l.links l.link-index);
  found : (l.found ≡ true) ↔ Before (λ link. IsMatch l.pattern link.name) l.links l.link-index;
}
