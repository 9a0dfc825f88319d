use Rattle.std.proofs.Common.{◌≡◌, ◌&&◌, ◌||◌, ◌<◌, ℕ, false, nat_le, nat_lt, get_or}
use Rattle.ledger_text.proofs.link_set.LinkSet.insert_range.Given as goal

abbrev pub invariant-loop-id : goal.invariant-loop-id
invariant-loop-id l = record {
  held : (k : ℕ) → get_or l.self.held.items k false ≡ (get_or l.initial.self.held.items k false || (nat_le l.fn.first.0 k && nat_lt k l.id));
  empty : l.id-end < l.id → l.id ≡ l.fn.first.0;
}
