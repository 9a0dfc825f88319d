use Rattle.std.proofs.Common.{◌≡◌, ◌↔◌, ℕ, ◌<◌, true, false, length, get_or, min}
use Rattle.std.specs.List.{HoldsAt}
use Rattle.std.specs.Option.{option_copied}
use Rattle.ledger_text.specs.LinkList.{IsRight, Takes}
use Rattle.ledger_text.specs.Words.{items_of}
use Rattle.ledger_text.proofs.Taken.{Before}
use Rattle.ledger_text.proofs.link_set.LinkSet.read.Given as goal

abbrev pub invariant-loop-item : goal.invariant-loop-item
invariant-loop-item l =
    (goal.iterator-loop-item).can_next l.item-iterator × (goal.iterator-loop-item).is_finite l.item-iterator
    × ((id : ℕ) → (get_or l.set.held.items id false ≡ true) ↔ Before (λ item. Takes (option_copied l.table) item id) (items_of l.text) (length l.yielded))
    × (l.index ≡ min (length l.yielded) (length l.text))
    × ((k : ℕ) → k < length l.yielded → HoldsAt (IsRight (option_copied l.table)) (items_of l.text) k)
