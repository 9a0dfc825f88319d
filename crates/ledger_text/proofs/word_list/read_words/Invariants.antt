use Rattle.std.proofs.Common.{◌≡◌, ◌≢◌, [], ℕ, ◌<◌, length, take, min, flat_map}
use Rattle.std.specs.List.{HoldsAt}
use Rattle.ledger_text.specs.Words.{items_of, words_named}
use Rattle.ledger_text.proofs.word_list.read_words.Given as goal

abbrev pub invariant-loop-item : goal.invariant-loop-item
invariant-loop-item l =
    (goal.iterator-loop-item).can_next l.item-iterator × (goal.iterator-loop-item).is_finite l.item-iterator
    × (l.words.items ≡ flat_map words_named (take (length l.yielded) (items_of l.text)))
    × (l.index ≡ min (length l.yielded) (length l.text))
    × ((k : ℕ) → k < length l.yielded → HoldsAt (λ item. words_named item ≢ []) (items_of l.text) k)
