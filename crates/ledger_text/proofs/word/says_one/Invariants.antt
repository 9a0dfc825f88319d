use Rattle.std.proofs.Common.{ℕ, ◌<◌, get_or}
use Rattle.ledger_text.specs.Selection.{Says}
use Rattle.ledger_text.specs.declared.word.Word.{Word}
use Rattle.ledger_text.proofs.word.says_one.Given as goal

abbrev pub invariant-loop-word : goal.invariant-loop-word
invariant-loop-word l = (k : ℕ) (d : Word) → k < l.word-index → Says l.line (get_or l.words k d) → ⊥
