-- The lines of the entries so far stand after the text.
use Rattle.std.proofs.Common.{◌≡◌, ◌++◌, take}
use Rattle.verdict_ledger.specs.Entry.{entries_of}
use Rattle.verdict_ledger.specs.Text.{lines_text}
use Rattle.verdict_ledger.proofs.lines.append_lines.Given as goal

abbrev pub invariant-loop-index : goal.invariant-loop-index
invariant-loop-index l =
    l.text.items ≡ l.initial.text.items ++ lines_text l.version (take l.index (entries_of l.frames l.verdicts l.keeps l.masks))
