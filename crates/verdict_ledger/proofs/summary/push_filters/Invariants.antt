-- The lines of the filters so far stand in the text.
use Rattle.std.proofs.Common.{◌≡◌, ◌++◌, take}
use Rattle.verdict_ledger.specs.Text.{filter_lines}
use Rattle.verdict_ledger.proofs.summary.push_filters.Given as goal

abbrev pub invariant-loop-filter : goal.invariant-loop-filter
invariant-loop-filter l = l.text.items ≡ l.initial.text.items ++ filter_lines 0 (take l.filter l.counts)
