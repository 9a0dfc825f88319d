-- The tally is that of the entries so far.
use Rattle.std.proofs.Common.{◌+◌, ◌≤◌, ◌^◌, List, ◌++◌, length, take}
use Rattle.verdict_ledger.specs.Entry.{Entry, entries_of}
use Rattle.verdict_ledger.specs.Ledger.{IsTallyOf}
use Rattle.verdict_ledger.proofs.tally.Tally.count_round.Given as goal

abbrev pub invariant-loop-index : goal.invariant-loop-index
invariant-loop-index l = (entries : List Entry) → length entries + length l.frames ≤ 2 ^ 34 → IsTallyOf entries l.initial.self →
    IsTallyOf (entries ++ take l.index (entries_of l.frames l.verdicts l.keeps l.masks)) l.self
