-- The links so far are copied.
use Rattle.std.proofs.Common.{◌≡◌, take}
use Rattle.verdict_ledger.proofs.kept.copies_of.Given as goal

abbrev pub invariant-loop-link : goal.invariant-loop-link
invariant-loop-link l = l.copies.items ≡ take l.link-index l.links
