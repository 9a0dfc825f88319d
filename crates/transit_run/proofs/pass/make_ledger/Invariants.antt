use Rattle.transit_run.specs.Ledger.{IsEmpty}
use Rattle.transit_run.proofs.pass.make_ledger.Given as goal

abbrev pub invariant-loop-link : goal.invariant-loop-link
invariant-loop-link l = IsEmpty l.ledger
