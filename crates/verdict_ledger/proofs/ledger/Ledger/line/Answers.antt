use Rattle.std.proofs.Common.{arith}
use Rattle.verdict_ledger.proofs.Counting.{frames_of}
use Rattle.verdict_ledger.proofs.ledger.Ledger.line.Goals as goal

pub returns-in-Ok-clause-counted : goal.returns-in-Ok-clause-counted
returns-in-Ok-clause-counted g c = λ vl_table filters entries stands. record {
  links = stands.links;
  filters = stands.filters;
  tally = c.count.ensures entries (omega (arith, c.requires, frames_of entries c.args.self.now.tally.totals stands.tally.totals)) stands.tally;
}
