use Rattle.std.proofs.Common.{[]}
use Rattle.run_manifest.proofs.digesting.sum_of.Goals as goal

pub returns : goal.returns
returns c = c.end.ensures c.args.hashed c.args.bytes.now (c.pass.ensures c.args.hashed [] c.new-tally.ensures)
