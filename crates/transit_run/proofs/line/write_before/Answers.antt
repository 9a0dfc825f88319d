use Rattle.std.proofs.Common.{arith}
use Rattle.std.proofs.Math.ListN.{drop_of_length-le}
use Rattle.transit_run.proofs.Written.{before_whole}
use Rattle.transit_run.proofs.line.write_before.Goals as goal

pub returns-clause-written : goal.returns-clause-written
returns-clause-written c =
    before_whole _ _ _ c.args.before.now c.write_head.ensures.written c.write_fate-end.ensures.written
    (drop_of_length-le c.args.line.now {i = 193} (omega arith))
