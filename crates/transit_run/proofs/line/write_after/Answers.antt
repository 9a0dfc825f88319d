use Rattle.std.proofs.Common.{arith}
use Rattle.std.proofs.Math.ListN.{drop_of_length-le}
use Rattle.transit_run.proofs.Written.{after_whole, origin_whole}
use Rattle.transit_run.proofs.line.write_after.Goals as goal

pub returns-clause-written : goal.returns-clause-written
returns-clause-written c =
    after_whole _ _ _ c.args.after.now c.write_head.ensures.written
    (origin_whole _ _ _ _ c.word-origin.result.now c.args.after.now c.word-origin.ensures.word c.write_bytes-dash.ensures.written
    c.write_word-named.ensures.written c.write_bytes-rest.ensures.written)
    (drop_of_length-le c.args.line.now {i = 193} (omega arith))
