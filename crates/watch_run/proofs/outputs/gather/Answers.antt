use Rattle.watch_run.specs.Filters.{making_of}
use Rattle.watch_run.proofs.outputs.gather.Goals as goal

pub returns-clause-entries : goal.returns-clause-entries
returns-clause-entries g c =
    let round = c.args.flight.round in
    c.in_ok-gather.ensures (making_of c.args.flight.task.plan) round.frames round.verdicts.items c.args.flight.size
    (record { judged = round.judged; are = rw c.deref.ensures.value c.in-Ok.ensures.batches })
