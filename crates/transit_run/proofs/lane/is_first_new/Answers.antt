use Rattle.std.proofs.Common.{refl, arith}
use Rattle.transit_run.proofs.Waiting.{queues_kept}
use Rattle.transit_run.proofs.lane.is_first_new.Goals as goal

pub returns : goal.returns
returns c =
    queues_kept c.args.lanes.now.items c.args.place c.in-Some.lane.now _ (omega (arith, c.in-Some.ensures.variant.0 refl, c.args.lanes.now.ok.0))
    c.in-Some.ensures.value refl
