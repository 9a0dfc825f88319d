use Rattle.std.proofs.Common.{refl, arith}
use Rattle.transit_run.proofs.Waiting.{queues_kept}
use Rattle.transit_run.proofs.lane.police.Goals as goal

pub returns : goal.returns
returns c =
    queues_kept c.args.lanes.now.items c.args.row.now.head.place c.in_ok-lane.lane.now _ (omega (arith, c.in_ok-lane.ensures.variant.0 refl, c.args.lanes.now.ok.0))
    c.in_ok-lane.ensures.value refl
