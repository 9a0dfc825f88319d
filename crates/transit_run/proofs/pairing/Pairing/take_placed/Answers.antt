use Rattle.std.proofs.Common.{refl, arith}
use Rattle.transit_run.specs.Waits.{state_of}
use Rattle.transit_run.proofs.Waiting.{queues_kept, with_queues_eq}
use Rattle.transit_run.proofs.pairing.Pairing.take_placed.Goals as goal

pub returns-clause-state : goal.returns-clause-state
returns-clause-state c =
    with_queues_eq (state_of c.args.self.now) _ _
    (queues_kept c.args.self.now.lanes.items c.args.head.now.place c.in_ok-lane.lane.now _
    (omega (arith, c.in_ok-lane.ensures.variant.0 refl, c.args.self.now.lanes.ok.0)) c.in_ok-lane.ensures.value refl)
