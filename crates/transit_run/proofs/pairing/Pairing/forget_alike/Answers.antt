use Rattle.std.proofs.Common.{refl, arith}
use Rattle.std.proofs.lemmas.Bool.{false≢true}
use Rattle.std.proofs.lemmas.List.{length-map}
use Rattle.transit_run.specs.Waits.{queue_of, state_of}
use Rattle.transit_run.proofs.Waiting.{forgets_at, forgets_nowhere, lane_at, on_ok, queues_set}
use Rattle.transit_run.proofs.pairing.Pairing.forget_alike.Goals as goal

pub returns-in-Some-clause-forgets : goal.returns-in-Some-clause-forgets
returns-in-Some-clause-forgets c =
    on_ok c.expire.result _ _
    (λ f. forgets_at (state_of c.args.self.now) c.args.head.now c.args.is_free c.saturating_add-over.result c.saturating_add.result _
    (queue_of c.in-Some.lane.now) (queue_of c.expire.new.self) c.saturating_add-over.ensures c.saturating_add.ensures
    (lane_at c.args.self.now.lanes.items c.args.head.now.place c.in-Some.lane.now
    (omega (arith, c.in-Some.ensures.variant.0 refl, c.args.self.now.lanes.ok.0)) c.in-Some.ensures.value)
    (queues_set c.args.self.now.lanes.items c.args.head.now.place c.expire.new.self) f) c.expire.ensures

pub returns-in-None-clause-forgets : goal.returns-in-None-clause-forgets
returns-in-None-clause-forgets c =
    forgets_nowhere (state_of c.args.self.now) c.args.head.now c.args.is_free
    (λ h. false≢true (c.in-None.ensures.variant.1
    (omega (arith, h, length-map c.args.self.now.lanes.items queue_of, c.args.self.now.lanes.ok.0))))
