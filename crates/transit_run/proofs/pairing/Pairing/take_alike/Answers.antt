use Rattle.std.proofs.Common.{refl, sym, ◌∙◌, arith}
use Rattle.transit_run.specs.Waits.{queue_of, state_of}
use Rattle.transit_run.proofs.Waiting.{lane_at, queues_kept, queues_set, takes_cut, takes_whole}
use Rattle.transit_run.proofs.pairing.Pairing.take_alike.Goals as goal

pub returns-then-is_cut-clause-takes : goal.returns-then-is_cut-clause-takes
returns-then-is_cut-clause-takes c =
    takes_cut (state_of c.args.self.now) c.args.head.now _ _ _ (sym c.is_cut.ensures ∙ c.if-is_cut.true) refl
    (queues_kept c.args.self.now.lanes.items c.args.head.now.place c.in-Some.lane.now _
    (omega (arith, c.in-Some.ensures.variant.0 refl, c.args.self.now.lanes.ok.0)) c.in-Some.ensures.value refl)

pub returns-in-Some-take-clause-takes : goal.returns-in-Some-take-clause-takes
returns-in-Some-take-clause-takes c =
    takes_whole (state_of c.args.self.now) c.args.head.now _ _ _ (queue_of c.in-Some.lane.now) (queue_of c.take.new.self)
    (sym c.is_cut.ensures ∙ c.if-is_cut.false)
    (lane_at c.args.self.now.lanes.items c.args.head.now.place c.in-Some.lane.now
    (omega (arith, c.in-Some.ensures.variant.0 refl, c.args.self.now.lanes.ok.0)) c.in-Some.ensures.value)
    (queues_set c.args.self.now.lanes.items c.args.head.now.place c.take.new.self) c.in-Some-take.ensures

pub returns-in-None-clause-takes : goal.returns-in-None-clause-takes
returns-in-None-clause-takes c =
    takes_whole (state_of c.args.self.now) c.args.head.now _ _ _ (queue_of c.in-Some.lane.now) (queue_of c.take.new.self)
    (sym c.is_cut.ensures ∙ c.if-is_cut.false)
    (lane_at c.args.self.now.lanes.items c.args.head.now.place c.in-Some.lane.now
    (omega (arith, c.in-Some.ensures.variant.0 refl, c.args.self.now.lanes.ok.0)) c.in-Some.ensures.value)
    (queues_set c.args.self.now.lanes.items c.args.head.now.place c.take.new.self) c.in-None.ensures
