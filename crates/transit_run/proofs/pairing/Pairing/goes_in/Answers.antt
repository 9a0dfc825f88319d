use Rattle.std.proofs.Common.{refl, arith, subst, List, ℕ}
use Rattle.transit_run.specs.Waits.{Adds, queue_of, state_of}
use Rattle.transit_run.proofs.Waiting.{goes_in, lane_at, looks_pushed, place_next, queues_set}
use Rattle.transit_run.proofs.pairing.Pairing.goes_in.Goals as goal

pub returns-in_ok-add-clause-waits : goal.returns-in_ok-add-clause-waits
returns-in_ok-add-clause-waits c =
    let a = c.copy_of.new.self in
    goes_in (state_of c.args.self.now) (state_of a) c.args.head c.args.bytes.now c.saturating_add-place.result _ _ _ _ _ c.copy_of.ensures.state
    (looks_pushed a.befores.items c.push_back.new.self.items _ c.in_ok-push_back.ensures.items)
    (queues_set a.lanes.items c.args.head.place c.add.new.self)
    (place_next a.befores.items a.taken c.saturating_add-place.result c.len.result c.saturating_add-place.ensures
    (omega (arith, c.len.ensures, a.befores.ok.0)))
    (lane_at a.lanes.items c.args.head.place c.in-Some.lane.now (omega (arith, c.in-Some.ensures.variant.0 refl, a.lanes.ok.0))
    c.in-Some.ensures.value)
    (subst (λ (l : List ℕ). Adds c.args.head l c.saturating_add-place.result (queue_of c.in-Some.lane.now) (queue_of c.add.new.self)) c.in_ok-key.ensures.copy c.in_ok-add.ensures) refl
