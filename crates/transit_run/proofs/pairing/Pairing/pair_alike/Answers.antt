use Rattle.std.proofs.Common.{arith, refl, sym, ◌∙◌}
use Rattle.transit_run.specs.Held.{out_mark}
use Rattle.transit_run.specs.Waits.{partner_of, state_of}
use Rattle.transit_run.proofs.Keeping.{keeps_alike}
use Rattle.transit_run.proofs.Waiting.{pairs_row, queues_kept}
use Rattle.transit_run.proofs.pairing.Pairing.pair_alike.Goals as goal

pub returns-in-Some-get_mut-2-clause-keeps : goal.returns-in-Some-get_mut-2-clause-keeps
returns-in-Some-get_mut-2-clause-keeps c =
    keeps_alike c.args.self.now _ c.args.head.now c.came_out-came_out.result c.saturating_sub-index.result c.in-Some-get_mut.row.now _
    (omega (arith, c.in-Some-get_mut.ensures.variant.0 refl, c.args.self.now.befores.ok.0)) c.in-Some-get_mut.ensures.value refl
    (sym c.is_some.ensures ∙ c.if-is_some.false) refl c.came_out-came_out.ensures refl refl refl

pub returns-in_default-get_mut-2-clause-keeps : goal.returns-in_default-get_mut-2-clause-keeps
returns-in_default-get_mut-2-clause-keeps c =
    keeps_alike c.args.self.now _ c.args.head.now c.came_out-came_out.result c.saturating_sub-index.result c.in-Some-get_mut.row.now _
    (omega (arith, c.in-Some-get_mut.ensures.variant.0 refl, c.args.self.now.befores.ok.0)) c.in-Some-get_mut.ensures.value refl
    (sym c.is_some.ensures ∙ c.if-is_some.false) refl c.came_out-came_out.ensures refl refl refl

pub returns-else-is_some-2-clause-keeps : goal.returns-else-is_some-2-clause-keeps
returns-else-is_some-2-clause-keeps c =
    keeps_alike c.args.self.now _ c.args.head.now c.came_out-came_out.result c.saturating_sub-index.result c.in-Some-get_mut.row.now _
    (omega (arith, c.in-Some-get_mut.ensures.variant.0 refl, c.args.self.now.befores.ok.0)) c.in-Some-get_mut.ensures.value refl
    (sym c.is_some.ensures ∙ c.if-is_some.false) refl c.came_out-came_out.ensures refl refl refl

pub returns-in-Some-get_mut-2-clause-pairs : goal.returns-in-Some-get_mut-2-clause-pairs
returns-in-Some-get_mut-2-clause-pairs c =
    pairs_row (partner_of (out_mark c.args.self.now.early c.args.head.now)) (state_of c.args.self.now) c.args.self.now.befores.items c.args.place c.in-Some.place
    c.saturating_sub-index.result c.came_out-came_out.result c.in-Some-get_mut.row.now _ _ c.in-Some.is refl c.saturating_sub-index.ensures
    (omega (arith, c.in-Some-get_mut.ensures.variant.0 refl, c.args.self.now.befores.ok.0)) c.in-Some-get_mut.ensures.value
    c.came_out-came_out.ensures refl
    (queues_kept c.args.self.now.lanes.items c.args.head.now.place c.in-Some-get_mut-2.lane.now _
    (omega (arith, c.in-Some-get_mut-2.ensures.variant.0 refl, c.args.self.now.lanes.ok.0)) c.in-Some-get_mut-2.ensures.value refl)

pub returns-in_default-get_mut-2-clause-pairs : goal.returns-in_default-get_mut-2-clause-pairs
returns-in_default-get_mut-2-clause-pairs c =
    pairs_row (partner_of (out_mark c.args.self.now.early c.args.head.now)) (state_of c.args.self.now) c.args.self.now.befores.items c.args.place c.in-Some.place
    c.saturating_sub-index.result c.came_out-came_out.result c.in-Some-get_mut.row.now _ _ c.in-Some.is refl c.saturating_sub-index.ensures
    (omega (arith, c.in-Some-get_mut.ensures.variant.0 refl, c.args.self.now.befores.ok.0)) c.in-Some-get_mut.ensures.value
    c.came_out-came_out.ensures refl refl

pub returns-else-is_some-2-clause-pairs : goal.returns-else-is_some-2-clause-pairs
returns-else-is_some-2-clause-pairs c =
    pairs_row (partner_of (out_mark c.args.self.now.early c.args.head.now)) (state_of c.args.self.now) c.args.self.now.befores.items c.args.place c.in-Some.place
    c.saturating_sub-index.result c.came_out-came_out.result c.in-Some-get_mut.row.now _ _ c.in-Some.is refl c.saturating_sub-index.ensures
    (omega (arith, c.in-Some-get_mut.ensures.variant.0 refl, c.args.self.now.befores.ok.0)) c.in-Some-get_mut.ensures.value
    c.came_out-came_out.ensures refl refl
