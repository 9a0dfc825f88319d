use Rattle.std.proofs.Common.{refl, arith, ◌+◌, ◌<◌, ◌^◌, is_some}
use Rattle.transit_run.specs.Waits.{look, state_of}
use Rattle.transit_run.proofs.Waiting.{look_at, not_of, settles_row}
use Rattle.transit_run.proofs.pairing.Pairing.expire_next.Goals as goal

pub returns-clause-settles : goal.returns-clause-settles
returns-clause-settles c =
    let a = c.args.self.now in
    let h : a.expired + 1 < 2 ^ 64 = omega (arith, c.in-Some.ensures.variant.0 refl, a.befores.ok.0, a.befores.small) in
    settles_row (state_of a) (state_of c.expire_row.new.self) c.in-Some.row.now.head c.is_none.result (look c.in-Some.row.now) c.args.now c.is_past.result
    c.in_ok-expire_row.ensures.forgets c.in_ok-expire_row.ensures.expired h
    (look_at a.befores.items a.expired c.in-Some.row.now (omega (arith, c.in-Some.ensures.variant.0 refl, a.befores.ok.0)) c.in-Some.ensures.lookup)
    refl refl refl (not_of (is_some c.in-Some.row.now.partner) c.is_none.result c.is_none.ensures) (λ moment is. c.is_past.ensures.past moment is)
    c.if-not-is_past.false
