use Rattle.std.proofs.Common.{◌≡◌, ℕ, sym, subst, ap, ◌∙◌, arith}
use Rattle.std.specs.Arc.{arc_value}
use Rattle.filter_workers.specs.Seats.{SeatState}
use Rattle.filter_workers.specs.declared.desk.TheConstants.{DESK_SEATS}
use Rattle.worker_pool.specs.Chunks.{Posted}
use Rattle.worker_pool.specs.Shares.{IsShare}
use Rattle.worker_pool.proofs.Asking.{joined_share, no_room, others_asked, others_room, waited_share}
use Rattle.worker_pool.proofs.flight.InFlight.gather.Goals as goal

pub join-requires-clause-second : goal.join-requires-clause-second
join-requires-clause-second g c =
    let posting = arc_value c.self.inside.posting in
    let share = waited_share posting c.loop-one.waiting.items c.pop.new.self.items c.in-Some.one c.in-Some.ensures.items c.loop-one.invariant.asked
    g.T.Task.len g.T.Task.is_batch c.in-Some-take.other c.in-Some-take.ensures in
    share.of_desk ∙ (ap (λ (p : Posted _ _). p.desk) (sym c.deref-in-Some.ensures) ∙ sym (ap (λ (p : Posted _ _). p.desk) c.behind-posting.view_is))

pub loop-one-preserved : goal.loop-one-preserved
loop-one-preserved g c =
    let posting = arc_value c.self.inside.posting in
    let before = c.loop-one.waiting.items in
    let rest = c.pop.new.self.items in
    let one = c.in-Some.one in
    let asked = c.loop-one.invariant.asked in
    let share = waited_share posting before rest one c.in-Some.ensures.items asked g.T.Task.len g.T.Task.is_batch c.in-Some-take.other c.in-Some-take.ensures in
    record {
      share = joined_share g.T.Task.len g.T.Task.is_batch posting _ _ c.loop-one.share c.in-Some-take.other c.in_ok-share.share
          c.loop-one.invariant.share share c.in_ok-share.ensures;
      asked = others_asked posting before rest one c.in-Some.ensures.items asked;
      rooms = omega (
        arith,
        c.loop-one.invariant.rooms,
        others_room posting before rest one c.in-Some.ensures.items asked,
        ap (λ (s : SeatState). s.room) c.in_ok-share.ensures.0,
        share.room_is,
      );
    }

pub returns-clause-share : goal.returns-clause-share
returns-clause-share g c =
    let waiting = c.loop-one.waiting in
    let room : c.loop-one.share.seat.room ≡ DESK_SEATS = omega (arith, c.loop-one.invariant.rooms, no_room waiting.items (sym waiting.ok.0 ∙ c.in_default.ensures.cases.0)) in
    subst (λ (n : ℕ). IsShare g.T.Task.len g.T.Task.is_batch c.args.self n c.loop-one.share) room
    (subst (λ (p : Posted _ _). IsShare g.T.Task.len g.T.Task.is_batch p c.loop-one.share.seat.room c.loop-one.share) c.self.view_is c.loop-one.invariant.share)
