use Rattle.std.proofs.Common.{◌≡◌, [], ◌∷◌, ◌++◌, ap, ◌∙◌, arith}
use Rattle.std.specs.Arc.{arc_value}
use Rattle.filter_workers.specs.Seats.{SeatState}
use Rattle.worker_pool.proofs.Asking.{one_more_asked, one_more_room}
use Rattle.worker_pool.proofs.flight.InFlight.ask.Goals as goal

pub invariant_of-result-2 : goal.invariant_of-result-2
invariant_of-result-2 g c =
    let flight = c.self.invariant in
    let two = c.in-Ok.ensures in
    let posting = arc_value c.self.inside.posting in
    let one = c.in_ok-ask.field-0 in
    let ws = c.self.inside.waiting.items in
    let more = c.push_reserved.new.self.items in
    let is : more ≡ ws ++ one ∷ [] = c.push_reserved.ensures.items ∙ ap (λ xs. xs ++ one ∷ []) c.reserve.ensures.items in (
      ap (λ (s : SeatState). s.desk) two.1 ∙ flight.0,
      ap (λ (s : SeatState). s.numbers) two.1 ∙ flight.1,
      flight.2,
      one_more_asked posting one _ c.in_ok-ask.ensures.asked ws more is flight.3,
      omega (
        arith,
        one_more_room posting one _ c.in_ok-ask.ensures.asked ws more is,
        ap (λ (s : SeatState). s.room) two.1,
        ap (λ (s : SeatState). s.room) two.2,
        flight.4,
      ),
    )
