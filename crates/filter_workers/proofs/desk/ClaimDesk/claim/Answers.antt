use Rattle.std.proofs.Common.{sym, ap, ◌∙◌, arith}
use Rattle.filter_workers.specs.Seats.{DeskId, SeatState}
use Rattle.filter_workers.proofs.Steps.{draws}
use Rattle.filter_workers.proofs.desk.ClaimDesk.claim.Goals as goal

pub fetch_add-number-requires : goal.fetch_add-number-requires
fetch_add-number-requires c = (
  ap (λ (s : SeatState). s.desk.table) c.seat.view_is ∙ (ap (λ (d : DeskId). d.table) c.requires ∙ sym (ap (λ (d : DeskId). d.table) c.self.view_is)),
  omega arith,
  draws _ _ _ _ (omega arith) (c.seat.invariant.2 ∙ c.if-not-seat.true),
)
