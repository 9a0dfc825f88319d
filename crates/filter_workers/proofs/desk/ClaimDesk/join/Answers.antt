use Rattle.std.proofs.Common.{sym, ap, ◌∙◌, arith}
use Rattle.filter_workers.specs.Seats.{DeskId, SeatState}
use Rattle.filter_workers.proofs.Steps.{joins, looks}
use Rattle.filter_workers.proofs.desk.ClaimDesk.join.Goals as goal

pub join_seat-requires : goal.join_seat-requires
join_seat-requires c = (
  ap (λ (s : SeatState). s.desk.table) c.first.view_is ∙ (ap (λ (d : DeskId). d.table) c.requires.first ∙ sym (ap (λ (d : DeskId). d.table) c.self.view_is)),
  ap (λ (s : SeatState). s.desk.table) c.second.view_is ∙ (ap (λ (d : DeskId). d.table) c.requires.second ∙ sym (ap (λ (d : DeskId). d.table) c.self.view_is)),
  c.second.invariant.0,
  omega arith,
  joins _ _ _ _ _ (omega arith),
)

pub load-requires : goal.load-requires
load-requires c = (
  c.join_seat.ensures.0 ∙ (ap (λ (s : SeatState). s.desk.table) c.first.view_is ∙ (ap (λ (d : DeskId). d.table) c.requires.first ∙ sym (ap (λ (d : DeskId). d.table) c.self.view_is))),
  omega arith,
  looks _ _ _ _,
)
