use Rattle.std.proofs.Common.{sym, ap, ◌∙◌, arith}
use Rattle.filter_workers.specs.Seats.{DeskId, SeatState}
use Rattle.filter_workers.proofs.Steps.{splits}
use Rattle.filter_workers.proofs.desk.ClaimDesk.split.Goals as goal

pub split_seat-other-requires : goal.split_seat-other-requires
split_seat-other-requires c = (
  ap (λ (s : SeatState). s.desk.table) c.seat.view_is ∙ (ap (λ (d : DeskId). d.table) c.requires ∙ sym (ap (λ (d : DeskId). d.table) c.self.view_is)),
  omega arith,
  splits _ _ _ (omega arith),
)
