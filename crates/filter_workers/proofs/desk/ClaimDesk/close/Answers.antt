use Rattle.std.proofs.Common.{◌≡◌, ℕ, min, sym, ap, ◌∙◌, arith}
use Rattle.filter_workers.specs.Seats.{DeskId, SeatState}
use Rattle.filter_workers.proofs.Closing.{closes, counted}
use Rattle.filter_workers.proofs.desk.ClaimDesk.close.Goals as goal

pub returns : goal.returns
returns c =
    let view = c.seat.view_is in
    let room = ap (λ (s : SeatState). s.room) view in
    let len : c.self.inside.len ≡ c.args.seat.desk.len = ap (λ (d : DeskId). d.len) c.self.view_is ∙ sym (ap (λ (d : DeskId). d.len) c.requires) in
    let least : c.min.result ≡ min c.word-next.result c.args.seat.desk.len = c.min.ensures ∙ ap (λ (n : ℕ). min c.word-next.result n) len in (
      sym room ∙ c.if-seat-ne-DESK_SEATS.false,
      counted c.args.seat (min c.word-next.result c.args.seat.desk.len) _
          (closes _ _ _ c.args.seat _ _ _ c.close_with-closed.ensures.values.2 c.word-next.ensures
          (c.self.invariant.0 ∙ len) (c.seat.invariant.1 ∙ c.if-seat-ne-DESK_SEATS.false)
          (ap (λ (s : SeatState). s.numbers) view) (c.seat.invariant.2 ∙ ap (λ (s : SeatState). s.through) view))
          (omega (arith, least)),
    )
