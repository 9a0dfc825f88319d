use Rattle.std.proofs.Common.{◌≡◌, ◌+◌, vec_len}
use Rattle.std.specs.Prelude.{All, sum_by}
use Rattle.std.specs.Arc.{arc_value}
use Rattle.filter_workers.specs.declared.desk.TheConstants.{DESK_SEATS}
use Rattle.worker_pool.specs.Flights.{IsAsked, room_asked}
use Rattle.worker_pool.specs.Shares.{IsShare}
use Rattle.worker_pool.proofs.flight.InFlight.gather.Given as goal

abbrev pub invariant-loop-one : goal.invariant-loop-one
invariant-loop-one g l = record {
  share : IsShare g.T.Task.len g.T.Task.is_batch (arc_value l.posting) l.share.seat.room l.share;
  asked : All (IsAsked (arc_value l.posting)) l.waiting.items;
  rooms : l.share.seat.room + sum_by room_asked l.waiting.items ≡ DESK_SEATS;
}

abbrev pub decreases-loop-one : goal.decreases-loop-one
decreases-loop-one g l = vec_len l.waiting
