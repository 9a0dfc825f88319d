use denote.Exit.{yes}
use denote.Param.{param}
use denote.Param.Send.{IsSync, arg_send, param_send, shr_send}
use denote.Param.SendFields.{declared_send}
use denote.Ref.{ShrRef}
use denote.Struct.Tuple.{type_at}
use mathlib.Core.List.{[], ◌∷◌}
use Rattle.worker_pool.proofs.Crossing.{station_send}
use Rattle.worker_pool.specs.contracts.job.Station as Station
use Rattle.worker_pool.proofs.pool.start_worker.Lts as Lts
use Rattle.worker_pool.proofs.pool.start_worker.Goals as goal

-- the thread's closure has the station, and lends the runtime
pub spawn-requires-send-F : goal.spawn-requires-send-F
spawn-requires-send-F g c κs within =
    let bounds = c.type_bounds in
    let task = param 2 g.row.T in
    let round = param 3 g.row.T-Round in
    let batch = param 4 g.row.T-Batch in
    let runtime : IsSync (param 1 g.row.R) = bounds.sync-R in
    param_send 1 (Lts.arg-13-1 g.row.E g.row.R g.row.T g.row.T-Round g.row.T-Batch g.E.laws g.R.laws g.T.laws g.T.Round.laws g.T.Batch.laws
    g.R.Wait g.R.Wait-dict g.T.Task g.T.Task-dict g.T.Destruct-dict g.T.Round.Destruct-dict g.T.Batch.Destruct-dict κs)
    (arg_send _ yes _
    (declared_send (type_at _ (Station.the_row task round batch g.T.Task ∷ ShrRef _ _ (param 1 g.row.R) ∷ [])) (
      station_send task round batch g.T.Task bounds.send-T bounds.sync-T bounds.send-T-Round bounds.sync-T-Round bounds.send-T-Batch,
      (shr_send _ _ _ runtime, tt),
    )))
