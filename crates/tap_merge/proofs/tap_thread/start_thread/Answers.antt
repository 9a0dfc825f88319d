use denote.Exit.{yes}
use denote.Param.{param}
use denote.Param.Send.{arg_send, param_send, shr_send}
use denote.Param.SendFields.{declared_send}
use denote.Ref.{ShrRef}
use denote.Struct.Tuple.{type_at}
use mathlib.Core.List.{[], ◌∷◌}
use Rattle.std.proofs.Crossing.{frees, send}
use Rattle.std.specs.contracts.alloc.Global as Heap
use Rattle.std.specs.contracts.impls.GlobalAllocator.TheImpl.{ghosts}
use Rattle.std.specs.contracts.option.Option as Option
use Rattle.rtrb.specs.contracts.consumer.Consumer as Consumer
use Rattle.tap_merge.specs.contracts.parcel.AsPromised as AsPromised
use Rattle.tap_merge.specs.contracts.parcel.Parcel as Parcel
use Rattle.tap_merge.proofs.Crossing.{consumer_send, option_send, parcel_send}
use Rattle.tap_merge.proofs.tap_thread.start_thread.Lts as Lts
use Rattle.tap_merge.proofs.tap_thread.start_thread.Goals as goal

-- the thread's closure has the ring's end, and lends the runtime and the gate
pub spawn_with-requires-send-F : goal.spawn_with-requires-send-F
spawn_with-requires-send-F g c κs within =
    let bounds = c.type_bounds in
    let parcels = consumer_send _ Heap.the_row AsPromised.the_row ghosts _ (parcel_send (param 2 g.row.S) bounds.send-S) send frees in
    param_send 2 (Lts.arg-0-2 g.row.E g.row.R g.row.S g.row.G g.E.laws g.R.laws g.S.laws g.G.laws g.R.Wait g.R.Wait-dict g.S.TapSource g.S.TapSource-dict
    g.G.TapGate g.G.TapGate-dict g.S.Destruct-dict κs)
    (arg_send _ yes _
    (declared_send (type_at _ (ShrRef _ _ (param 1 g.row.R) ∷ Heap.the_row ∷ ShrRef _ _ (param 3 g.row.G)
    ∷ Option.the_row (Consumer.the_row (Parcel.the_row (param 2 g.row.S)) Heap.the_row AsPromised.the_row ghosts _) ∷ []))
    (shr_send _ _ _ bounds.sync-R, (send, (shr_send _ _ _ bounds.sync-G, (option_send _ parcels, tt))))))

pub spawn_with-requires-clause-keeps : goal.spawn_with-requires-clause-keeps
spawn_with-requires-clause-keeps g c κs within = λ fed kept.
    kept.1.1 c.args.promise.reader.value c.args.promise.put.value c.requires
