use Rattle.std.proofs.Common.{subst}
use Rattle.rtrb.specs.Ring.{received}
use Rattle.tap_merge.specs.Parcels.{Brings, Promises}
use Rattle.tap_merge.specs.declared.parcel.Parcel.TheVariants.{Delivered}
use Rattle.tap_merge.proofs.parcel.receive.Goals as goal

pub returns-in-Ok-clause-kept : goal.returns-in-Ok-clause-kept
returns-in-Ok-clause-kept g c =
    let brings : Brings (received c.loop.receiver) c.in-Ok.parcel = c.in-Ok.ensures.ok.2 in
    let all : Brings (received c.loop.receiver) (Delivered c.in-Delivered.reader c.in-Delivered.put) =
    subst (λ p. Brings (received c.loop.receiver) p) c.in-Delivered.is brings in
    subst (λ l. Promises l c.in-Delivered.reader c.in-Delivered.put) c.loop.invariant all.1
