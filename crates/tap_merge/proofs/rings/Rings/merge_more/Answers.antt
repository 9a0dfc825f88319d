use Rattle.run_fault.specs.declared.fault.WatchFault.TheVariants.{Read}
use Rattle.tap_merge.proofs.RingItems.{with_fault}
use Rattle.tap_merge.proofs.rings.Rings.merge_more.Goals as goal

pub returns-in-Err-Read-clause-merged : goal.returns-in-Err-Read-clause-merged
returns-in-Err-Read-clause-merged g c = λ late cut h.
    with_fault late cut c.merge_some.new.self (Read c.in-Err-Read.network) ((rw c.in-Err-Read.field-0-is at c.in-Err-Read.ensures.failed) late cut h) (rw c.in-Err-Read.field-0-is at c.in-Err-Read.ensures.fault)
