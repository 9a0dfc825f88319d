-- Nothing was taken yet.
use Rattle.std.proofs.Common.{◌≡◌}
use Rattle.rtrb.specs.Ring.{received}
use Rattle.tap_merge.proofs.parcel.receive.Given as goal

abbrev pub invariant-loop : goal.invariant-loop
invariant-loop g l = received l.receiver ≡ received l.fn.receiver
