use Rattle.std.proofs.Common.{◌≡◌, []}
use Rattle.transit_run.specs.Held.{Keeps}
use Rattle.transit_run.specs.Waits.{Settles, state_of}
use Rattle.transit_run.proofs.pairing.Pairing.expire.Given as goal

abbrev pub invariant-loop : goal.invariant-loop
invariant-loop l = record {
  keeps : Keeps [] l.initial.self l.self;
  settles : Settles (state_of l.initial.self) (state_of l.self) l.initial.now;
  count : l.self.expired ≡ l.counter;
  looks : (state_of l.self).looks ≡ (state_of l.initial.self).looks;
}
