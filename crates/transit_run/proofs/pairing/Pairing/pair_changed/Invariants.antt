use Rattle.std.proofs.Common.{[]}
use Rattle.transit_run.specs.Held.{Keeps}
use Rattle.transit_run.specs.Waits.{Stays, state_of}
use Rattle.transit_run.proofs.pairing.Pairing.pair_changed.Given as goal

abbrev pub invariant-loop : goal.invariant-loop
invariant-loop l = record {
  keeps : Keeps [] l.initial.self l.self;
  stays : Stays (state_of l.initial.self) (state_of l.self);
}
