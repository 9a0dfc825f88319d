use Rattle.std.proofs.Common.{◌≡◌, ◌+◌}
use Rattle.transit_run.specs.Held.{Writes, count_of}
use Rattle.transit_run.specs.Partners.{Alike}
use Rattle.transit_run.proofs.pass.Pass.write.Given as goal

abbrev pub invariant-loop : goal.invariant-loop
invariant-loop l = record {
  writes : Writes l.initial.self l.self;
  alike : Alike l.initial.self l.self l.initial.now;
  count : count_of l.self.pairing + l.counter ≡ count_of l.initial.self.pairing;
}
