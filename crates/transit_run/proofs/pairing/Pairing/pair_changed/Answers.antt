use Rattle.std.proofs.Common.{[]}
use Rattle.transit_run.proofs.Keeping.{keeps_same, keeps_then}
use Rattle.transit_run.proofs.Waiting.{stays_same, stays_then}
use Rattle.std.proofs.Common.{refl}
use Rattle.transit_run.specs.Waits.{state_of}
use Rattle.transit_run.proofs.pairing.Pairing.pair_changed.Goals as goal

pub loop-init : goal.loop-init
loop-init c = record { keeps = keeps_same c.args.self.now c.args.self.now refl refl refl; stays = stays_same (state_of c.args.self.now) }

pub loop-preserved : goal.loop-preserved
loop-preserved c = record {
  keeps = keeps_then _ _ _ [] c.loop.invariant.keeps c.pair_next.ensures.keeps;
  stays = stays_then _ _ _ c.loop.invariant.stays c.pair_next.ensures.stays;
}

pub returns-after-loop-clause-keeps : goal.returns-after-loop-clause-keeps
returns-after-loop-clause-keeps c = c.loop.invariant.keeps

pub returns-after-loop-clause-stays : goal.returns-after-loop-clause-stays
returns-after-loop-clause-stays c = c.loop.invariant.stays

pub returns-then-not-pair_next-clause-keeps : goal.returns-then-not-pair_next-clause-keeps
returns-then-not-pair_next-clause-keeps c = keeps_then _ _ _ [] c.loop.invariant.keeps c.pair_next.ensures.keeps

pub returns-then-not-pair_next-clause-stays : goal.returns-then-not-pair_next-clause-stays
returns-then-not-pair_next-clause-stays c = stays_then _ _ _ c.loop.invariant.stays c.pair_next.ensures.stays
