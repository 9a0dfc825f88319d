use Rattle.std.proofs.Common.{arith, refl}
use Rattle.ledger_text.proofs.Matching.{begins, star_step}
use Rattle.ledger_text.proofs.pattern.matches.Goals as goal

pub loop-at-init : goal.loop-at-init
loop-at-init c = begins _ c.args.pattern.now c.args.name.now refl c.requires

pub loop-at-preserved-then-pattern-at-eq42 : goal.loop-at-preserved-then-pattern-at-eq42
loop-at-preserved-then-pattern-at-eq42 c = (
  omega (arith, c.before_star.auto.from, c.loop-at.invariant.0),
  star_step c.args.pattern.now c.args.name.now c.loop-at.at c.loop-at.from c.before_star.new.from (omega arith) (omega arith) c.if-pattern-at-eq42.true
      c.loop-at.invariant.1 c.before_star.ensures.last c.before_star.ensures.others,
)
