use Rattle.std.proofs.Common.{[], arith, refl, ◌∙◌, ap, List, length}
use Rattle.std.proofs.lemmas.List.{length-map}
use Rattle.transit_run.specs.Waits.{Look, look, state_of}
use Rattle.transit_run.proofs.Keeping.{keeps_same, keeps_then}
use Rattle.transit_run.proofs.Waiting.{all_done, settles_still, settles_then, turned_off, turned_on}
use Rattle.transit_run.proofs.pairing.Pairing.expire.Goals as goal

pub loop-init : goal.loop-init
loop-init c = record {
  keeps = keeps_same c.args.self.now c.args.self.now refl refl refl;
  settles = settles_still (state_of c.args.self.now) c.args.now;
  count = refl;
  looks = refl;
}

pub loop-preserved : goal.loop-preserved
loop-preserved c =
    let turn = turned_on c.args.now _ _ c.in_ok-expire_next.field-0 c.in_ok-expire_next.ensures.turn c.if-not-branch.false in
    record {
      keeps = keeps_then _ _ _ [] c.loop.invariant.keeps c.in_ok-expire_next.ensures.keeps;
      settles = settles_then _ _ _ c.args.now c.loop.invariant.settles c.in_ok-expire_next.ensures.settles;
      count = omega (arith, turn.0, c.loop.invariant.count);
      looks = turn.1 ∙ c.loop.invariant.looks;
    }

pub returns-after-loop-clause-settles : goal.returns-after-loop-clause-settles
returns-after-loop-clause-settles c = c.loop.invariant.settles

pub returns-after-loop-clause-done : goal.returns-after-loop-clause-done
returns-after-loop-clause-done c = λ moment is.
    all_done (state_of c.loop.self) moment
    (omega (
      arith,
      c.loop.invariant.count,
      c.loop-test.false,
      c.len-end.ensures,
      c.args.self.now.befores.ok.0,
      length-map c.args.self.now.befores.items look,
      ap (λ (l : List Look). length l) c.loop.invariant.looks,
    ))

pub returns-then-not-branch-clause-settles : goal.returns-then-not-branch-clause-settles
returns-then-not-branch-clause-settles c = settles_then _ _ _ c.args.now c.loop.invariant.settles c.in_ok-expire_next.ensures.settles

pub returns-then-not-branch-clause-done : goal.returns-then-not-branch-clause-done
returns-then-not-branch-clause-done c =
    turned_off c.args.now _ _ c.in_ok-expire_next.field-0 c.in_ok-expire_next.ensures.turn c.if-not-branch.true
