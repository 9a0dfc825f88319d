use Rattle.std.proofs.Common.{[], arith, refl}
use Rattle.transit_run.proofs.Growing.{adds_none, grows_then}
use Rattle.transit_run.proofs.Keeping.{keeps_same}
use Rattle.transit_run.proofs.Partners.{alike_same, alike_then}
use Rattle.transit_run.proofs.Passing.{grows_of, held_none, held_out_none, on_err, turned, writes_kept, writes_then, ended}
use Rattle.transit_run.proofs.pass.Pass.write.Goals as goal

pub returns-in_err-write_next-clause-err : goal.returns-in_err-write_next-clause-err
returns-in_err-write_next-clause-err c =
    on_err c.from_residual.result _ (grows_then _ _ _ (grows_of _ _ [] [] c.loop.invariant.writes.passes) c.in_err-write_next.ensures.err)

pub loop-preserved : goal.loop-preserved
loop-preserved c =
    let less = turned c.args.now c.loop.self.pairing c.write_next.new.self.pairing c.in_ok-write_next.field-0 c.in_ok-write_next.ensures.turn
    c.if-not-branch.false in
    record {
      writes = writes_then _ _ _ c.loop.invariant.writes c.in_ok-write_next.ensures.ok;
      alike = alike_then _ _ _ c.args.now c.loop.invariant.alike c.in_ok-write_next.ensures.alike;
      count = omega (arith, less, c.loop.invariant.count);
    }

pub returns-then-not-branch-clause-ok : goal.returns-then-not-branch-clause-ok
returns-then-not-branch-clause-ok c = writes_then _ _ _ c.loop.invariant.writes c.in_ok-write_next.ensures.ok

pub returns-then-not-branch-clause-done : goal.returns-then-not-branch-clause-done
returns-then-not-branch-clause-done c = λ none.
    held_none c.write_next.new.self
    (ended c.args.now c.loop.self.pairing c.write_next.new.self.pairing c.in_ok-write_next.field-0 c.in_ok-write_next.ensures.turn
    c.if-not-branch.true none)

pub returns-then-not-branch-clause-out : goal.returns-then-not-branch-clause-out
returns-then-not-branch-clause-out c = λ none.
    held_out_none c.write_next.new.self
    (ended c.args.now c.loop.self.pairing c.write_next.new.self.pairing c.in_ok-write_next.field-0 c.in_ok-write_next.ensures.turn
    c.if-not-branch.true none)

pub returns-then-not-branch-clause-alike : goal.returns-then-not-branch-clause-alike
returns-then-not-branch-clause-alike c = alike_then _ _ _ c.args.now c.loop.invariant.alike c.in_ok-write_next.ensures.alike

pub returns-after-loop-clause-alike : goal.returns-after-loop-clause-alike
returns-after-loop-clause-alike c = c.loop.invariant.alike

pub loop-init : goal.loop-init
loop-init c =
    let a = c.args.self.now in
    record {
      writes = writes_kept a a (adds_none a.ledger a.ledger refl (λ lines h. h)) (keeps_same a.pairing a.pairing refl refl refl) refl refl;
      alike = alike_same a c.args.now;
      count = omega arith;
    }
