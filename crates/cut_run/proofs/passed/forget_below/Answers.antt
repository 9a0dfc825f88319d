use Rattle.std.proofs.Common.{◌∙◌}
use Rattle.cut_run.proofs.Keeping.{pop_keeps}
use Rattle.cut_run.proofs.passed.forget_below.Goals as goal

pub loop-place-preserved-in-loop-place : goal.loop-place-preserved-in-loop-place
loop-place-preserved-in-loop-place c =
    let x = c.has_below.ensures.below c.loop-place-test.true in
    let given = c.pop_first.ensures in
    λ q n. pop_keeps c.pop_first.result c.loop-place.passed c.pop_first.new.self c.args.place x.0 x.1 x.2 given.unchanged given.least given.updates q n
    ∙ c.loop-place.invariant q n

pub loop-place-preserved-in-loop-place-2 : goal.loop-place-preserved-in-loop-place-2
loop-place-preserved-in-loop-place-2 c =
    let x = c.has_below.ensures.below c.loop-place-test.true in
    let given = c.pop_first.ensures in
    λ q n. pop_keeps c.pop_first.result c.loop-place.passed c.pop_first.new.self c.args.place x.0 x.1 x.2 given.unchanged given.least given.updates q n
    ∙ c.loop-place.invariant q n
