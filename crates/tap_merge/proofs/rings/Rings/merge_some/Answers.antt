use Rattle.std.proofs.Common.{◌∙◌}
use Rattle.std.proofs.lemmas.Result.{err_from_is_err_and}
use Rattle.tap_merge.proofs.RingItems.{same_trans, where_failed}
use Rattle.tap_merge.proofs.rings.Rings.merge_some.Goals as goal

pub merge_one-requires : goal.merge_one-requires
merge_one-requires g c = record { none = c.loop-item.invariant.none; taken = (c.requires.taken.0, c.requires.taken.1, c.loop-item.invariant.merged c.requires.taken.0 c.requires.taken.1 c.requires.taken.2) }

pub returns-in_err-merge_one-clause-stopped : goal.returns-in_err-merge_one-clause-stopped
returns-in_err-merge_one-clause-stopped g c =
    let p = err_from_is_err_and c.from_residual.result c.from_residual.ensures.1 in
    rw p.1 (λ late cut h. c.in_err-merge_one.ensures.stopped late cut (c.loop-item.invariant.merged late cut h))

pub returns-then-not-branch-clause-merged : goal.returns-then-not-branch-clause-merged
returns-then-not-branch-clause-merged g c = λ late cut h. c.in_ok-merge_one.ensures.merged late cut (c.loop-item.invariant.merged late cut h)

pub loop-item-preserved : goal.loop-item-preserved
loop-item-preserved g c = record {
  a = same_trans c.args.self.now.a c.merge_one.new.self.a c.is_ready.new.self.a
      (same_trans c.args.self.now.a c.loop-item.self.a c.merge_one.new.self.a c.loop-item.invariant.a c.merge_one.ensures.a) c.is_ready.ensures.a;
  b = same_trans c.args.self.now.b c.merge_one.new.self.b c.is_ready.new.self.b
      (same_trans c.args.self.now.b c.loop-item.self.b c.merge_one.new.self.b c.loop-item.invariant.b c.merge_one.ensures.b) c.is_ready.ensures.b;
  none = c.is_ready.ensures.fault ∙ c.merge_one.ensures.none;
  merged = λ late cut h. c.is_ready.ensures.same late cut (c.in_ok-merge_one.ensures.merged late cut (c.loop-item.invariant.merged late cut h));
}

pub returns-then-not-is_ready-clause-merged : goal.returns-then-not-is_ready-clause-merged
returns-then-not-is_ready-clause-merged g c = λ late cut h. c.is_ready.ensures.same late cut (c.in_ok-merge_one.ensures.merged late cut (c.loop-item.invariant.merged late cut h))

pub returns-in_err-merge_one-clause-failed : goal.returns-in_err-merge_one-clause-failed
returns-in_err-merge_one-clause-failed g c =
    let p = err_from_is_err_and c.from_residual.result c.from_residual.ensures.1 in
    rw (p.1, p.2) (where_failed c.in_err-merge_one.field-0.0 (λ f late cut h. f late cut (c.loop-item.invariant.merged late cut h)) c.in_err-merge_one.ensures.failed)

pub returns-after-loop-item-clause-none : goal.returns-after-loop-item-clause-none
returns-after-loop-item-clause-none g c = c.loop-item.invariant.none
