use Rattle.std.proofs.Common.{ℕ, Option, [], ◌∷◌, ◌++◌, subst, ap, ◌∙◌}
use Rattle.filter_workers.specs.Seats.{Claims}
use Rattle.worker_pool.proofs.Claiming.{claim_is_nearer, one_more}
use Rattle.worker_pool.proofs.posting.Posting.run.Goals as goal

pub loop-self-smaller : goal.loop-self-smaller
loop-self-smaller g c =
    claim_is_nearer c.args.self.now.desk _ c.loop-self.seat c.claim-number.result.1 c.loop-self.invariant.of_desk
    (subst (λ (o : Option ℕ). Claims c.loop-self.seat o c.claim-number.result.1) c.in-Some.is c.claim-number.ensures.claim)

pub loop-self-preserved : goal.loop-self-preserved
loop-self-preserved g c =
    one_more g.T.Task.len g.T.Task.is_batch c.args.self.now _ _ (record { seat = c.loop-self.seat; done = c.loop-self.done; spares = c.loop-self.spares })
    _ c.work_on.result c.loop-self.invariant
    (subst (λ (o : Option ℕ). Claims c.loop-self.seat o c.claim-number.result.1) c.in-Some.is c.claim-number.ensures.claim)
    (c.push_reserved.ensures.items ∙ ap (λ ds. ds ++ c.work_on.result ∷ []) c.reserve.ensures.items) c.work_on.ensures.number c.work_on.ensures.batch
