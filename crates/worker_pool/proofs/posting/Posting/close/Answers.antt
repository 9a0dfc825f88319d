use Rattle.std.proofs.Common.{◌≡◌, ◌<◌, map, subst, ap, ◌∙◌, arith}
use Rattle.std.specs.Prelude.{IsPermutation}
use Rattle.std.proofs.lemmas.List.Sorted.{length_permutation}
use Rattle.worker_pool.specs.Chunks.{Posted, chunk_count}
use Rattle.worker_pool.specs.declared.share.Numbered.{Numbered}
use Rattle.worker_pool.proofs.Ordering.{restored, whole_round}
use Rattle.worker_pool.proofs.posting.Posting.close.Goals as goal

pub returns-clause-batches : goal.returns-clause-batches
returns-clause-batches g c =
    let len = g.T.Task.len in
    let inside = c.self.inside in
    let posting = c.args.self in
    let count : c.count_of_chunks-count.result ≡ chunk_count posting.size (len posting.task posting.round) =
    c.count_of_chunks-count.ensures ∙ (ap (λ n. chunk_count inside.size n) (c.len.ensures ∙ ap (λ t. len t inside.round) c.deref.ensures)
    ∙ ap (λ (p : Posted _ _). chunk_count p.size (len p.task p.round)) c.self.view_is) in
    whole_round len g.T.Task.is_batch posting _ c.in-Ok.drawn c.args.share c.sort_by_number.new.done c.in_ok-batches.batches.items
    (subst (λ (p : Posted _ _). 0 < p.size) c.self.view_is c.self.invariant.0)
    (subst (λ (p : Posted _ _). p.desk.len ≡ chunk_count p.size (len p.task p.round)) c.self.view_is c.self.invariant.1)
    c.requires c.in-Ok.ensures.1
    (omega (arith, c.if-drawn-count.false, count))
    (subst (λ ds. IsPermutation ds c.sort_by_number.new.done) c.as_mut_slice.ensures.value c.sort_by_number.ensures.same)
    c.sort_by_number.ensures.order (c.in_ok-batches.ensures
    ∙ ap (λ ds. map (λ (d : Numbered _). d.batch) ds) (restored c.sort_by_number.new.done _ c.args.share.done.len
    (length_permutation c.as_mut_slice.result.now c.sort_by_number.new.done c.sort_by_number.ensures.same ∙ c.as_mut_slice.ensures.len)))
