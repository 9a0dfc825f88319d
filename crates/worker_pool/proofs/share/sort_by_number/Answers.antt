use Rattle.std.proofs.Common.{rules}
use Rattle.std.proofs.lemmas.List.Sorted.{IsNonDecreasingBy-from_sort, answers_always}
use Rattle.worker_pool.specs.declared.share.Numbered.{Numbered}
use Rattle.worker_pool.proofs.share.sort_by_number.Goals as goal

pub returns-clause-order : goal.returns-clause-order
returns-clause-order g c =
    let number : Numbered g.row.B.Denot → _ = λ one. one.number in
    IsNonDecreasingBy-from_sort number _ (c.sort_unstable_by_key.ensures.sorted number (answers_always _ _ _ (λ f a r g h. search rules)))
