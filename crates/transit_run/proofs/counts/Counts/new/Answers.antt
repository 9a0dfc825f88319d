use Rattle.std.proofs.Common.{None, List, [], ◌∷◌, ◌++◌, ap, ◌∙◌, refl}
use Rattle.transit_run.specs.declared.counts.LinkCounts.{LinkCounts}
use Rattle.transit_run.proofs.Placed.{none_counted}
use Rattle.transit_run.proofs.counts.Counts.new.Goals as goal

pub returns : goal.returns
returns c =
    let one : LinkCounts = record { link = None; tally = c.new-tally.result } in
    none_counted _ c.new-tally.result 65536 c.new-tally.ensures refl refl refl refl
    (c.in_ok-push.ensures.items ∙ ap (λ (l : List LinkCounts). l ++ one ∷ []) c.new-links.ensures.items)
    (c.in_ok-vec.ensures.items_if_clones_equal (λ y same. same))
