-- Each identifier has the counts of no frame.
use Rattle.std.proofs.Common.{List, get_or, ap, ◌∙◌}
use Rattle.std.proofs.lemmas.List.{get_or-replicate}
use Rattle.verdict_ledger.specs.declared.link_counts.LinkCounts.{LinkCounts}
use Rattle.verdict_ledger.proofs.tally.Tally.new.Goals as goal

pub returns : goal.returns
returns c = record {
  totals = c.new.ensures;
  links = λ id none within.
      ap (λ (l : List LinkCounts). get_or l id none) (c.in_ok-vec.ensures.items_if_clones_equal (λ y same. same))
      ∙ get_or-replicate 65536 id c.new-2.result none within ∙ c.new-2.ensures;
}
