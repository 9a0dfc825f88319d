use Rattle.std.proofs.Common.{rules}
use Rattle.std.proofs.lemmas.List.Sorted.{IsNonDecreasingBy-from_sort_by_key}
use Rattle.vl_config.specs.Link.{VirtualLink}
use Rattle.vl_config.proofs.Distinct.{sorted_distinct}
use Rattle.vl_config.proofs.read.sort_by_id.Goals as goal

pub returns-clause-rising : goal.returns-clause-rising
returns-clause-rising c =
    IsNonDecreasingBy-from_sort_by_key (λ (link : VirtualLink). link.id.0) _ c.in_ok-sort_by_key.ensures.sorted (λ a r q k. search rules)

pub returns-clause-distinct : goal.returns-clause-distinct
returns-clause-distinct c = λ distinct.
    sorted_distinct c.args.links.now.items c.sort_by_key.new.self.items c.sort_by_key.ensures.permutation distinct
