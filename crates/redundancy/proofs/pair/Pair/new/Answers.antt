-- Each of the 256 elements is None.
use Rattle.std.proofs.Common.{Option, None, sym, subst}
use Rattle.std.proofs.lemmas.List.{get_or-replicate}
use Rattle.redundancy.specs.declared.pair.Delivery.{Delivery}
use Rattle.redundancy.specs.Deliveries.{IsNotLater}
use Rattle.redundancy.proofs.pair.Pair.new.Goals as goal

pub returns-clause-after : goal.returns-clause-after
returns-clause-after c = λ number small. get_or-replicate 256 number None None small

pub returns-clause-none_later : goal.returns-clause-none_later
returns-clause-none_later c = λ stamp number small.
    subst (λ (latest : Option Delivery). IsNotLater latest stamp) (sym (get_or-replicate 256 number None None small)) tt
