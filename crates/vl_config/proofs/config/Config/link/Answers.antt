-- The links rise and are distinct, so a binary search finds the one of the identifier.
use Rattle.std.proofs.Common.{ap, rules}
use Rattle.std.proofs.lemmas.Fn.{always_returns_same}
use Rattle.vl_config.specs.Link.{VirtualLink}
use Rattle.vl_config.specs.Document.{VlTable}
use Rattle.vl_config.proofs.Search.{search_found, search_missed}
use Rattle.vl_config.proofs.config.Config.link.Goals as goal

pub returns-in-Ok : goal.returns-in-Ok
returns-in-Ok c =
    rw (← ap (λ (t : VlTable). t.links) c.self.view_is)
    (search_found c.self.inside.links.items c.deref.result.now c.args.id.0 c.in-Ok.index c.index.result.now c.deref.ensures.value
    c.self.invariant.distinct c.in-Ok.ensures.bound
    (c.in-Ok.ensures.position (λ (link : VirtualLink). link.id.0) (always_returns_same _ _ _ (λ a r q k. search rules)))
    c.index.ensures)

pub returns-in-Err : goal.returns-in-Err
returns-in-Err c =
    rw (← ap (λ (t : VlTable). t.links) c.self.view_is)
    (search_missed c.self.inside.links.items c.deref.result.now c.args.id.0 c.in-Err.field-0 c.deref.ensures.value
    c.self.invariant.rising
    (c.in-Err.ensures.position (λ (link : VirtualLink). link.id.0) (always_returns_same _ _ _ (λ a r q k. search rules))))
