use Rattle.std.proofs.Common.{◌≡◌, ◌+◌, ◌++◌, ◌∷◌, [], List, None, Some, take, ap, ◌∙◌, sym, arith, append-nil, subst}
use Rattle.std.proofs.lemmas.List.{take_all, take_more}
use Rattle.vl_config.specs.Link.{VirtualLink}
use Rattle.verdict_ledger.specs.Tally.{link_counts}
use Rattle.verdict_ledger.specs.Text.{link_line, link_lines}
use Rattle.verdict_ledger.specs.Writing.{IsSpooled}
use Rattle.verdict_ledger.specs.declared.link_counts.LinkCounts.{LinkCounts}
use Rattle.verdict_ledger.proofs.Spooling.{pushed, spooled_next, spooled_stop, fault_from}
use Rattle.verdict_ledger.proofs.spool.Spool.add_links.Goals as goal

pub loop-link-init : goal.loop-link-init
loop-link-init g c = λ entries tallied.
    let start = c.args.self.now in
    pushed (g.W.OutSink.contents start.sink) (g.W.OutSink.failures start.sink) start.text.items start.text.items _ (sym (append-nil start.text.items))

pub loop-link-preserved : goal.loop-link-preserved
loop-link-preserved g c = λ entries tallied.
    let contents = g.W.OutSink.contents in
    let failures = g.W.OutSink.failures in
    let start = c.args.self.now in
    let before = c.loop-link.self in
    let after = c.add_link.new.self in
    let link = c.link-item.result in
    let links = c.args.links.now in
    let place = c.loop-link.link-index in
    let more : take (place + 1) links ≡ take place links ++ link ∷ [] =
    take_more links place link (omega arith) ∙ ap (λ (x : VirtualLink). take place links ++ x ∷ []) (sym c.link-item.is) in
    let added = subst (λ (k : LinkCounts). IsSpooled None (contents before.sink) (contents after.sink) (failures before.sink) (failures after.sink)
    before.text.items after.text.items (link_line link k)) (c.link-in-loop-link.ensures entries tallied ∙ ap (λ (l : VirtualLink). link_counts entries l.id) c.link.view_is) c.in_ok-add_link.ensures in
    spooled_next (λ (l : VirtualLink). link_line l (link_counts entries l.id)) links place link
    (contents start.sink) (contents before.sink) (contents after.sink) (failures start.sink) (failures before.sink) (failures after.sink)
    start.text.items before.text.items after.text.items more (c.loop-link.invariant entries tallied) added

pub returns-in_err-add_link : goal.returns-in_err-add_link
returns-in_err-add_link g c = λ entries tallied.
    let contents = g.W.OutSink.contents in
    let failures = g.W.OutSink.failures in
    let start = c.args.self.now in
    let before = c.loop-link.self in
    let after = c.add_link.new.self in
    let link = c.link-item.result in
    let links = c.args.links.now in
    let place = c.loop-link.link-index in
    let fault = c.in_err-add_link.field-0.0 in
    let more : take (place + 1) links ≡ take place links ++ link ∷ [] =
    take_more links place link (omega arith) ∙ ap (λ (x : VirtualLink). take place links ++ x ∷ []) (sym c.link-item.is) in
    let stopped = subst (λ (k : LinkCounts). IsSpooled (Some fault) (contents before.sink) (contents after.sink) (failures before.sink) (failures after.sink)
    before.text.items after.text.items (link_line link k)) (c.link-in-loop-link.ensures entries tallied ∙ ap (λ (l : VirtualLink). link_counts entries l.id) c.link.view_is) c.in_err-add_link.ensures in
    rw (fault_from c.from_residual.result fault c.from_residual.ensures.1)
    (spooled_stop (λ (l : VirtualLink). link_line l (link_counts entries l.id)) links place link fault
    (contents start.sink) (contents before.sink) (contents after.sink) (failures start.sink) (failures before.sink) (failures after.sink)
    start.text.items before.text.items after.text.items more (c.loop-link.invariant entries tallied) stopped)

pub returns : goal.returns
returns g c = λ entries tallied.
    let contents = g.W.OutSink.contents in
    let failures = g.W.OutSink.failures in
    let start = c.args.self.now in
    let after = c.loop-link.self in
    subst (λ (l : List VirtualLink). IsSpooled None (contents start.sink) (contents after.sink) (failures start.sink) (failures after.sink)
    start.text.items after.text.items (link_lines (link_counts entries) l))
    (take_all c.loop-link.link-index c.args.links.now c.loop-link-test.false) (c.loop-link.invariant entries tallied)
