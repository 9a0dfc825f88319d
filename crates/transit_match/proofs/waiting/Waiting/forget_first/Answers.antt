use Rattle.std.proofs.Common.{sym, ◌∙◌}
use Rattle.transit_match.proofs.Stands.{stands_later, stands_popped}
use Rattle.transit_match.proofs.waiting.Waiting.forget_first.Goals as goal

pub returns-then-starts_over-clause-after : goal.returns-then-starts_over-clause-after
returns-then-starts_over-clause-after g c = λ floor rows arrivals s h.
    rw (c.pop.ensures.rest, c.pop.ensures.window)
    (stands_popped g.K.PartialEq.eq c.args.self.now.window floor c.args.moment c.args.self.now.queue.items rows arrivals
    (sym c.starts_over.ensures ∙ c.if-starts_over.true) s h)

pub returns-else-starts_over-clause-after : goal.returns-else-starts_over-clause-after
returns-else-starts_over-clause-after g c = λ floor rows arrivals s h.
    stands_later g.K.PartialEq.eq c.args.self.now.window floor c.args.moment c.args.self.now.queue.items rows arrivals s h
