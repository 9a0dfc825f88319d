use Rattle.transit_match.proofs.Stands.{stands_in}
use Rattle.transit_match.proofs.waiting.Waiting.add.Goals as goal

pub returns-clause-after : goal.returns-clause-after
returns-clause-after g c = λ floor rows arrivals s later.
    rw c.in_ok-push_back.ensures.items
    (stands_in g.K.PartialEq.eq c.args.self.now.window floor c.args.self.now.queue.items rows arrivals c.args.moment c.args.place c.args.key s later)
