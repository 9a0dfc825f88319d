use Rattle.std.proofs.Common.{◌∙◌}
use Rattle.transit_match.proofs.Stands.{free_kept}
use Rattle.transit_match.proofs.waiting.Waiting.has.Goals as goal

pub returns : goal.returns
returns g c = λ floor rows arrivals s h.
    c.keeps_free.ensures ∙ free_kept g.K.PartialEq.eq c.args.self.now.window floor c.args.self.now.queue.items rows arrivals _ s h
