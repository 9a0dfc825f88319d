use Rattle.std.proofs.Common.{◌∙◌}
use Rattle.transit_match.proofs.Stands.{any_kept}
use Rattle.transit_match.proofs.waiting.Waiting.knows.Goals as goal

pub returns : goal.returns
returns g c = λ floor rows arrivals s h.
    c.keeps.ensures ∙ any_kept g.K.PartialEq.eq c.args.self.now.window floor c.args.self.now.queue.items rows arrivals _ s h
