use Rattle.transit_match.proofs.Lawful.{order_kept}
use Rattle.transit_match.proofs.laws.order_is_kept.Goals as goal

pub returns : goal.returns
returns g c = order_kept g.K.PartialEq.eq
