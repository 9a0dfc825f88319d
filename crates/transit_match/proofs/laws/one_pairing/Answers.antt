use Rattle.transit_match.proofs.Lawful.{one_partner, one_pairing}
use Rattle.transit_match.proofs.laws.one_pairing.Goals as goal

pub returns-clause-partner : goal.returns-clause-partner
returns-clause-partner g c = one_partner g.K.PartialEq.eq

pub returns-clause-pairing : goal.returns-clause-pairing
returns-clause-pairing g c = one_pairing g.K.PartialEq.eq
