use Rattle.transit_match.proofs.Lawful.{symmetry}
use Rattle.transit_match.proofs.laws.pairing_is_symmetric.Goals as goal

pub returns : goal.returns
returns g c = symmetry g.K.PartialEq.eq
