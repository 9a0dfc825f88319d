use Rattle.transit_match.proofs.Lawful.{none_missed_out, none_missed_in}
use Rattle.transit_match.proofs.laws.none_is_missed.Goals as goal

pub returns-clause-out : goal.returns-clause-out
returns-clause-out g c = none_missed_out g.K.PartialEq.eq

pub returns-clause-in_ : goal.returns-clause-in_
returns-clause-in_ g c = none_missed_in g.K.PartialEq.eq
