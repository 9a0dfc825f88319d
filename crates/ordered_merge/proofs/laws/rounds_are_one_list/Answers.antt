use Rattle.ordered_merge.proofs.Following.{rounds_joined}
use Rattle.ordered_merge.proofs.laws.rounds_are_one_list.Goals as goal

pub returns : goal.returns
returns c = rounds_joined
