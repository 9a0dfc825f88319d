use Rattle.ordered_merge.proofs.Following.{follows_order, ended_is_safe}
use Rattle.ordered_merge.proofs.laws.runs_end_in_order.Goals as goal

pub returns-clause-order : goal.returns-clause-order
returns-clause-order c = follows_order

pub returns-clause-all_safe : goal.returns-clause-all_safe
returns-clause-all_safe c = ended_is_safe
