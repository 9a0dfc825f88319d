use Rattle.ordered_merge.proofs.Following.{one_order}
use Rattle.ordered_merge.proofs.laws.one_order.Goals as goal

pub returns : goal.returns
returns c = one_order
