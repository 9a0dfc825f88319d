use Rattle.afdx_frame.specs.declared.key.Network.TheVariants.{A, B}
use Rattle.ordered_merge.proofs.Following.{follows_new, follows_fetch_a, follows_fetch_b, follows_end, follows_cut}
use Rattle.ordered_merge.proofs.laws.runs_follow.Goals as goal

pub returns-clause-new : goal.returns-clause-new
returns-clause-new c = follows_new

pub returns-clause-fetch : goal.returns-clause-fetch
returns-clause-fetch c = λ s fa fb out f fol can. (follows_fetch_a s fa fb out f fol can, follows_fetch_b s fa fb out f fol can)

pub returns-clause-end : goal.returns-clause-end
returns-clause-end c = λ s fa fb out fol. (follows_end s fa fb out A fol, follows_end s fa fb out B fol)

pub returns-clause-cut : goal.returns-clause-cut
returns-clause-cut c = follows_cut
