use Rattle.bpf_text.proofs.Texts.{may_follow}
use Rattle.bpf_text.proofs.laws.form_leaves_what_may_follow.Goals as goal

pub returns : goal.returns
returns c = may_follow
