use Rattle.bpf_debugger.proofs.Folding.{each_session_is_a_fold}
use Rattle.bpf_debugger.proofs.laws.session_is_a_fold.Goals as goal

pub returns : goal.returns
returns c = each_session_is_a_fold
