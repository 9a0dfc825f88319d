use Rattle.bpf_debugger.proofs.Chains.{each_chain_is_its_run}
use Rattle.bpf_debugger.proofs.laws.chain_is_the_run.Goals as goal

pub returns : goal.returns
returns c = each_chain_is_its_run
