use Rattle.bpf_asm.proofs.Stepping.{steps_alike}
use Rattle.bpf_asm.proofs.laws.statements_mean_their_instructions.Goals as goal

pub returns : goal.returns
returns c ss p assembled frame whole s = steps_alike ss p assembled frame whole s
