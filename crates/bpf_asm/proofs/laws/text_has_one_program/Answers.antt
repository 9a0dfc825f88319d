use Rattle.bpf_asm.proofs.OneProgram.{one_program}
use Rattle.bpf_asm.proofs.laws.text_has_one_program.Goals as goal

pub returns : goal.returns
returns c = one_program
