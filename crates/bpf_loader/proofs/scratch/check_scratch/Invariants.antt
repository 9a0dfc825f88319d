use Rattle.bpf_loader.proofs.Pass.{Tracks}
use Rattle.bpf_loader.proofs.scratch.check_scratch.Given as goal

abbrev pub invariant-loop-pc : goal.invariant-loop-pc
invariant-loop-pc l = Tracks l.insns l.masks l.pc
