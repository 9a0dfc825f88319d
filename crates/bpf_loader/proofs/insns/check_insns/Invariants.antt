use Rattle.std.proofs.Common.{◌≡◌, ℕ, ◌<◌, None}
use Rattle.bpf_loader.specs.Faults.{fault_at}
use Rattle.bpf_loader.proofs.insns.check_insns.Given as goal

abbrev pub invariant-loop-pc : goal.invariant-loop-pc
invariant-loop-pc l = (earlier : ℕ) → earlier < l.pc → fault_at l.insns earlier ≡ None
