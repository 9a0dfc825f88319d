use Rattle.std.proofs.Common.{◌≡◌, ◌<◌, ◌^◌, take}
use Rattle.bpf_isa.specs.Numeric.{value_of}
use Rattle.bpf_debugger.proofs.read.value_of.Given as goal

abbrev pub invariant-loop-digit : goal.invariant-loop-digit
invariant-loop-digit l = (l.value ≡ value_of (take l.digit-index l.digits)) × (l.value < 2 ^ 32)
