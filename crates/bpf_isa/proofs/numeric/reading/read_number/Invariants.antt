use Rattle.std.proofs.Common.{◌≡◌, ◌≤◌, take}
use Rattle.bpf_isa.specs.Numeric.{value_of}
use Rattle.bpf_isa.proofs.numeric.reading.read_number.Given as goal

abbrev pub invariant-loop-digit : goal.invariant-loop-digit
invariant-loop-digit l = (l.value ≡ value_of (take l.digit-index l.digits.bytes.now)) × (l.value ≤ l.most) × (l.digit-items ≡ l.digits.bytes.now)
