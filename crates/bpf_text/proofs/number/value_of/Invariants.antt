use Rattle.std.proofs.Common.{◌≡◌, ◌^◌, min, take}
use Rattle.std.specs.Str.Parse.{digits_value}
use Rattle.bpf_text.proofs.number.value_of.Given as goal

abbrev pub invariant-loop-digit : goal.invariant-loop-digit
invariant-loop-digit l = l.value ≡ min (digits_value l.radix (take l.digit-index l.digits)) (2 ^ 32)
