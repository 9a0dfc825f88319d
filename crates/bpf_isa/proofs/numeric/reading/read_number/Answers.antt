use Rattle.std.proofs.Common.{◌+◌, ◌<◌, take, refl, arith}
use Rattle.std.proofs.lemmas.Bool.{lt-ltb}
use Rattle.bpf_isa.specs.Numeric.{value_of, number_of}
use Rattle.bpf_isa.proofs.NumericValues.{value_more, value_large}
use Rattle.bpf_isa.proofs.numeric.reading.read_number.Goals as goal

pub returns-then-value-from-clause-value : goal.returns-then-value-from-clause-value
unfolding number_of
returns-then-value-from-clause-value c =
    let digits = c.args.digits.bytes.now in
    let i = c.loop-digit.digit-index in
    let more = value_more digits i c.loop-digit-test.true in
    let large : c.args.most < value_of (take (i + 1) digits) = omega (arith, more) in
    rw (lt-ltb c.args.most (value_of digits) (value_large digits (i + 1) c.args.most large)) refl
