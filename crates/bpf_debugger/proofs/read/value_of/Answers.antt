use Rattle.std.proofs.Common.{◌≡◌, ◌+◌, ◌-◌, ◌<◌, ◌^◌, ltb, false, take, refl, sym, arith}
use Rattle.std.proofs.lemmas.Bool.{le-ltb}
use Rattle.bpf_isa.specs.Numeric.{value_of}
use Rattle.bpf_isa.proofs.NumericValues.{value_none, value_more, value_large}
use Rattle.bpf_debugger.proofs.read.value_of.Goals as goal

pub loop-digit-init : goal.loop-digit-init
loop-digit-init c = (sym value_none, omega arith)

pub returns-then-value-from : goal.returns-then-value-from
returns-then-value-from c =
    let digits = c.args.digits.now in
    let i = c.loop-digit.digit-index in
    let more = value_more digits i c.loop-digit-test.true in
    let large : 2 ^ 32 - 1 < value_of (take (i + 1) digits) = omega (arith, more) in
    let past : 2 ^ 32 - 1 < value_of digits = value_large digits (i + 1) (2 ^ 32 - 1) large in
    let test : ltb (value_of digits) (2 ^ 32) ≡ false = le-ltb (value_of digits) (2 ^ 32) (omega arith) in
    rw test refl

pub loop-digit-preserved : goal.loop-digit-preserved
loop-digit-preserved c =
    let more = value_more c.args.digits.now c.loop-digit.digit-index c.loop-digit-test.true in
    (omega (arith, more), omega arith)
