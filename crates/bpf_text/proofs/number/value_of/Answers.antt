use Rattle.std.proofs.Common.{◌^◌, take, get_or, arith}
use Rattle.std.specs.Char.{digit_value}
use Rattle.std.specs.Str.Parse.{digits_value}
use Rattle.std.proofs.lemmas.Int.Digits.{digits_value_more}
use Rattle.bpf_text.proofs.Numbers.{min_more}
use Rattle.bpf_text.proofs.number.value_of.Goals as goal

pub loop-digit-preserved : goal.loop-digit-preserved
loop-digit-preserved c =
    let low = c.requires.low in
    let so_far = c.loop-digit.invariant in
    let more = digits_value_more c.args.radix c.args.digits.now c.loop-digit.digit-index c.loop-digit-test.true in
    let cut = min_more (digits_value c.args.radix (take c.loop-digit.digit-index c.args.digits.now)) c.args.radix (digit_value (get_or c.args.digits.now c.loop-digit.digit-index 0)) (2 ^ 32) (omega arith) in
    let digit = c.digit_value.ensures.value in
    cc digit
