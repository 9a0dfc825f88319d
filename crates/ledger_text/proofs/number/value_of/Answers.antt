use Rattle.std.proofs.Common.{arith}
use Rattle.ledger_text.proofs.Decimals.{one_more}
use Rattle.ledger_text.proofs.number.value_of.Goals as goal

pub overflow_mul-value : goal.overflow_mul-value
overflow_mul-value c = let m = one_more c.args.digits.now c.loop-digit.digit-index c.requires.digits c.requires.few c.loop-digit-test.true in let i = c.loop-digit.invariant in omega arith

pub overflow_sub-digit : goal.overflow_sub-digit
overflow_sub-digit c = let m = one_more c.args.digits.now c.loop-digit.digit-index c.requires.digits c.requires.few c.loop-digit-test.true in omega arith

pub overflow_add-value : goal.overflow_add-value
overflow_add-value c = let m = one_more c.args.digits.now c.loop-digit.digit-index c.requires.digits c.requires.few c.loop-digit-test.true in let i = c.loop-digit.invariant in omega arith

pub loop-digit-preserved : goal.loop-digit-preserved
loop-digit-preserved c = let m = one_more c.args.digits.now c.loop-digit.digit-index c.requires.digits c.requires.few c.loop-digit-test.true in let i = c.loop-digit.invariant in omega arith
