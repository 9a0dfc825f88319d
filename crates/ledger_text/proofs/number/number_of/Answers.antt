use Rattle.std.proofs.Common.{arith}
use Rattle.ledger_text.proofs.Decimals.{plain_along, plain_text, value_of_text}
use Rattle.ledger_text.proofs.number.number_of.Goals as goal

pub returns-then-not-is_plain : goal.returns-then-not-is_plain
returns-then-not-is_plain c =
    λ x b e. let plain = c.is_plain.ensures.1 (plain_along x c.args.field.now (omega arith) e) in let other = c.if-not-is_plain.true in cc

pub value_of-value-requires-clause-digits : goal.value_of-value-requires-clause-digits
value_of-value-requires-clause-digits c = (c.is_plain.ensures.0 c.if-not-is_plain.false).digits

pub value_of-value-requires-clause-few : goal.value_of-value-requires-clause-few
value_of-value-requires-clause-few c = (c.is_plain.ensures.0 c.if-not-is_plain.false).few

pub returns-then-value-bound : goal.returns-then-value-bound
returns-then-value-bound c =
    (c.if-value-bound.true, rw c.value_of-value.ensures (plain_text c.args.field.now (c.is_plain.ensures.0 c.if-not-is_plain.false)))

pub returns-else-value-bound : goal.returns-else-value-bound
returns-else-value-bound c = λ x b e. let v = value_of_text x c.args.field.now (omega arith) e in absurd (omega arith)
