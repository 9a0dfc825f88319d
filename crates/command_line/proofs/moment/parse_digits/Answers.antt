use Rattle.command_line.proofs.Numerals.{no_number, number_is}
use Rattle.command_line.proofs.moment.parse_digits.Goals as goal

pub returns-in-Ok : goal.returns-in-Ok
returns-in-Ok c = number_is 32 c.args.text.now c.in-Ok.number c.in-Ok.ensures.value.0

pub returns-in-Err : goal.returns-in-Err
returns-in-Err c = no_number 32 _ c.args.text.now c.in-Err.field-0 c.in-Err.ensures.value.0
