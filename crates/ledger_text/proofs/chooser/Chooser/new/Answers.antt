use Rattle.std.proofs.Common.{refl}
use Rattle.ledger_text.proofs.Choosing.{asked_nothing}
use Rattle.ledger_text.proofs.chooser.Chooser.new.Goals as goal

pub returns : goal.returns
returns c = λ selection around noted. record { first = refl; neighbours = asked_nothing selection around c.args.neighbours noted }
