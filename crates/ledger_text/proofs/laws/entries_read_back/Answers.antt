use Rattle.ledger_text.proofs.Texts.{is_text, reads_back}
use Rattle.ledger_text.proofs.laws.entries_read_back.Goals as goal

pub returns : goal.returns
returns c = λ version e line z. (λ p. is_text version e line p, λ t. reads_back version e line z t)
