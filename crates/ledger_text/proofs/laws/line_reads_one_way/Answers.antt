use Rattle.std.proofs.Common.{◌∙◌, sym}
use Rattle.ledger_text.proofs.Spelling.{one_line}
use Rattle.ledger_text.proofs.laws.line_reads_one_way.Goals as goal

pub returns : goal.returns
returns c = λ version line v w p q. one_line version v w p.values q.values (sym p.fields ∙ q.fields)
