use Rattle.std.proofs.Common.{◌≡◌, ◌∷◌, length, ◌+◌, ◌-◌, take, drop, ap, sym, ◌∙◌, arith, take_all, length-drop}
use Rattle.ledger_text.specs.Fields.{fields_of}
use Rattle.ledger_text.proofs.Splitting.{split_some}
use Rattle.ledger_text.proofs.fields.split_field.Goals as goal

pub returns-then-len-bytes : goal.returns-then-len-bytes
returns-then-len-bytes c =
    let n = c.field_len-len.result in
    let line = c.args.bytes.now in
    let rest : take (length line - (n + 1)) (drop (n + 1) line) ≡ drop (n + 1) line = take_all _ _ (omega (arith, length-drop (n + 1) line)) in
    split_some line n c.field_len-len.ensures c.if-len-bytes.true ∙ ap (λ r. take n line ∷ fields_of r) (sym rest)
