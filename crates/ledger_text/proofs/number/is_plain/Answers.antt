use Rattle.std.proofs.Common.{arith, ◌≡◌, ◌<◌, ◌∙◌, length, get_or, sym, inl, inr}
use Rattle.std.proofs.lemmas.Bool.Decides.{nat_tests}
use Rattle.ledger_text.proofs.Decimals.{all_digits, digits_all}
use Rattle.ledger_text.proofs.number.is_plain.Goals as goal

pub returns : goal.returns
returns c =
    let field = c.args.field.now in
    let some : 0 < length field = grind (arith, nat_tests, c.is_empty.ensures, c.if-is_empty.false) in
    let lead : get_or field 0 0 ≡ 48 → length field ≡ 1 = λ z. elim c.else-field-eq48.either [ inl h ↦ omega arith | inr h ↦ absurd (omega arith) ] in (
      λ t. record {
        digits = all_digits field (sym c.are_digits.ensures ∙ t);
        some = some;
        few = c.if-field-gt-MAX_DIGITS.false;
        leading = lead;
      },
      λ p. c.are_digits.ensures ∙ digits_all field p.digits,
    )
