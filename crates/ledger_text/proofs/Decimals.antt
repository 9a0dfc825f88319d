-- Decimal numbers and their bytes.
use Rattle.std.proofs.Common.{◌≡◌, ◌∙◌, ℕ, zero, suc, ◌+◌, ◌-◌, ◌*◌, ◌^◌, ◌<◌, ◌≤◌, Bool, true, false, ◌&&◌, List, [], ◌∷◌, length, get_or, take, refl, sym, ap, subst, arith, lit<}
use Rattle.std.specs.List.{list_all}
use Rattle.std.specs.Char.{is_ascii_digit, digit_value}
use Rattle.std.specs.Fmt.{decimal}
use Rattle.std.specs.Int.{IsInRange}
use Rattle.std.specs.Str.Parse.{AllDigits, digits_value}
use Rattle.std.proofs.lemmas.Fmt.{decimal-digits_value, digits_decimal, digits_value-decimal, decimal_nonempty, length-decimal-le, first_decimal, decimal_digit}
use Rattle.std.proofs.lemmas.Str.{digit_value_digit}
use Rattle.std.proofs.lemmas.Str.Parse.{IsNumeralModel, numerals_by_value, tells_digits, digit_at, digit_from_value, digits_value_short, digits_value-take-le}
use Rattle.std.proofs.lemmas.Int.Digits.{digits_value_more}
use Rattle.std.proofs.lemmas.Grind.{common_steps}
use Rattle.ledger_text.specs.Numbers.{IsPlain}

pub own : IsNumeralModel (AllDigits 10) (digits_value 10)
own = numerals_by_value (AllDigits 10) tells_digits

pub first_true : (a b : Bool) → (a && b) ≡ true → a ≡ true
first_true true b e = refl
first_true false b e = cc

pub second_true : (a b : Bool) → (a && b) ≡ true → b ≡ true
second_true true b e = e
second_true false b e = cc

pub both_true : (a b : Bool) → a ≡ true → b ≡ true → (a && b) ≡ true
both_true true b e f = f
both_true false b e f = cc

pub digits_all : (ds : List ℕ) → AllDigits 10 ds → list_all is_ascii_digit ds ≡ true
digits_all [] h = refl
digits_all (d ∷ ds) h =
    let here : IsInRange 48 57 d = digit_from_value d h.0 in
    let first : is_ascii_digit d ≡ true = grind (arith, common_steps) in
    both_true (is_ascii_digit d) (list_all is_ascii_digit ds) first (digits_all ds h.1)

pub all_digits : (ds : List ℕ) → list_all is_ascii_digit ds ≡ true → AllDigits 10 ds
all_digits [] e = tt
all_digits (d ∷ ds) e =
    let first : is_ascii_digit d ≡ true = first_true (is_ascii_digit d) (list_all is_ascii_digit ds) e in
    let here : IsInRange 48 57 d = grind (arith, common_steps) in
    let value : digit_value d < 10 = omega (arith, digit_value_digit d here) in
    (value, all_digits ds (second_true (is_ascii_digit d) (list_all is_ascii_digit ds) e))

pub value_short : (ds : List ℕ) → IsPlain ds → digits_value 10 ds < 10 ^ 19
value_short ds p = digits_value_short own ds 19 p.digits p.few

pub plain_text : (ds : List ℕ) → IsPlain ds → decimal (digits_value 10 ds) ≡ ds
plain_text ds p = decimal-digits_value own ds p.digits p.some p.leading (omega (arith, value_short ds p))

no_zero : (n : ℕ) → n < 2 ^ 64 → get_or (decimal n) 0 0 ≡ 48 → length (decimal n) ≡ 1
no_zero zero h e = ap length (decimal_digit 0 (lit< tt))
no_zero (suc n) h e = absurd (omega (arith, e, first_decimal (suc n) (omega arith) h))

pub text_plain : (n : ℕ) → n < 10 ^ 19 → IsPlain (decimal n)
text_plain n h =
    let wide : n < 2 ^ 64 = omega arith in
    record {
      digits = digits_decimal own n wide;
      some = decimal_nonempty n wide;
      few = length-decimal-le 19 n (omega arith) h wide;
      leading = no_zero n wide;
    }

pub plain_along : (n : ℕ) (ds : List ℕ) → n < 10 ^ 19 → decimal n ≡ ds → IsPlain ds
plain_along n ds h e = subst IsPlain e (text_plain n h)

pub value_of_text : (n : ℕ) (ds : List ℕ) → n < 10 ^ 19 → decimal n ≡ ds → digits_value 10 ds ≡ n
value_of_text n ds h e = ap (digits_value 10) (sym e) ∙ digits_value-decimal own n (omega arith)

-- one more digit
pub one_more : (ds : List ℕ) (i : ℕ) → AllDigits 10 ds → length ds ≤ 19 → i < length ds
    → (48 ≤ get_or ds i 0) × (digits_value 10 (take (i + 1) ds) ≡ digits_value 10 (take i ds) * 10 + (get_or ds i 0 - 48))
    × (digits_value 10 (take (i + 1) ds) < 10 ^ 19)
one_more ds i all few l =
    let at : IsInRange 48 57 (get_or ds i 0) = digit_at ds i all l in
    let value = digit_value_digit (get_or ds i 0) at in
    let more = digits_value_more 10 ds i l in
    let part = digits_value-take-le 10 ds (i + 1) (omega arith) in
    (omega arith, omega arith, omega (arith, digits_value_short own ds 19 all few))
