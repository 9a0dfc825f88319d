-- The text of a number, and what it says.
use Rattle.std.proofs.Common.{◌≡◌, ℕ, ◌<◌, ◌^◌, Bool, true, false, ◌&&◌, [], ◌∷◌, length, Some, None, Err, refl, ap}
use Rattle.std.proofs.lemmas.Bool.{lt-ltb, ltb-true}
use Rattle.std.specs.Prelude.{nat_lt, if◌then◌else◌}
use Rattle.std.specs.Char.{digit_value}
use Rattle.std.specs.Str.Parse.{AllDigits, IsNumeral, ParsesUnsigned, digits_value, without_leading_plus}
use Rattle.clap.specs.Words.{Text}
use Rattle.command_line.specs.Numbers.{are_digits, is_numeral, number_in}

digits_true : (cs : Text) → AllDigits 10 cs → are_digits cs ≡ true
digits_true [] all = refl
digits_true (c ∷ cs) (digit, all) = rw (lt-ltb (digit_value c) 10 digit) (digits_true cs all)

both_true : (a b : Bool) → (a && b) ≡ true → (a ≡ true) × (b ≡ true)
both_true true b e = (refl, e)
both_true false b e = (let wrong : ⊥ = cc e in absurd wrong)

all_digits : (cs : Text) → are_digits cs ≡ true → AllDigits 10 cs
all_digits [] e = tt
all_digits (c ∷ cs) e =
    let p = both_true (nat_lt (digit_value c) 10) (are_digits cs) e in (ltb-true (digit_value c) 10 p.0, all_digits cs p.1)

numeral_true : (bits : ℕ) (digits : Text) → IsNumeral 10 digits × (digits_value 10 digits < 2 ^ bits) → is_numeral bits digits ≡ true
numeral_true bits digits ((some, all), small) = rw (lt-ltb 0 (length digits) some, digits_true digits all, lt-ltb (digits_value 10 digits) (2 ^ bits) small) refl

numeral_of : (bits : ℕ) (digits : Text) → is_numeral bits digits ≡ true → IsNumeral 10 digits × (digits_value 10 digits < 2 ^ bits)
numeral_of bits digits e =
    let p = both_true (nat_lt 0 (length digits)) (are_digits digits && nat_lt (digits_value 10 digits) (2 ^ bits)) e in
    let q = both_true (are_digits digits) (nat_lt (digits_value 10 digits) (2 ^ bits)) p.1 in
    ((ltb-true 0 (length digits) p.0, all_digits digits q.0), ltb-true (digits_value 10 digits) (2 ^ bits) q.1)

pub number_is : (bits : ℕ) (text : Text) (n : ℕ) → (IsNumeral 10 (without_leading_plus text) × (digits_value 10 (without_leading_plus text) < 2 ^ bits))
    × (n ≡ digits_value 10 (without_leading_plus text)) → Some n ≡ number_in bits text
number_is bits text n (holds, same) = rw (numeral_true bits (without_leading_plus text) holds) (ap Some same)

pub no_number : (bits : ℕ) (E : Type 0) (text : Text) (e : E) → ParsesUnsigned {E = E} bits 10 text (Err e) → None ≡ number_in bits text
no_number bits E text e fails = by (is_numeral bits (without_leading_plus text)) refl
  where
    by : (b : Bool) → is_numeral bits (without_leading_plus text) ≡ b → None ≡ (if b then Some (digits_value 10 (without_leading_plus text)) else None)
    by true is = absurd (fails (numeral_of bits (without_leading_plus text) is))
    by false is = refl
