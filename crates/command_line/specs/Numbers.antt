-- The numbers and texts of arguments.
use Rattle.std.specs.Prelude.{ℕ, ◌^◌, ◌&&◌, nat_lt, Bool, true, [], ◌∷◌, length, Option, Some, None, if◌then◌else◌}
use Rattle.std.specs.Borrow.{Bor}
use Rattle.std.specs.Char.{digit_value}
use Rattle.std.specs.Str.Parse.{digits_value, without_leading_plus}
use Rattle.clap.specs.Words.{Text}

abbrev pub text_of : Bor Text → Text
text_of text = text.now

abbrev pub are_digits : Text → Bool
are_digits [] = true
are_digits (c ∷ cs) = nat_lt (digit_value c) 10 && are_digits cs

-- decimal digits, at least one, of a number of so many bits
abbrev pub is_numeral : ℕ → Text → Bool
is_numeral bits digits = nat_lt 0 (length digits) && (are_digits digits && nat_lt (digits_value 10 digits) (2 ^ bits))

-- the number of so many bits that a text holds; a plus may stand first
abbrev pub number_in : ℕ → Text → Option ℕ
number_in bits text =
    if is_numeral bits (without_leading_plus text) then Some (digits_value 10 (without_leading_plus text)) else None
