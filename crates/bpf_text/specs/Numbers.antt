-- The value of a number token: hexadecimal, binary, octal or decimal (bpf_asm's tools/bpf/bpf_exp.l).
use Rattle.std.specs.Prelude.{ℕ, ◌^◌, ◌+◌, Bool, ◌&&◌, ◌||◌, ◌==◌, List, Option, Some, None, length, drop, min, nat_lt, if◌then◌else◌, slice_index}
use Rattle.std.specs.List.{list_all}
use Rattle.std.specs.Char.{is_digit}
use Rattle.std.specs.Str.Parse.{digits_value}

-- the least number that doesn't fit 32 bits, which stands for any larger one
abbrev pub too_large : ℕ
too_large = 2 ^ 32

-- the token begins with 0 and this letter, in either case
abbrev pub has_prefix : ℕ → List ℕ → Bool
has_prefix letter word = slice_index word 0 == 48 && (slice_index word 1 == letter || slice_index word 1 == letter + 32)

-- 0x, 0b, 0 or no prefix
abbrev pub radix_of : List ℕ → ℕ
radix_of word =
    if has_prefix 88 word then 16
    else (if has_prefix 66 word then 2
    else (if slice_index word 0 == 48 then 8
    else 10))

-- all that follows 0x or 0b; the 0 of an octal number is a digit
abbrev pub digits_of : List ℕ → List ℕ
digits_of word = if has_prefix 88 word || has_prefix 66 word then drop 2 word else word

-- one digit or more, and nothing else
abbrev pub is_numeral : ℕ → List ℕ → Bool
is_numeral radix digits = nat_lt 0 (length digits) && list_all (λ digit. is_digit digit radix) digits

-- the value of a number token, if it is well formed
unfoldable pub number_of : List ℕ → Option ℕ
number_of word =
    if is_numeral (radix_of word) (digits_of word) then Some (min (digits_value (radix_of word) (digits_of word)) too_large) else None
