-- A moment as a person writes it (this project's profile): nanoseconds since 1970, a time of day, or a date and time in UTC.
use Rattle.std.specs.Prelude.{ℕ, ℤ, pos, negsuc, nat_lt, nat_le, Bool, ◌==◌, ◌&&◌, ◌||◌, ◌+◌, ◌-◌, ◌*◌, ◌^◌, [], codes, length, Option, Some, None, option_and_then, option_map, slice_index, if◌then◌else◌}
use Rattle.std.specs.Char.{is_ascii_digit}
use Rattle.std.specs.List.{list_all, position_or_len, before_first, after_first}
use Rattle.std.specs.Str.{bytes_eq}
use Rattle.std.specs.Result.{result_ok}
use Rattle.clap.specs.Words.{Text}
use Rattle.jiff_fmt.specs.Temporal.{TimeParts, parse_time, parse_timestamp}
use Rattle.command_line.specs.Numbers.{number_in}
use Rattle.command_line.specs.declared.moment.MomentText.{MomentText}
use Rattle.command_line.specs.declared.moment.MomentText.TheVariants as moment
use Rattle.command_line.specs.declared.moment.Unit.{Unit}
use Rattle.command_line.specs.declared.moment.Unit.TheVariants as unit

-- a nanosecond since 1970 whose seconds a recording's 32 bits hold
abbrev pub within : ℕ → Option ℕ
within n = if nat_lt n 4294967296000000000 then Some n else None

abbrev pub instant_in : ℤ → Option ℕ
instant_in (pos n) = within n
instant_in (negsuc n) = None

abbrev pub is_digits : Text → Bool
is_digits text = list_all is_ascii_digit text

abbrev pub is_clock_byte : ℕ → Bool
is_clock_byte c = (is_ascii_digit c || (c == 58)) || (c == 46)

-- nothing but digits, colons and points
abbrev pub has_clock_bytes : Text → Bool
has_clock_bytes text = list_all is_clock_byte text

-- colons where HH:MM:SS has them
abbrev pub has_colons : Text → Bool
has_colons text = (nat_le 8 (length text) && (slice_index text 2 == 58)) && (slice_index text 5 == 58)

-- the length of HH:MM, and its colon
abbrev pub is_of_minutes : Text → Bool
is_of_minutes text = (length text == 5) && (slice_index text 2 == 58)

-- a Z stands last
abbrev pub is_utc : Text → Bool
is_utc text = nat_lt 0 (length text) && (slice_index text (length text - 1) == 90)

-- nanoseconds since midnight
abbrev pub clock_nanoseconds : TimeParts → ℕ
clock_nanoseconds t = ((t.hour * 60 + t.minute) * 60 + t.second) * 1000000000 + t.subsec

-- ---- lengths of time

abbrev pub places_of : Unit → ℕ
places_of unit.Second = 9
places_of unit.Millisecond = 6
places_of unit.Microsecond = 3

-- the number below 2^32 that digits write
abbrev pub digits_in : Text → Option ℕ
digits_in text = if is_digits text then number_in 32 text else None

abbrev pub is_point : ℕ → Bool
is_point c = c == 46

abbrev pub is_plus : ℕ → Bool
is_plus c = c == 43

abbrev pub is_m : ℕ → Bool
is_m c = c == 109

abbrev pub is_s : ℕ → Bool
is_s c = c == 115

abbrev pub is_u : ℕ → Bool
is_u c = c == 117

-- one of the bytes is such a one
abbrev pub has : (ℕ → Bool) → Text → Bool
has p text = nat_lt (position_or_len p text) (length text)

-- a whole number and so many decimals, in units of which 10 to the power `places` make one
abbrev pub sum_in : ℕ → ℕ → Option ℕ → Option ℕ → Option ℕ
sum_in places count (Some whole) (Some part) = Some (whole * 10 ^ places + part * 10 ^ (places - count))
sum_in places count _ _ = None

-- decimals after a point, at most so many
abbrev pub decimal_in : ℕ → Text → Option ℕ
decimal_in places text =
    if has is_point text then
    (if nat_lt places (length (after_first is_point text)) then None
    else sum_in places (length (after_first is_point text)) (digits_in (before_first is_point text)) (digits_in (after_first is_point text)))
    else option_map (λ n. n * 10 ^ places) (digits_in text)

-- the text before the first such letter, if this stands after it
abbrev pub number_before : (ℕ → Bool) → Text → Text → Option Text
number_before letter rest text = if has letter text && bytes_eq (after_first letter text) rest then Some (before_first letter text) else None

abbrev pub span_by : Option Text → Option Text → Option Text → Option ℕ
span_by (Some number) us s = decimal_in 6 number
span_by None (Some number) s = decimal_in 3 number
span_by None None (Some number) = decimal_in 9 number
span_by None None None = None

-- a number, and `ms`, `us` or `s` after it
abbrev pub span_in : Text → Option ℕ
span_in text = span_by (number_before is_m (codes "s") text) (number_before is_u (codes "s") text) (number_before is_s [] text)

abbrev pub span_or_seconds : Option ℕ → Text → Option ℕ
span_or_seconds (Some n) text = Some n
span_or_seconds None text = decimal_in 9 text

-- a length of time, or seconds without a unit
abbrev pub length_in : Text → Option ℕ
length_in text = span_or_seconds (span_in text) text

-- a plus stands first, and a length of time after it
abbrev pub since_in : Text → Option ℕ
since_in text = if has is_plus text && bytes_eq (before_first is_plus text) [] then length_in (after_first is_plus text) else None

-- Digits alone are nanoseconds since 1970; a clock's text is a time of day; a date and time is in UTC; a plus and a length are a time
-- since a beginning.
abbrev pub moment_in : Text → Option MomentText
moment_in text =
    if is_digits text then option_map moment.At (option_and_then within (number_in 64 text))
    else if (has_colons text || is_of_minutes text) && has_clock_bytes text then option_map moment.OfDay (option_map clock_nanoseconds (result_ok (parse_time text)))
    else if is_utc text then option_map moment.At (option_and_then instant_in (result_ok (parse_timestamp text)))
    else option_map moment.Since (since_in text)
