-- How late a timestamp may be (this project's profile): a number of microseconds up to a second, or any order.
use Rattle.std.specs.Prelude.{ℕ, ◌*◌, min, nat_lt, Option, Some, None, codes, option_and_then, if◌then◌else◌}
use Rattle.std.specs.Str.{bytes_eq}
use Rattle.clap.specs.Words.{Text}
use Rattle.command_line.specs.Numbers.{number_in}
use Rattle.command_line.specs.declared.lateness.Lateness.{Lateness}
use Rattle.command_line.specs.declared.lateness.Lateness.TheVariants as late

-- a window of so many microseconds, at most a second's
abbrev pub lateness_within : ℕ → Option Lateness
lateness_within micros = if nat_lt 1000000 micros then None else Some (late.Micros micros)

-- `any`, or a number of microseconds
abbrev pub lateness_in : Text → Option Lateness
lateness_in text = if bytes_eq text (codes "any") then Some late.Any else option_and_then lateness_within (number_in 64 text)

-- the window in nanoseconds, a number of 64 bits
abbrev pub nanoseconds_of : Lateness → ℕ
nanoseconds_of (late.Micros micros) = min (micros * 1000) 18446744073709551615
nanoseconds_of late.Any = 18446744073709551615
