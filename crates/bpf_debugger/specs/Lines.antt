-- How commands are written: words between spaces, numbers in decimal digits. A tab or a carriage return belongs to its word. (This
-- project's profile.)
use Rattle.std.specs.Prelude.{ℕ, ℤ, pos, neg_ℤ, ◌^◌, Bool, ◌&&◌, List, [], ◌∷◌, length, drop, filter, codes, Option, Some, None, nat_lt, ◌==◌, if◌then◌else◌, slice_index}
use Rattle.std.specs.Option.{option_map}
use Rattle.std.specs.List.{list_all, slice_split}
use Rattle.std.specs.Char.{is_ascii_digit}
use Rattle.std.specs.Str.{bytes_eq}
use Rattle.bpf_isa.specs.Numeric.{value_of}
use Rattle.bpf_debugger.specs.declared.command.Command.{Command}
use Rattle.bpf_debugger.specs.declared.command.Command.TheVariants.{Select, Step, Cont, Breakpoint, Disassemble, Tally, Quit}

abbrev pub is_space : ℕ → Bool
is_space byte = byte == 32

-- the words of a line: what stands between its spaces, where that isn't empty
unfoldable pub words_of : List ℕ → List (List ℕ)
words_of line = filter (λ word. nat_lt 0 (length word)) (slice_split is_space line)

-- one decimal digit or more, and nothing else
abbrev pub is_number : List ℕ → Bool
is_number word = nat_lt 0 (length word) && list_all is_ascii_digit word

-- the value of digits below 2^32; leading zeros are read
abbrev pub small_value_of : List ℕ → Option ℕ
small_value_of digits = if nat_lt (value_of digits) (2 ^ 32) then Some (value_of digits) else None

unfoldable pub number_of : List ℕ → Option ℕ
number_of word = if is_number word then small_value_of word else None

-- how far to step: a number with a sign before it, or none
unfoldable pub distance_of : List ℕ → Option ℤ
distance_of word =
    if slice_index word 0 == 43 then option_map (λ n. pos n) (number_of (drop 1 word))
    else (if slice_index word 0 == 45 then option_map (λ n. neg_ℤ (pos n)) (number_of (drop 1 word))
    else option_map (λ n. pos n) (number_of word))

-- the command of one word
unfoldable pub bare_command : List ℕ → Option Command
bare_command name =
    if bytes_eq name (codes "cont") then Some Cont
    else (if bytes_eq name (codes "disassemble") then Some Disassemble
    else (if bytes_eq name (codes "tally") then Some Tally
    else (if bytes_eq name (codes "quit") then Some Quit
    else None)))

-- the command of two words
unfoldable pub command_with : List ℕ → List ℕ → Option Command
command_with name operand =
    if bytes_eq name (codes "select") then option_map (λ n. Select n) (number_of operand)
    else (if bytes_eq name (codes "step") then option_map (λ d. Step d) (distance_of operand)
    else (if bytes_eq name (codes "breakpoint") then option_map (λ n. Breakpoint n) (number_of operand)
    else None))

-- the command that these words write
abbrev pub command_of : List (List ℕ) → Option Command
command_of (name ∷ []) = bare_command name
command_of (name ∷ operand ∷ []) = command_with name operand
command_of _ = None
