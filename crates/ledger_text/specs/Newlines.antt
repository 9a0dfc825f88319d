-- Where a line ends.
use Rattle.std.specs.Prelude.{◌≡◌, ◌==◌, ℕ, Bool, List, length}
use Rattle.std.specs.List.{position_or_len}

abbrev pub is_newline : ℕ → Bool
is_newline byte = byte == 10

-- no newline is among the bytes
abbrev pub NoNewline : List ℕ → Type 0
NoNewline bytes = position_or_len is_newline bytes ≡ length bytes
