-- Numbers in bytes, most significant byte first, as Ethernet, IP and BPF read them.
use Rattle.std.specs.Prelude.{ℕ, ◌+◌, ◌*◌, List, [], ◌∷◌, length, take, drop, Option, Some, None, nat_le, if◌then◌else◌}

-- the number that the bytes write after the digits of n, each byte a digit of base 256
abbrev pub digits_after : ℕ → List ℕ → ℕ
digits_after n [] = n
digits_after n (b ∷ bs) = digits_after (n * 256 + b) bs

-- the number that the bytes write, most significant first
abbrev pub big_endian : List ℕ → ℕ
big_endian bs = digits_after 0 bs

-- the number in the `size` bytes at the offset, where all of them were captured
abbrev pub number_at : ℕ → ℕ → List ℕ → Option ℕ
number_at offset size bytes =
    if nat_le (offset + size) (length bytes) then Some (big_endian (take size (drop offset bytes))) else None
