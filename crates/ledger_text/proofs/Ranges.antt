-- Ranges of numbers.
use Rattle.std.proofs.Common.{◌≡◌, ℕ, ◌+◌, ◌<◌, ◌≤◌, ◌&&◌, nat_le, nat_lt, arith}
use Rattle.std.proofs.lemmas.Bool.Decides.{nat_tests}

-- a loop from the first number that stands after the last one has been at each of them
pub gone_through : (first last id k : ℕ) → first ≤ id → last + 1 ≤ id → (last + 1 < id → id ≡ first)
    → (nat_le first k && nat_lt k id) ≡ (nat_le first k && nat_le k last)
gone_through first last id k a b e = grind (arith, nat_tests)
