-- Numbers of any size, cut at a bound.
use Rattle.std.proofs.Common.{◌≡◌, ℕ, ◌+◌, ◌*◌, ◌≤◌, min, arith, inl, inr}
use Rattle.std.proofs.lemmas.Bool.{cases_lt}
use Rattle.std.proofs.Math.Nat.{mul-le-mul_left, mul-le-mul_right}

-- one more digit, after the value so far was cut
pub min_more : (a r d m : ℕ) → 1 ≤ r → min (min a m * r + d) m ≡ min (a * r + d) m
min_more a r d m low =
    elim (cases_lt a m) [
      | inl below ↦ let e : min a m ≡ a = omega arith in grind (arith, e)
      | inr above ↦
          let e : min a m ≡ m = omega arith in
          let least : m * 1 ≤ m * r = mul-le-mul_left m low in
          let more : m * r ≤ a * r = mul-le-mul_right r above in
          let whole : min (m * r + d) m ≡ m = omega arith in
          let other : min (a * r + d) m ≡ m = omega arith in
          grind (arith, e, whole, other)
    ]
