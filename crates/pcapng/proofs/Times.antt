-- Counts of powers of 10 and 2 of a second, in nanoseconds.
use Rattle.std.proofs.Common.{◌≡◌, ℕ, zero, suc, ◌+◌, ◌-◌, ◌*◌, ◌/◌, ◌^◌, ◌<◌, ◌≤◌, Bool, true, ◌&&◌, eqb, get_or, inl, inr, refl, sym, ap, ◌∙◌, arith}
use Rattle.std.proofs.Math.Nat.{div-div-eq-div-mul, div-eq_of_lt, div-le_self, mul_assoc, mul-div_cancel, one-le-pow, pow-le-pow_right}
use Rattle.std.proofs.lemmas.Nat.{pow-add}
use Rattle.std.proofs.lemmas.Bool.{and_parts, cases_eq, eqb-true}
use Rattle.pcapng.specs.Interface.{counts_per_second, nanoseconds_of}
use Rattle.pcapng.specs.declared.interface.Resolution.{Resolution}
use Rattle.pcapng.specs.declared.interface.Resolution.TheVariants.{Decimal, Binary}
use Rattle.pcapng.specs.declared.interface.TheConstants.{POWERS_OF_TEN}

-- ---- the table of powers

agree : (ℕ → ℕ) → (ℕ → ℕ) → ℕ → Bool
agree f g zero = true
agree f g (suc n) = eqb (f n) (g n) && agree f g n

agree_at : (f g : ℕ → ℕ) (n k : ℕ) → agree f g n ≡ true → k < n → f k ≡ g k
unfolding agree
agree_at f g zero k e lt = absurd (omega (arith, lt))
agree_at f g (suc n) k e lt = elim (cases_eq k n) [
  | inl same ↦ rw same (eqb-true (f n) (g n) (and_parts _ _ e).0)
  | inr other ↦ agree_at f g n k (and_parts _ _ e).1 (omega (arith, lt, other))
]

pub power_of_ten : (k : ℕ) → k < 20 → get_or POWERS_OF_TEN k 0 ≡ 10 ^ k
unfolding agree
power_of_ten k lt = agree_at (λ k. get_or POWERS_OF_TEN k 0) (λ k. 10 ^ k) 20 k refl lt

-- ---- nanoseconds

pub coarser : (count power : ℕ) → power < 9 → count * 10 ^ (9 - power) ≡ nanoseconds_of (Decimal power) count
coarser count power lt =
    let all : 9 - power + power ≡ 9 = omega arith in
    let parts : 10 ^ 9 ≡ 10 ^ (9 - power) * 10 ^ power = ap (λ k. 10 ^ k) (sym all) ∙ pow-add 10 (9 - power) power in
    sym (ap (λ n. count * n / 10 ^ power) parts
    ∙ (ap (λ n. n / 10 ^ power) (sym (mul_assoc count (10 ^ (9 - power)) (10 ^ power))) ∙ mul-div_cancel (count * 10 ^ (9 - power)) (one-le-pow power 10 (omega arith))))

pub finer : (count power : ℕ) → 9 ≤ power → count / 10 ^ (power - 9) ≡ nanoseconds_of (Decimal power) count
finer count power le =
    let all : 9 + (power - 9) ≡ power = omega arith in
    let parts : 10 ^ power ≡ 10 ^ 9 * 10 ^ (power - 9) = ap (λ k. 10 ^ k) (sym all) ∙ pow-add 10 9 (power - 9) in
    sym (ap (λ n. count * 10 ^ 9 / n) parts
    ∙ (sym (div-div-eq-div-mul (count * 10 ^ 9) (10 ^ 9) (10 ^ (power - 9))) ∙ ap (λ n. n / 10 ^ (power - 9)) (mul-div_cancel count (one-le-pow 9 10 (omega arith)))))

pub finest : (count power : ℕ) → count < 2 ^ 64 → 29 ≤ power → 0 ≡ nanoseconds_of (Decimal power) count
finest count power fits le =
    let much : 10 ^ 20 ≤ 10 ^ (power - 9) = pow-le-pow_right {n = 10} (omega arith) {i = 20} {j = power - 9} (omega arith) in
    sym (div-eq_of_lt {n = count} {m = 10 ^ (power - 9)} (omega (arith, much, fits))) ∙ finer count power (omega arith)

pub finest_binary : (count power : ℕ) → count < 2 ^ 64 → 128 ≤ power → 0 ≡ nanoseconds_of (Binary power) count
finest_binary count power fits le =
    let much : 2 ^ 128 ≤ 2 ^ power = pow-le-pow_right {n = 2} (omega arith) {i = 128} {j = power} le in
    sym (div-eq_of_lt {n = count * 10 ^ 9} {m = 2 ^ power} (omega (arith, much, fits)))

pub nanoseconds-bound : (r : Resolution) (count : ℕ) → count < 2 ^ 64 → nanoseconds_of r count < 2 ^ 94
nanoseconds-bound r count fits = omega (arith, div-le_self (count * 10 ^ 9) (counts_per_second r), fits)
