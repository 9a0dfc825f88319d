use Rattle.std.proofs.Common.{◌≡◌, ℕ, ◌-◌, ◌*◌, ◌/◌, ◌^◌, ◌<◌, sym, ap, subst, ◌∙◌, arith}
use Rattle.std.proofs.Math.Nat.{one-le-pow}
use Rattle.pcapng.specs.Interface.{nanoseconds_of}
use Rattle.pcapng.specs.declared.interface.Resolution.{Resolution}
use Rattle.pcapng.proofs.Times.{coarser, finer, finest, finest_binary, nanoseconds-bound, power_of_ten}
use Rattle.pcapng.proofs.interface.Resolution.nanoseconds.Goals as goal

pub nonzero_div-count : goal.nonzero_div-count
nonzero_div-count c = subst (λ (n : ℕ). 0 < n) (sym c.in-Some.ensures.1) (one-le-pow (c.in-Decimal-2.power - 9) 10 (omega arith))

pub returns-in-Decimal-clause-value : goal.returns-in-Decimal-clause-value
returns-in-Decimal-clause-value c =
    let power = c.in-Decimal.power in
    let lt : power < 9 = c.if-power-lt9.true in
    let at : 9 - c.from-in-Decimal-2.result ≡ 9 - power = ap (λ (n : ℕ). 9 - n) c.from-in-Decimal-2.ensures in
    let table : c.from-in-Decimal-3.result ≡ 10 ^ (9 - power) =
    c.from-in-Decimal-3.ensures ∙ (power_of_ten (9 - c.from-in-Decimal-2.result) (omega (arith, at)) ∙ ap (λ (n : ℕ). 10 ^ n) at) in
    ap (λ (n : ℕ). n * c.from-in-Decimal-3.result) c.from-in-Decimal.ensures
    ∙ (ap (λ (n : ℕ). c.args.count * n) table
    ∙ (coarser c.args.count power lt ∙ ap (λ (r : Resolution). nanoseconds_of r c.args.count) (sym c.in-Decimal.is)))

pub returns-in-Decimal-clause-bound : goal.returns-in-Decimal-clause-bound
returns-in-Decimal-clause-bound c =
    subst (λ (n : ℕ). n < 2 ^ 94) (sym (returns-in-Decimal-clause-value c)) (nanoseconds-bound c.args.self c.args.count c.ranges.count.fits)

pub returns-in-Some-clause-value : goal.returns-in-Some-clause-value
returns-in-Some-clause-value c =
    let same : c.in-Decimal.power ≡ c.in-Decimal-2.power = cc in
    c.from-in-Some.ensures
    ∙ (ap (λ (n : ℕ). c.args.count / n) c.in-Some.ensures.1
    ∙ (finer c.args.count c.in-Decimal-2.power (omega arith) ∙ ap (λ (r : Resolution). nanoseconds_of r c.args.count) (sym c.in-Decimal-2.is)))

pub returns-in-None-clause-value : goal.returns-in-None-clause-value
returns-in-None-clause-value c =
    finest c.args.count c.in-Decimal-2.power c.ranges.count.fits (omega (arith, c.in-None.ensures))
    ∙ ap (λ (r : Resolution). nanoseconds_of r c.args.count) (sym c.in-Decimal-2.is)

pub returns-in-Binary-2-clause-value : goal.returns-in-Binary-2-clause-value
returns-in-Binary-2-clause-value c =
    finest_binary c.args.count c.in-Binary.power c.ranges.count.fits c.if-power-lt128.false
    ∙ ap (λ (r : Resolution). nanoseconds_of r c.args.count) (sym c.in-Binary.is)
