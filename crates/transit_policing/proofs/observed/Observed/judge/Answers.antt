use Rattle.std.proofs.lemmas.Bool.{both_ways}
use Rattle.std.proofs.Common.{false, ◌≡◌, ◌∙◌, ◌+◌, ◌*◌, ◌-◌, min, Some, refl, ap, subst, ℕ}
use Rattle.transit_policing.specs.Charges.{debt_with, verdict_by}
use Rattle.transit_policing.specs.declared.observed.Policed.TheVariants.{Excess}
use Rattle.transit_policing.proofs.Bounds.{charged_is, judged, stands_charged}
use Rattle.transit_policing.proofs.observed.Observed.judge.Goals as goal

pub returns-then-ne-clause-verdict : goal.returns-then-ne-clause-verdict
returns-then-ne-clause-verdict c = λ from charges s.
    let credit : c.from.result * c.from-2.result ≡ c.args.self.now.smax * (c.args.moment - c.args.self.now.since) =
    rw (c.from.ensures, c.from-2.ensures) refl in
    c.verdict-policed.ensures ∙ ap (λ (n : ℕ). verdict_by c.args.self.now n c.args.price) credit
    ∙ judged c.args.self.now from charges c.args.moment c.args.price s c.requires

pub returns-else-came-clause-verdict : goal.returns-else-came-clause-verdict
returns-else-came-clause-verdict c = λ from charges s.
    let credit : c.from.result * c.from-2.result ≡ c.args.self.now.smax * (c.args.moment - c.args.self.now.since) =
    rw (c.from.ensures, c.from-2.ensures) refl in
    c.verdict-policed.ensures ∙ ap (λ (n : ℕ). verdict_by c.args.self.now n c.args.price) credit
    ∙ judged c.args.self.now from charges c.args.moment c.args.price s c.requires

pub returns-then-ne-clause-after : goal.returns-then-ne-clause-after
returns-then-ne-clause-after c = λ from charges s.
    let credit : c.from.result * c.from-2.result ≡ c.args.self.now.smax * (c.args.moment - c.args.self.now.since) =
    rw (c.from.ensures, c.from-2.ensures) refl in
    let other : c.verdict-policed.result ≡ Excess → ⊥ = λ e.
    let f : c.ne.result ≡ false = rw e at c.ne.ensures in both_ways c.ne.result f c.if-ne.true in
    rw (charged_is charges c.verdict-policed.result c.args.came c.args.moment c.args.price c.if-came.true other)
    (stands_charged c.args.self.now c.charge.new.self from charges c.args.moment c.args.price s c.requires c.charge.ensures.smax
    c.charge.ensures.cap c.charge.ensures.since (subst (λ (n : ℕ). c.charge.new.self.low ≡ min (c.args.self.now.low + n) c.args.self.now.cap - c.args.price) credit c.charge.ensures.low)
    (subst (λ (n : ℕ). c.charge.new.self.debt ≡ Some (debt_with c.args.self.now.debt n c.args.price)) credit c.charge.ensures.debt))
