use Rattle.std.proofs.Common.{◌≡◌, ℕ, List, [], ◌∷◌, ◌++◌, length, sym, subst, arith, rules}
use Rattle.transit_run.specs.Counts.{IsTallyOf, with_after, with_before}
use Rattle.transit_run.specs.declared.line.Line.{Line}
use Rattle.transit_run.specs.declared.tally.Tally.{Tally}
use Rattle.transit_run.proofs.Tallies.{tally_after, tally_before}
use Rattle.transit_run.proofs.tally.Tally.count.Goals as goal

pub returns-in-Before : goal.returns-in-Before
returns-in-Before c = λ lines h.
    let room : length c.args.self.now.fates ≡ 11 = c.count_before.ensures.room in
    subst (λ (t : Tally). IsTallyOf t (lines ++ c.args.line.now ∷ [])) (sym c.count_before.ensures.after)
    (subst (λ (l : Line). IsTallyOf (with_before c.args.self.now c.in-Before.line) (lines ++ l ∷ [])) (sym c.in-Before.is)
    (tally_before c.args.self.now lines c.in-Before.line room h))

pub returns-in-After : goal.returns-in-After
returns-in-After c = λ lines h.
    let room : length c.args.self.now.origins ≡ 5 = c.count_after.ensures.room in
    subst (λ (t : Tally). IsTallyOf t (lines ++ c.args.line.now ∷ [])) (sym c.count_after.ensures.after)
    (subst (λ (l : Line). IsTallyOf (with_after c.args.self.now c.in-After.line) (lines ++ l ∷ [])) (sym c.in-After.is)
    (tally_after c.args.self.now lines c.in-After.line room h))
