use Rattle.std.proofs.Common.{ℕ, slice_set, refl, ap, ◌∙◌, arith}
use Rattle.transit_run.proofs.Placed.{count_kept, link_added, place_added}
use Rattle.transit_run.proofs.counts.Counts.push.Goals as goal

pub returns-in_err-push-clause-counts : goal.returns-in_err-push-clause-counts
returns-in_err-push-clause-counts c = λ lines h free.
    count_kept c.args.self.now _ lines h refl refl refl c.in_err-push.ensures.items refl

pub returns-in-Some-clause-counts : goal.returns-in-Some-clause-counts
returns-in-Some-clause-counts c = λ lines h free.
    let old = c.args.self.now in
    link_added old _ lines c.args.id c.new-tally.result h free (omega arith) c.new-tally.ensures refl refl refl c.in_ok-push.ensures.items
    (ap (λ (k : ℕ). slice_set old.index.items k c.in-Ok.entry) c.from.ensures
    ∙ ap (λ (n : ℕ). slice_set old.index.items c.args.id.0 n) (c.in-Ok.ensures.1 ∙ c.len-place.ensures ∙ old.links.ok.0))

pub returns-in-Some-clause-place : goal.returns-in-Some-clause-place
returns-in-Some-clause-place c = λ lines h free.
    place_added c.args.self.now.links.items _ c.args.id c.new-tally.result _ c.in_ok-push.ensures.items
    (c.len-place.ensures ∙ c.args.self.now.links.ok.0)
