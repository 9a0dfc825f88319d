use Rattle.std.proofs.Common.{refl, arith}
use Rattle.std.proofs.lemmas.Bool.{false≢true}
use Rattle.transit_run.proofs.Placed.{line_counted_after, place_inside}
use Rattle.transit_run.proofs.counts.Counts.count.Goals as goal

pub returns-in-Some : goal.returns-in-Some
returns-in-Some c = λ lines h at.
    line_counted_after c.args.self.now c.count_class.new.self _ lines c.args.line.now c.args.place c.in-Some.one.now
    c.count-in-Some.new.self c.count.new.self c.count_class.ensures h at c.in-Some.ensures.value c.count.ensures c.count-in-Some.ensures
    refl refl refl refl refl

pub returns-in-None : goal.returns-in-None
returns-in-None c = λ lines h at.
    let inside = place_inside c.args.self.now c.count_class.new.self c.args.line.now c.args.place _ c.count_class.ensures at in
    absurd (false≢true (c.in-None.ensures.variant.1 (omega (arith, inside, c.count_class.new.self.links.ok.0))))
