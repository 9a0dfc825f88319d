use Rattle.std.proofs.Common.{[], arith, refl}
use Rattle.transit_run.specs.Waits.{state_of}
use Rattle.transit_run.proofs.Waiting.{looks_kept, with_looks_eq}
use Rattle.transit_run.proofs.Keeping.{keeps_set}
use Rattle.transit_run.proofs.pairing.Pairing.give_back.Goals as goal

pub returns-clause-keeps : goal.returns-clause-keeps
returns-clause-keeps c =
    keeps_set c.args.self.now _ [] c.args.self.now.expired c.in-Some.row.now _
    (omega (arith, c.in-Some.ensures.variant.0 refl, c.args.self.now.befores.ok.0)) c.in-Some.ensures.value refl refl refl refl refl

pub returns-clause-state : goal.returns-clause-state
returns-clause-state c =
    with_looks_eq (state_of c.args.self.now) _ _
    (looks_kept c.args.self.now.befores.items c.args.self.now.expired c.in-Some.row.now _
    (omega (arith, c.in-Some.ensures.variant.0 refl, c.args.self.now.befores.ok.0)) c.in-Some.ensures.value refl)
