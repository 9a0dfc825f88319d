use Rattle.std.proofs.Common.{[], ◌∷◌, ◌∙◌, arith, refl}
use Rattle.std.proofs.lemmas.List.{length-map}
use Rattle.transit_run.specs.Waits.{look, state_of}
use Rattle.transit_run.specs.declared.line.Line.TheVariants.{Before}
use Rattle.transit_run.proofs.Growing.{adds_none}
use Rattle.transit_run.proofs.Partners.{tells_before, tells_none}
use Rattle.transit_run.proofs.Waiting.{with_queues_eq}
use Rattle.transit_run.proofs.pass.Pass.write_before.Goals as goal

pub returns-then-not-is_certain-clause-alike : goal.returns-then-not-is_certain-clause-alike
returns-then-not-is_certain-clause-alike c =
    ([], tells_none c.args.self.now c.args.self.now c.args.now [] refl (adds_none c.args.self.now.ledger c.args.self.now.ledger refl (λ lines h. h)) refl)

pub returns-clause-alike : goal.returns-clause-alike
returns-clause-alike c = (
  Before _ ∷ [],
  tells_before c.args.self.now _ c.args.now _ (state_of c.take_before.new.self) c.args.moment c.is_certain.result
      c.in_ok-write.ensures.ok c.in-Some.ensures.leads
      (with_queues_eq (state_of c.take_before.new.self) _ _
      (c.in_ok-note_before.ensures ∙ c.in_ok-note_transit.ensures ∙ c.police-policed.ensures))
      (omega (arith, c.requires.held, length-map c.args.self.now.pairing.befores.items look)) c.requires.first c.is_certain.ensures.bound
      c.if-not-is_certain.false (λ it is. c.is_certain.ensures.past it is),
)
