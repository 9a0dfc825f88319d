use Rattle.std.proofs.Common.{ℕ, List, ◌++◌, ap, refl, ◌∙◌}
use Rattle.transit_run.specs.Waits.{state_of}
use Rattle.transit_run.proofs.Waiting.{leaves_by}
use Rattle.transit_run.proofs.pairing.Pairing.comes_out.Goals as goal

pub returns-in_ok-hold_alone-clause-waits : goal.returns-in_ok-hold_alone-clause-waits
returns-in_ok-hold_alone-clause-waits c =
    leaves_by (state_of c.args.self.now) (state_of c.take_alike-partner.new.self) (state_of c.pair_alike.new.self) _ c.args.head c.args.bytes.now _ _ _ _ _
    (c.in_ok-extend_from_slice.ensures.items ∙ ap (λ (l : List ℕ). l ++ c.args.bytes.now) c.clear.ensures.items) c.take_alike-partner.ensures.keeps.early c.take_alike-partner.ensures.takes c.pair_alike.ensures.pairs c.hold_alone.ensures.state

pub returns-else-not-pair_alike-clause-waits : goal.returns-else-not-pair_alike-clause-waits
returns-else-not-pair_alike-clause-waits c =
    leaves_by (state_of c.args.self.now) (state_of c.take_alike-partner.new.self) (state_of c.pair_alike.new.self) _ c.args.head c.args.bytes.now _ _ _ _ _
    (c.in_ok-extend_from_slice.ensures.items ∙ ap (λ (l : List ℕ). l ++ c.args.bytes.now) c.clear.ensures.items) c.take_alike-partner.ensures.keeps.early c.take_alike-partner.ensures.takes c.pair_alike.ensures.pairs refl
