use Rattle.std.proofs.Common.{[], refl}
use Rattle.transit_run.proofs.Growing.{adds_none}
use Rattle.transit_run.proofs.Partners.{tells_none}
use Rattle.transit_run.proofs.Passing.{writes_paired}
use Rattle.transit_run.proofs.pass.Pass.write_after.Goals as goal

pub returns-then-row-clause-ok : goal.returns-then-row-clause-ok
returns-then-row-clause-ok c =
    writes_paired c.args.self.now _ c.in-Some.row (adds_none c.args.self.now.ledger c.args.self.now.ledger refl (λ lines h. h))
    c.in-Some.ensures.frames c.in-Some.ensures.early c.in-Some.ensures.out c.if-row.true refl refl

pub returns-then-not-is_certain-clause-alike : goal.returns-then-not-is_certain-clause-alike
returns-then-not-is_certain-clause-alike c =
    ([], tells_none c.args.self.now c.args.self.now c.args.now [] refl (adds_none c.args.self.now.ledger c.args.self.now.ledger refl (λ lines h. h)) refl)

pub returns-then-row-clause-alike : goal.returns-then-row-clause-alike
returns-then-row-clause-alike c = (
  [],
  tells_none c.args.self.now _ c.args.now [] refl (adds_none c.args.self.now.ledger c.args.self.now.ledger refl (λ lines h. h))
      c.in-Some.ensures.state,
)
