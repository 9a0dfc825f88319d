use Rattle.std.proofs.Common.{◌≡◌, arith, refl, rules}
use Rattle.ledger_text.proofs.Runs.{begun, gone_on, kept}
use Rattle.ledger_text.proofs.link_runs.add.Goals as goal
use Rattle.ledger_text.proofs.link_runs.add.Goals.{in_default-via-in-Some+else-saturating_sub-closest, in_default-via-in-None-1}

pub returns-in-Some-clause-added : goal.returns-in-Some-clause-added
returns-in-Some-clause-added c = λ apart before.
    gone_on c.args.around c.args.runs.now.items c.args.ordinal _ _ c.in-Some.run'.now (search rules) (omega (arith, c.args.runs.now.ok.0)) refl c.in-Some.ensures.value
    (omega arith) apart before

pub returns-in_ok-push-in_default-clause-added : goal.returns-in_ok-push-in_default-clause-added
returns-in_ok-push-in_default-clause-added c = λ apart before.
    (let same : c.in_default.runs.items ≡ c.args.runs.now.items = elim c.in_default.branch [
      | in_default-via-in-Some+else-saturating_sub-closest w ↦ rw w.runs-is (kept _ _ _ w.in-Some.ensures.value)
      | in_default-via-in-None-1 w ↦ rw w.runs-is refl
    ] in
    rw (c.in_ok-push-in_default.ensures.items, same) (begun c.args.around c.args.runs.now.items c.args.ordinal apart before))
