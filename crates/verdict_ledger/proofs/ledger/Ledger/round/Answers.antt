-- The ledger stands after entries whatever its text is.
use Rattle.std.proofs.lemmas.Result.{on_ok_weaker, on_err_weaker}
use Rattle.verdict_ledger.proofs.ledger.Ledger.round.Goals as goal

pub returns-clause-counted : goal.returns-clause-counted
returns-clause-counted g c = on_ok_weaker c.settle.result
    (λ more vl_table filters entries stands. more vl_table filters entries (record { links = stands.links; filters = stands.filters; tally = stands.tally }))
    c.settle.ensures.counted

pub returns-clause-not_counted : goal.returns-clause-not_counted
returns-clause-not_counted g c = on_err_weaker c.settle.result
    (λ same vl_table filters entries stands. same vl_table filters entries (record { links = stands.links; filters = stands.filters; tally = stands.tally }))
    c.settle.ensures.not_counted
