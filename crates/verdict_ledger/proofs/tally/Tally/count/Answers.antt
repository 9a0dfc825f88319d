use Rattle.std.proofs.Common.{refl}
use Rattle.verdict_ledger.specs.Entry.{entry_with}
use Rattle.verdict_ledger.proofs.tally.Tally.count.Goals as goal

pub returns : goal.returns
returns c = λ entries few tallied.
    c.count_by.ensures entries (entry_with c.args.frame.now c.args.verdict.now c.args.keep c.args.mask) few
    c.link.ensures refl refl refl tallied
