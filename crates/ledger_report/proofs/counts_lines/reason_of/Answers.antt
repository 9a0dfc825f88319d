-- Lower-case letters are text.
use Rattle.std.proofs.Common.{rules, tests}
use Rattle.std.specs.Char.{IsAsciiLowercase, IsNotAsciiLowercase}
use Rattle.std.proofs.lemmas.Iterator.{cases_from_all, YieldsList-from_slice}
use Rattle.ledger_report.proofs.TapSteps.{lower_utf8}
use Rattle.ledger_report.proofs.counts_lines.reason_of.Goals as goal

pub returns-in-Err : goal.returns-in-Err
returns-in-Err c = λ word is same.
    (let reason = c.match-end.reason.now in
    let all = cases_from_all _ _ _ IsAsciiLowercase IsNotAsciiLowercase c.all.ensures.ran (YieldsList-from_slice reason cc)
    (λ x q k. search (rules, tests)) (λ x q k. search (rules, tests)) in
    let right = rw c.if-not-all.false at all in
    c.in-Err.ensures.cases.0 (lower_utf8 reason right))
