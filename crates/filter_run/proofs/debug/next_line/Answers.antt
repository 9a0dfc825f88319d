use Rattle.std.proofs.Common.{lit<}
use Rattle.filter_run.proofs.Answering.{first_line, only_line}
use Rattle.filter_run.proofs.debug.next_line.Goals as goal

pub returns-in-Some-clause-lines : goal.returns-in-Some-clause-lines
returns-in-Some-clause-lines c =
    let first = c.in-Some.ensures.byte (lit< tt) (λ w o h. h) in
    first_line c.args.text.now c.in-Some.line.now c.in-Some.rest.now first.0 first.1 first.2

pub returns-in-None-clause-lines : goal.returns-in-None-clause-lines
returns-in-None-clause-lines c = only_line c.args.text.now (c.in-None.ensures.byte (lit< tt) (λ w o h. h))
