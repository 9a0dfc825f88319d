use Rattle.run_fault.specs.Device.{source_at}
use Rattle.cut_run.proofs.Opening.{refused_b}
use Rattle.cut_run.proofs.recordings.Recordings.open.Goals as goal

pub returns-in-Err-open-clause-refused : goal.returns-in-Err-open-clause-refused
returns-in-Err-open-clause-refused g c = λ ledger output.
    rw (c.open_fault.ensures, c.into_source.ensures.source)
    (refused_b c.in-Err-open.field-0.fault ledger (source_at g.S.TapSource c.args.a) _ (source_at g.T.TapSource c.args.b) (source_at g.T.TapSource c.in-Err-open.field-0.source) output
    c.in-Ok.ensures.fresh c.in-Ok.ensures.opened.no_failure c.in-Err-open.ensures.fault c.in-Err-open.ensures.taken c.in-Err-open.ensures.unfinished)
