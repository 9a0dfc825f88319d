use Rattle.watch_run.proofs.Returned.{aborted}
use Rattle.watch_run.proofs.one_thread.stopped.Goals as goal

pub returns-clause-aborted : goal.returns-clause-aborted
returns-clause-aborted g c = rw (c.new.ensures, c.into_sinks-capture.ensures) (λ ps vl_table before h.
    aborted c.args.fault ps vl_table before _ _ _ _ _ (record {
      a_left = c.into_sources-a.ensures.a;
      b_left = c.into_sources-a.ensures.b;
      a_failures = c.into_sources-a.ensures.a_failures;
      b_failures = c.into_sources-a.ensures.b_failures;
    }) h)
