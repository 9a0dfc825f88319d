use Rattle.watch_run.proofs.running.finish_outputs.Goals as goal

pub returns-in-Err-clause-stopped : goal.returns-in-Err-clause-stopped
returns-in-Err-clause-stopped g c = rw c.new.ensures c.in-Err.ensures.stopped
