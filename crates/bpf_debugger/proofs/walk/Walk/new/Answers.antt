use Rattle.bpf_debugger.proofs.Walks.{restarted}
use Rattle.bpf_debugger.proofs.walk.Walk.new.Goals as goal

pub returns-clause-start : goal.returns-clause-start
returns-clause-start c = λ p frame loaded. rw (c.new.ensures.items, c.start.ensures) (restarted p frame loaded)
