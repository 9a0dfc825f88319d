use Rattle.bpf_debugger.proofs.Walks.{restarted}
use Rattle.bpf_debugger.proofs.walk.Walk.restart.Goals as goal

pub returns-clause-start : goal.returns-clause-start
returns-clause-start c = λ p frame loaded. rw (c.clear.ensures.items, c.start-self.ensures) (restarted p frame loaded)
