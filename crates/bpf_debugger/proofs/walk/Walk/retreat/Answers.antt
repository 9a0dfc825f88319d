use Rattle.bpf_debugger.proofs.Walks.{went_back}
use Rattle.bpf_debugger.proofs.walk.Walk.retreat.Goals as goal

pub returns-in-Some-clause-on : goal.returns-in-Some-clause-on
returns-in-Some-clause-on c = λ p frame h.
    rw (c.undo-self.ensures) (went_back p frame c.pop.new.self.items c.in-Some.record c.args.self.now.state c.args.self.now.answer (rw (← c.in-Some.ensures.items) h))
