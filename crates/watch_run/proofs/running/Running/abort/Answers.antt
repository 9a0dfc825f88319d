use Rattle.afdx_frame.specs.declared.key.Network.TheVariants.{A, B}
use Rattle.watch_run.proofs.Aborting.{begun_aborts, begun_loses, left_of}
use Rattle.watch_run.proofs.running.Running.abort.Goals as goal

pub returns-in-Some-Some-clause-aborted : goal.returns-in-Some-Some-clause-aborted
returns-in-Some-Some-clause-aborted g c = rw c.new.ensures (λ ps vl_table before started_a started_b s.
    (let a = c.in-Some-Some.ensures.left in
    let b = c.in-Some-Some.ensures'.left in
    begun_aborts c.args.unwritten.fault ps vl_table before c.args.self.rings.a c.args.self.rings.b _ _ _ _ a.more b.more
    (left_of g.S.TapSource A vl_table.late before.a _ c.args.self.rings.a c.in-Some-Some.a started_a a)
    (left_of g.T.TapSource B vl_table.late before.b _ c.args.self.rings.b c.in-Some-Some.b started_b b)
    a.sound b.sound s))

pub returns-clause-aborted : goal.returns-clause-aborted
returns-clause-aborted g c = λ ps vl_table before started_a started_b s.
    begun_loses c.args.unwritten.fault ps vl_table before c.args.self.rings.a c.args.self.rings.b _ _ _ _ s
