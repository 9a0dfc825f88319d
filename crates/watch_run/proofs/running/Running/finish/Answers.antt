use Rattle.afdx_frame.specs.declared.key.Network.TheVariants.{A, B}
use Rattle.run_fault.specs.declared.fault.WatchFault.TheVariants.{RingLost}
use Rattle.watch_run.proofs.Aborting.{begun_loses, settled_of}
use Rattle.watch_run.proofs.Finishing.{err_with, finish_aborts, finishes, lost_at_end, ok_with}
use Rattle.watch_run.proofs.running.Running.finish.Goals as goal

pub returns-in-Some-Some-2-clause-watched : goal.returns-in-Some-Some-2-clause-watched
returns-in-Some-Some-2-clause-watched g c = ok_with c.finish_outputs.result c.finish_outputs.ensures.endings c.finish_outputs.ensures.sources c.finish_outputs.ensures.finished
    (λ done endings sources finished. rw (endings, sources.0, sources.1) (λ ps vl_table before started_a started_b w number.
    finishes ps vl_table before _ c.args.self.rings w.cut c.in-Some-Some.end_a c.in-Some-Some.end_b _
    (settled_of g.S.TapSource A vl_table.late before.a _ c.args.self.rings.a c.in-Some-Some-2.a started_a c.in-Some-Some-2.ensures)
    (settled_of g.T.TapSource B vl_table.late before.b _ c.args.self.rings.b c.in-Some-Some-2.b started_b c.in-Some-Some-2.ensures')
    w.taken c.in-Some-Some.is-0 c.in-Some-Some.is-1 c.requires.all (finished ps vl_table before.capture before.ledger w.cut w.written) number))

pub returns-in-Some-Some-2-clause-aborted : goal.returns-in-Some-Some-2-clause-aborted
returns-in-Some-Some-2-clause-aborted g c = err_with c.finish_outputs.result c.finish_outputs.ensures.back c.finish_outputs.ensures.stopped
    (λ refused back stopped. rw (back.0, back.1) (λ ps vl_table before started_a started_b w.
    finish_aborts _ ps vl_table before c.args.self.rings _ _ _ _ w.cut c.in-Some-Some.end_a c.in-Some-Some.end_b
    (settled_of g.S.TapSource A vl_table.late before.a _ c.args.self.rings.a c.in-Some-Some-2.a started_a c.in-Some-Some-2.ensures)
    (settled_of g.T.TapSource B vl_table.late before.b _ c.args.self.rings.b c.in-Some-Some-2.b started_b c.in-Some-Some-2.ensures')
    w.taken c.in-Some-Some.is-0 c.in-Some-Some.is-1 c.requires.all (stopped ps vl_table before.capture before.ledger w.cut w.written)))

pub returns-clause-aborted : goal.returns-clause-aborted
returns-clause-aborted g c = rw c.into_sinks-capture.ensures (λ ps vl_table before started_a started_b w.
    begun_loses RingLost ps vl_table before c.args.self.rings.a c.args.self.rings.b _ _ _ _
    (lost_at_end _ _ ps vl_table before.capture before.ledger c.args.self.rings c.args.outputs w))
