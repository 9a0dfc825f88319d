use Rattle.verdict_ledger.specs.Entry.{entry_with}
use Rattle.verdict_ledger.specs.Text.{line_text}
use Rattle.verdict_ledger.specs.Writing.{fault_of}
use Rattle.verdict_ledger.specs.declared.fault.LedgerFault.TheVariants.{Memory}
use Rattle.verdict_ledger.proofs.Spooling.{unappended, appended, spooled_flush, fault_from, where_no_fault, line_some}
use Rattle.verdict_ledger.proofs.spool.Spool.write_line.Goals as goal

pub returns-in_err-push_line-clause-written : goal.returns-in_err-push_line-clause-written
returns-in_err-push_line-clause-written g c =
    rw (fault_from c.from_residual.result Memory c.from_residual.ensures.1) (unappended _ _ _ (line_some _ _))

pub returns-clause-written : goal.returns-clause-written
returns-clause-written g c =
    let contents = g.W.OutSink.contents in
    let failures = g.W.OutSink.failures in
    let sink = c.args.self.now.sink in
    let after = c.flush.new.self in
    let text = line_text c.args.version (entry_with c.args.frame.now c.args.verdict.now c.args.keep c.args.mask) in
    appended (fault_of c.flush.result) (contents sink) (contents after.sink) (failures sink) (failures after.sink)
    c.clear.new.self.items after.text.items text c.clear.ensures.items (where_no_fault c.flush.result c.flush.ensures.empty)
    (spooled_flush _ _ _ _ _ _ _ _ _ c.in_ok-push_line.ensures.line c.flush.ensures.written)
