use Rattle.verdict_ledger.specs.Entry.{entries_of}
use Rattle.std.proofs.Common.{ℕ, List, length, ap, subst, ◌≡◌, ◌++◌, arith}
use Rattle.afdx_frame.specs.Frame.{Frame}
use Rattle.verdict_ledger.specs.Text.{lines_text}
use Rattle.verdict_ledger.specs.Writing.{fault_of}
use Rattle.verdict_ledger.specs.declared.fault.LedgerFault.TheVariants.{Memory}
use Rattle.verdict_ledger.proofs.Rounds.{length-entries_of}
use Rattle.verdict_ledger.proofs.Spooling.{unappended, appended, spooled_flush, fault_from, where_no_fault, lines_some}
use Rattle.verdict_ledger.proofs.spool.Spool.write_lines.Goals as goal

pub returns-in_err-append_lines-clause-written : goal.returns-in_err-append_lines-clause-written
returns-in_err-append_lines-clause-written g c =
    let all = entries_of c.args.frames.now c.args.verdicts.now c.args.keeps.now c.args.masks.now in
    let len = length-entries_of c.args.frames.now c.args.verdicts.now c.args.keeps.now c.args.masks.now
    c.requires.verdicts c.requires.keeps c.requires.masks in
    rw (fault_from c.from_residual.result Memory c.from_residual.ensures.1)
    (unappended _ _ _ (lines_some c.args.version all (omega (arith, len, ap length c.all.ensures, c.in_err-append_lines.ensures.some))))

pub returns-clause-written : goal.returns-clause-written
returns-clause-written g c =
    let contents = g.W.OutSink.contents in
    let failures = g.W.OutSink.failures in
    let sink = c.args.self.now.sink in
    let after = c.flush.new.self in
    let text = lines_text c.args.version (entries_of c.args.frames.now c.args.verdicts.now c.args.keeps.now c.args.masks.now) in
    appended (fault_of c.flush.result) (contents sink) (contents after.sink) (failures sink) (failures after.sink)
    c.clear.new.self.items after.text.items text c.clear.ensures.items (where_no_fault c.flush.result c.flush.ensures.empty)
    (spooled_flush _ _ _ _ _ _ _ _ _
    (subst (λ (fs : List Frame). c.append_lines.new.text.items ≡ c.clear.new.self.items ++ lines_text c.args.version (entries_of fs c.args.verdicts.now c.args.keeps.now c.args.masks.now))
    c.all.ensures c.in_ok-append_lines.ensures.lines)
    c.flush.ensures.written)
