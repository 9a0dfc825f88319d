use Rattle.std.proofs.Common.{◌≡◌, ◌++◌, Some, ap, ◌∙◌}
use Rattle.verdict_ledger.specs.Tally.{totals_of, link_counts}
use Rattle.verdict_ledger.specs.Text.{link_lines, end_text}
use Rattle.verdict_ledger.specs.Writing.{fault_of}
use Rattle.verdict_ledger.specs.declared.fault.LedgerFault.TheVariants.{Memory}
use Rattle.verdict_ledger.specs.declared.totals.Totals.{Totals}
use Rattle.verdict_ledger.proofs.Spooling.{appended, unpushed, spooled_then, spooled_before, spooled_flush, fault_from, where_no_fault, end_some}
use Rattle.verdict_ledger.proofs.spool.Spool.write_summary.Goals as goal

pub returns-in_err-add_links : goal.returns-in_err-add_links
returns-in_err-add_links g c = λ entries tallied.
    let contents = g.W.OutSink.contents in
    let failures = g.W.OutSink.failures in
    let sink = c.args.self.now.sink in
    let start = c.clear.new.self.items in
    let after = c.add_links.new.self in
    let fault = c.in_err-add_links.field-0.0 in
    let links = link_lines (link_counts entries) c.args.links.now in
    let end = end_text (totals_of entries) c.args.filters c.args.a c.args.b in
    rw (fault_from c.from_residual.result fault c.from_residual.ensures.1)
    (appended (Some fault) (contents sink) (contents after.sink) (failures sink) (failures after.sink) start after.text.items (links ++ end)
    c.clear.ensures.items (λ e. cc)
    (spooled_before fault (contents sink) (contents after.sink) (failures sink) (failures after.sink) start after.text.items after.text.items links end
    (c.in_err-add_links.ensures entries tallied)))

pub returns-in_err-push_end : goal.returns-in_err-push_end
returns-in_err-push_end g c = λ entries tallied.
    let contents = g.W.OutSink.contents in
    let failures = g.W.OutSink.failures in
    let sink = c.args.self.now.sink in
    let start = c.clear.new.self.items in
    let after = c.add_links.new.self in
    let links = link_lines (link_counts entries) c.args.links.now in
    let end = end_text (totals_of entries) c.args.filters c.args.a c.args.b in
    let text = c.push_end.new.text.items in
    rw (fault_from c.from_residual-in_err-push_end.result Memory c.from_residual-in_err-push_end.ensures.1)
    (appended (Some Memory) (contents sink) (contents after.sink) (failures sink) (failures after.sink) start text (links ++ end)
    c.clear.ensures.items (λ e. cc)
    (spooled_then (Some Memory) (contents sink) (contents after.sink) (contents after.sink) (failures sink) (failures after.sink) (failures after.sink)
    start after.text.items text links end (c.in_ok-add_links.ensures entries tallied)
    (unpushed (contents after.sink) (failures after.sink) after.text.items text end
    (end_some (totals_of entries) c.args.filters c.args.a c.args.b))))

pub returns : goal.returns
returns g c = λ entries tallied.
    let contents = g.W.OutSink.contents in
    let failures = g.W.OutSink.failures in
    let sink = c.args.self.now.sink in
    let start = c.clear.new.self.items in
    let before = c.add_links.new.self in
    let after = c.flush.new.self in
    let fault = fault_of c.flush.result in
    let links = link_lines (link_counts entries) c.args.links.now in
    let end = end_text (totals_of entries) c.args.filters c.args.a c.args.b in
    let pushed : c.push_end.new.text.items ≡ before.text.items ++ end =
    c.in_ok-push_end.ensures
    ∙ ap (λ (t : Totals). before.text.items ++ end_text t c.args.filters c.args.a c.args.b) (c.totals.ensures ∙ tallied.totals) in
    appended fault (contents sink) (contents after.sink) (failures sink) (failures after.sink) start after.text.items (links ++ end)
    c.clear.ensures.items (where_no_fault c.flush.result c.flush.ensures.empty)
    (spooled_then fault (contents sink) (contents before.sink) (contents after.sink) (failures sink) (failures before.sink) (failures after.sink)
    start before.text.items after.text.items links end (c.in_ok-add_links.ensures entries tallied)
    (spooled_flush fault (contents before.sink) (contents after.sink) (failures before.sink) (failures after.sink)
    before.text.items c.push_end.new.text.items after.text.items end pushed c.flush.ensures.written))
