use Rattle.std.proofs.Common.{◌∙◌, length, sym, subst, append_assoc}
use Rattle.std.proofs.KnownBytes.{Appends-trans}
use Rattle.std.specs.Io.KnownBytes.{Appends}
use Rattle.verdict_ledger.specs.Ledger.{IsTallyOf}
use Rattle.verdict_ledger.specs.Text.{ledger_head, lines_text, rest_text}
use Rattle.watch_run.specs.Filters.{entries_by, lines_by}
use Rattle.watch_run.proofs.Writing.{ledger_stops}
use Rattle.watch_run.proofs.outputs.Outputs.finish.Goals as goal

pub returns-in-Ok-clause-finished : goal.returns-in-Ok-clause-finished
returns-in-Ok-clause-finished g c = rw c.finish-capture.ensures (λ ps vl_table capture ledger frames h.
    (let entries = entries_by ps vl_table frames in
    let rest = rest_text vl_table (length ps.filters) entries c.args.a c.args.b in
    let written = c.in-Ok.ensures.written c.requires.going vl_table (length ps.filters) entries h.tally in
    record {
      packets = h.packets;
      text = subst (Appends ledger.contents (g.L.OutSink.contents c.in-Ok.ledger)) (append_assoc (ledger_head ps.version) (lines_text ps.version entries) rest)
          (Appends-trans _ _ _ (lines_by ps vl_table frames) rest h.lines written.0);
      counts = subst (IsTallyOf entries) (sym c.in-Ok.ensures.tally) h.tally.tally;
      capture_failures = h.capture_failures;
      ledger_failures = written.1 ∙ h.ledger_failures;
    }))

pub returns-clause-stopped : goal.returns-clause-stopped
returns-clause-stopped g c = rw (c.finish-capture.ensures, c.fault_of_ledger.ensures) (λ ps vl_table capture ledger frames h.
    (let entries = entries_by ps vl_table frames in
    let rest = rest_text vl_table (length ps.filters) entries c.args.a c.args.b in
    let stops = ledger_stops c.in-Err.field-0.fault ledger.contents _ _ (lines_by ps vl_table frames) rest _ capture.failures _ ledger.failures _ _ h.lines
    (sym (append_assoc (ledger_head ps.version) (lines_text ps.version entries) rest)) h.capture_failures h.ledger_failures
    (c.in-Err.ensures.written c.requires.going vl_table (length ps.filters) entries h.tally) in
    record {
      packets = h.packets;
      text = stops.0;
      fails = stops.1;
    }))
