use Rattle.std.proofs.Common.{◌≡◌, ◌∙◌, ◌++◌, ℕ, List, length, refl, sym, subst, ap}
use Rattle.std.proofs.lemmas.List.{length-map}
use Rattle.std.proofs.lemmas.Result.{err_from_is_err_and}
use Rattle.std.proofs.KnownBytes.{Appends-trans}
use Rattle.std.specs.Io.KnownBytes.{Appends}
use Rattle.filter_workers.specs.Filters.{mask_by}
use Rattle.pcap_io.specs.Device.{CountsFailure}
use Rattle.pcap_io.specs.Writer.{sink_of}
use Rattle.verdict_ledger.specs.Entry.{entries_of}
use Rattle.verdict_ledger.specs.Text.{lines_text}
use Rattle.verdict_ledger.specs.Ledger.{StandsAfter as LedgerStandsAfter, sink_of as ledger_sink}
use Rattle.run_fault.specs.Device.{sink_at}
use Rattle.watch_run.specs.Filters.{entries_by, keep_by, lines_by}
use Rattle.watch_run.specs.Outputs.{ledger_fault}
use Rattle.watch_run.proofs.Writing.{all_after, round_told, entries_told, first_all, first_packets, ledger_stops, lines_all, lines_more, lines_some, capture_all, packets_all, packets_some, packets_whole, whole_after}
use Rattle.watch_run.proofs.outputs.write_entries.Goals as goal

pub round_text-requires-clause-keeps : goal.round_text-requires-clause-keeps
round_text-requires-clause-keeps g c =
    ap length (c.deref-3.ensures.value ∙ c.requires.entries.1.keeps_are) ∙ length-map c.args.round.now (keep_by c.requires.entries.0.filters)

pub round_text-requires-clause-masks : goal.round_text-requires-clause-masks
round_text-requires-clause-masks g c =
    ap length (c.deref-4.ensures.value ∙ c.requires.entries.1.masks_are) ∙ length-map c.args.round.now (mask_by c.requires.entries.0.filters)

pub returns-in_err-write_packets-clause-stopped : goal.returns-in_err-write_packets-clause-stopped
returns-in_err-write_packets-clause-stopped g c =
    let told = c.in_err-write_packets.ensures in
    let round = c.args.round.now in
    let p = err_from_is_err_and c.from_residual.result c.from_residual.ensures.1 in
    rw (p.1, p.2, told.fault) (λ ps vl_table capture ledger frames before h said are. record {
      packets = packets_some ps vl_table frames round _ _ _ _ _ (round_told ps vl_table frames round _ _ said are)
          (c.deref.ensures.value ∙ are.packets_are) h.packets told.written.prefix;
      lines = lines_some ps vl_table frames round _ _ h.lines;
      packets_first = first_packets ps vl_table frames round _ _ _ _ (all_after _ _ _ _ _ h.packets told.written.prefix)
          (lines_all ps vl_table frames _ _ h.lines);
      whole = tt;
      fails = (subst (λ (n : ℕ). CountsFailure n (g.W.OutSink.failures (sink_of c.write_packets.new.capture))) h.capture_failures told.written.fault, h.ledger_failures);
    })

pub returns-in-Ok-clause-written : goal.returns-in-Ok-clause-written
returns-in-Ok-clause-written g c = λ ps vl_table capture ledger frames before after h said are stands.
    (let round = c.args.round.now in
    let keeps = c.deref-3.result.now in
    let masks = c.deref-4.result.now in
    let added = entries_of round c.args.verdicts.now keeps masks in
    let told = entries_told ps vl_table frames round c.args.verdicts.now c.args.verdicts.now keeps masks said refl (c.deref-3.ensures.value ∙ are.keeps_are) (c.deref-4.ensures.value ∙ are.masks_are) in
    let text : c.deref-2.result.now ≡ lines_text ps.version added = rw (c.deref-3.ensures.value, c.deref-4.ensures.value) (c.deref-2.ensures.value ∙ are.lines_are) in
    let more = ap (λ (l : List ℕ). lines_by ps vl_table frames ++ l) text ∙ sym (lines_more ps vl_table frames round added told) in
    let written = c.in-Ok.ensures.written c.requires.ledger_going in
    record {
      lanes = stands;
      tally = subst (LedgerStandsAfter c.round_text.new.self vl_table (length ps.filters)) (sym told) (c.in-Ok.ensures.counted vl_table (length ps.filters) (entries_by ps vl_table frames) h.tally);
      packets = packets_whole ps vl_table frames round _ _ _ _ _ (round_told ps vl_table frames round _ _ said are) (c.deref.ensures.value ∙ are.packets_are) h.packets c.in_ok-write_packets.ensures.written.complete;
      lines = subst (Appends ledger.contents (g.L.OutSink.contents (ledger_sink c.round_text.new.self))) more
          (Appends-trans _ _ _ (lines_by ps vl_table frames) _ h.lines written.0);
      capture_failures = c.in_ok-write_packets.ensures.written.no_failure ∙ h.capture_failures;
      ledger_failures = written.1 ∙ h.ledger_failures;
    })

pub returns-in-Err-clause-stopped : goal.returns-in-Err-clause-stopped
returns-in-Err-clause-stopped g c = rw c.fault_of_ledger.ensures (λ ps vl_table capture ledger frames before h said are.
    (let round = c.args.round.now in
    let keeps = c.deref-3.result.now in
    let masks = c.deref-4.result.now in
    let added = entries_of round c.args.verdicts.now keeps masks in
    let told = entries_told ps vl_table frames round c.args.verdicts.now c.args.verdicts.now keeps masks said refl (c.deref-3.ensures.value ∙ are.keeps_are) (c.deref-4.ensures.value ∙ are.masks_are) in
    let text : c.deref-2.result.now ≡ lines_text ps.version added = rw (c.deref-3.ensures.value, c.deref-4.ensures.value) (c.deref-2.ensures.value ∙ are.lines_are) in
    let more = ap (λ (l : List ℕ). lines_by ps vl_table frames ++ l) text ∙ sym (lines_more ps vl_table frames round added told) in
    let stops = ledger_stops c.in-Err.fault ledger.contents _ (g.L.OutSink.contents (ledger_sink c.round_text.new.self)) (lines_by ps vl_table frames) _ _
    capture.failures (g.W.OutSink.failures (sink_of c.write_packets.new.capture)) ledger.failures _ _ h.lines (sym more)
    (c.in_ok-write_packets.ensures.written.no_failure ∙ h.capture_failures) h.ledger_failures (c.in-Err.ensures.written c.requires.ledger_going) in
    record {
      packets = capture_all ps vl_table (frames ++ round) _ _
          (packets_whole ps vl_table frames round _ _ _ _ _ (round_told ps vl_table frames round _ _ said are) (c.deref.ensures.value ∙ are.packets_are) h.packets c.in_ok-write_packets.ensures.written.complete);
      lines = stops.0;
      packets_first = first_all ps vl_table (frames ++ round) _ _ _ _
          (packets_whole ps vl_table frames round _ _ _ _ _ (round_told ps vl_table frames round _ _ said are) (c.deref.ensures.value ∙ are.packets_are) h.packets c.in_ok-write_packets.ensures.written.complete) stops.0;
      whole = whole_after (ledger_fault c.in-Err.fault) ps vl_table (frames ++ round) capture (sink_at g.W.OutSink (sink_of c.write_packets.new.capture))
          (packets_all ps vl_table (frames ++ round) capture (sink_at g.W.OutSink (sink_of c.write_packets.new.capture))
          (packets_whole ps vl_table frames round _ _ _ _ _ (round_told ps vl_table frames round _ _ said are) (c.deref.ensures.value ∙ are.packets_are) h.packets c.in_ok-write_packets.ensures.written.complete));
      fails = stops.1;
    }))
