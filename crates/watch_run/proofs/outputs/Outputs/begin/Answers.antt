use Rattle.std.proofs.Common.{◌∙◌, [], refl, sym, subst}
use Rattle.std.specs.Io.KnownBytes.{Appends}
use Rattle.std.proofs.lemmas.List.{append-nil}
use Rattle.std.proofs.KnownBytes.{Appends-nil}
use Rattle.packet_format.specs.Packets.{head_by}
use Rattle.verdict_ledger.specs.Text.{ledger_head}
use Rattle.pcap_io.specs.Writer.{sink_of}
use Rattle.run_fault.specs.Device.{sink_at}
use Rattle.watch_run.specs.Filters.{capture_by, making_of}
use Rattle.watch_run.specs.Outputs.{ledger_fault}
use Rattle.watch_run.proofs.Writing.{capture_all, first_all, ledger_stops, packets_all, whole_after}
use Rattle.watch_run.proofs.outputs.Outputs.begin.Goals as goal

pub returns-in-Err-begin-clause-stopped : goal.returns-in-Err-begin-clause-stopped
returns-in-Err-begin-clause-stopped g c =
    let ps = making_of c.args.plan.now in
    let vl_table = c.args.config.now in
    let begun = rw (c.deref.ensures.value ∙ c.in-Ok.ensures.head) at c.in-Ok-begin_with.ensures.written in
    let whole : Appends (g.W.OutSink.contents c.args.capture) (g.W.OutSink.contents (sink_of c.in-Ok-begin_with.writer)) (capture_by ps vl_table []) =
    subst (Appends (g.W.OutSink.contents c.args.capture) (g.W.OutSink.contents (sink_of c.in-Ok-begin_with.writer))) (sym (append-nil (head_by ps.format))) begun.complete in
    let stops = ledger_stops c.in-Err-begin.field-0.fault _ _ _ [] (ledger_head ps.version) _ _ _ _ _ _ (Appends-nil (g.L.OutSink.contents c.args.ledger)) (append-nil (ledger_head ps.version))
    begun.no_failure refl c.in-Err-begin.ensures.written in
    rw (c.fault_of_ledger.ensures, c.finish.ensures) (record {
      packets = capture_all ps vl_table [] _ _ whole;
      lines = stops.0;
      packets_first = first_all ps vl_table [] _ _ _ _ whole stops.0;
      whole = whole_after (ledger_fault c.in-Err-begin.field-0.fault) ps vl_table [] (sink_at g.W.OutSink c.args.capture) (sink_at g.W.OutSink (sink_of c.in-Ok-begin_with.writer))
          (packets_all ps vl_table [] (sink_at g.W.OutSink c.args.capture) (sink_at g.W.OutSink (sink_of c.in-Ok-begin_with.writer)) whole);
      fails = stops.1;
    })
