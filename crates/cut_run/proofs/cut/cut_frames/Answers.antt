use Rattle.std.proofs.Common.{ℕ, List, [], inl, inr, refl, subst, sym}
use Rattle.std.specs.Io.KnownBytes.{Appends}
use Rattle.packet_format.specs.Packets.{format_of}
use Rattle.packet_format.specs.Writer.{sink_of}
use Rattle.run_fault.specs.Device.{sink_at, source_at}
use Rattle.cut_run.specs.Cut.{devices_at}
use Rattle.cut_run.specs.Lines.{Choice}
use Rattle.cut_run.proofs.Whole.{empty_capture, reads_nothing, run_of}
use Rattle.cut_run.proofs.cut.cut_frames.Goals as goal

pub returns-in-Err-open : goal.returns-in-Err-open
returns-in-Err-open g c = λ around noted.
    (let ledger = source_at g.L.TapSource c.args.ledger in
    let output = sink_at g.W.OutSink c.args.output in
    rw (c.refused-in-Err-open.ensures, c.into_source.ensures, c.in-Ok-new.ensures.source)
    (let refused = c.in-Err-open.ensures.refused ledger output in (refused.0, inl (inl refused.1))))

pub returns-in-Err-begin : goal.returns-in-Err-begin
returns-in-Err-begin g c = λ around noted.
    (let named = c.in-Ok-open.ensures.opened in
    let wrote = c.in-Err-begin.ensures.written in
    rw (c.refused-in-Err-begin.ensures, c.into_source-in-Err-begin.ensures, c.in-Ok-new.ensures.source, c.into_sources-a.ensures.sources) (
      record { ledger = refl; a = named.read_a.no_failure; b = named.read_b.no_failure; output = wrote.fault },
      inl (inr (refl, record { a = c.in-Ok-open.ensures.fresh.0; b = c.in-Ok-open.ensures.fresh.1; ledger = refl; written = wrote.prefix })),
    ))

pub returns : goal.returns
returns g c = λ around noted.
    (let choice : Choice = record { selection = c.args.selection.now; around = around; skips = c.args.skips } in
    let before = devices_at g.L.TapSource g.S.TapSource g.T.TapSource g.W.OutSink c.args.ledger c.args.a c.args.b c.args.output in
    let wrote = c.in-Ok-begin.ensures.written in
    rw (c.into_ledger.ensures.source, c.into_devices-a.ensures.devices)
    (run_of g.L.TapSource g.S.TapSource g.T.TapSource g.W.OutSink (format_of c.args.format) choice c.cut_lines-outcome.result before c.cut_lines-outcome.new.ledger c.cut_lines-outcome.new.taking
    c.into_devices-a.ensures.lost.0 c.into_devices-a.ensures.lost.1 c.into_ledger.ensures.lost
    (c.cut_lines-outcome.ensures (format_of c.args.format) around before (record {
      read = reads_nothing g.L.TapSource c.args.ledger c.in-Ok-new.reader c.in-Ok-new.ensures.source c.in-Ok-new.ensures.unread c.in-Ok-new.ensures.start;
      took = record {
        found = [];
        named = c.in-Ok-open.ensures.opened;
        spread = refl;
        takes = refl;
        asked = c.new-2.ensures c.args.selection.now around noted;
        written = subst (λ (x : List ℕ). Appends before.output.contents (g.W.OutSink.contents (sink_of c.in-Ok-begin.writer)) x) (sym (empty_capture (format_of c.args.format))) wrote.complete;
        format_kept = c.in-Ok-begin.ensures.format;
        going = c.in-Ok-begin.ensures.going;
        no_failure = wrote.no_failure;
      };
    }))))
