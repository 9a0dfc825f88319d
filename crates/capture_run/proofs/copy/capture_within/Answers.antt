use Rattle.std.proofs.Common.{refl}
use Rattle.packet_format.specs.Packets.{format_of}
use Rattle.capture_run.proofs.WholeCapture.{aborted_in, captured_in}
use Rattle.capture_run.proofs.copy.capture_within.Goals as goal

pub returns-in-Ok-copied-clause-captured : goal.returns-in-Ok-copied-clause-captured
returns-in-Ok-copied-clause-captured g c =
    let opened = c.in-Ok-open.ensures in
    rw (c.into_source-source.ensures.source, c.finish-sink.ensures) (captured_in _ (format_of c.args.format) c.args.late _ _ _ _ _ _ c.in-Ok-begin.ensures.format
    (record {
      start = opened.start;
      opens = rw opened.remaining opened.opened;
      tells = opened.told;
      header = c.in-Ok-begin.ensures.written.complete;
      source_before = opened.no_failure;
      sink_before = c.in-Ok-begin.ensures.written.no_failure;
      unread = (c.into_source-source.ensures.lost, refl);
      contents = refl;
      source_after = refl;
      sink_after = refl;
    }) c.in-Ok-copied.ensures.copied)

pub returns-in-Err-copied-clause-aborted : goal.returns-in-Err-copied-clause-aborted
returns-in-Err-copied-clause-aborted g c =
    let opened = c.in-Ok-open.ensures in
    rw (c.refused-in-Err-copied.ensures, c.into_source-source.ensures.source, c.finish-sink.ensures) (aborted_in _ (format_of c.args.format) c.args.late _ c.in-Err-copied.fault _ _ _ _ c.in-Ok-begin.ensures.format
    (record {
      start = opened.start;
      opens = rw opened.remaining opened.opened;
      tells = opened.told;
      header = c.in-Ok-begin.ensures.written.complete;
      source_before = opened.no_failure;
      sink_before = c.in-Ok-begin.ensures.written.no_failure;
      unread = (c.into_source-source.ensures.lost, refl);
      contents = refl;
      source_after = refl;
      sink_after = refl;
    }) c.in-Err-copied.ensures.stopped)
