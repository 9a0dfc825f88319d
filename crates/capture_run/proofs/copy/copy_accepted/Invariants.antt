use Rattle.std.proofs.Common.{◌≡◌, ◌≤◌, ◌-◌, List, false}
use Rattle.afdx_frame.specs.Frame.{Frame}
use Rattle.packet_format.specs.Writer.{format_in, has_failed, sink_of}
use Rattle.pcap_io.specs.Reader.{position_of, reading_of, remaining_of, source_of, unread_of}
use Rattle.pcap_io.specs.declared.recording.Stage.TheVariants.{Going}
use Rattle.pcap_io.specs.Told.{StaysTold}
use Rattle.capture_run.specs.Copy.{HasCopied, copying_of}
use Rattle.capture_run.proofs.copy.copy_accepted.Given as goal

-- the frames so far stand in the capture, and the reader and the writer go on
abbrev pub invariant-loop-reader : goal.invariant-loop-reader
invariant-loop-reader g l =
    record {
      copied : (frames : List Frame) × HasCopied (format_in l.fn.writer) l.program frames (position_of l.reader) (remaining_of g.S.TapSource.remaining l.reader)
          (copying_of (reading_of g.S.TapSource.remaining g.S.TapSource.failures g.S.TapSource.told l.fn.reader) (unread_of l.fn.reader) (g.W.OutSink.contents (sink_of l.fn.writer)) (g.W.OutSink.failures (sink_of l.fn.writer)))
          (copying_of (reading_of g.S.TapSource.remaining g.S.TapSource.failures g.S.TapSource.told l.reader) (unread_of l.reader) (g.W.OutSink.contents (sink_of l.writer)) (g.W.OutSink.failures (sink_of l.writer)));
      tells : StaysTold (remaining_of g.S.TapSource.remaining l.fn.reader) (g.S.TapSource.told (source_of l.fn.reader)) (g.S.TapSource.told (source_of l.reader));
      reading : (position_of l.reader).stage ≡ Going;
      bounded : (position_of l.reader).count ≤ (position_of l.reader).most;
      writing : has_failed l.writer ≡ false;
      format : format_in l.writer ≡ format_in l.fn.writer;
      source : g.S.TapSource.failures (source_of l.reader) ≡ g.S.TapSource.failures (source_of l.fn.reader);
      sink : g.W.OutSink.failures (sink_of l.writer) ≡ g.W.OutSink.failures (sink_of l.fn.writer);
    }

abbrev pub decreases-loop-reader : goal.decreases-loop-reader
decreases-loop-reader g l = (position_of l.reader).most - (position_of l.reader).count
