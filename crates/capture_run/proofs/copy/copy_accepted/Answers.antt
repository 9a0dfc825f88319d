use Rattle.std.proofs.Common.{◌≡◌, ◌∙◌, [], ◌∷◌, ◌++◌, sym, subst}
use Rattle.std.proofs.lemmas.Result.{err_from_is_err_and}
use Rattle.packet_format.specs.Writer.{format_in, sink_of}
use Rattle.pcap_io.specs.Position.{Reads, after_frame}
use Rattle.pcap_io.specs.Reader.{lent_of, position_of, reading_of, remaining_of, unread_of}
use Rattle.pcap_io.specs.declared.position.Position.{Position}
use Rattle.pcap_io.proofs.Parse.{reads_more}
use Rattle.run_fault.proofs.Recording.{known_on, tells_on}
use Rattle.capture_run.specs.Copy.{copying_of}
use Rattle.capture_run.proofs.Copying.{written_more}
use Rattle.capture_run.proofs.Stopping.{left_in, stopped_at, written_in}
use Rattle.capture_run.proofs.copy.copy_accepted.Goals as goal

pub loop-reader-preserved : goal.loop-reader-preserved
loop-reader-preserved g c =
    let at = c.loop-reader.invariant.copied in
    let frame = lent_of c.advance.new.self in
    let here = position_of c.loop-reader.reader in
    let given = c.in-Ok-Frame.ensures.advances in
    let taken = rw c.in-Ok-Frame.field-0-is at (given.item c.loop-reader.invariant.reading) in
    let moved : position_of c.advance.new.self ≡ after_frame here frame.stamp = rw c.in-Ok-Frame.field-0-is at given.after in
    let before = remaining_of g.S.TapSource.remaining c.args.reader.now in
    let after = remaining_of g.S.TapSource.remaining c.advance.new.self in
    let contents = g.W.OutSink.contents in
    let format = format_in c.args.writer.now in
    let start = contents (sink_of c.loop-reader.writer) in
    let now = contents (sink_of c.write_accepted.new.writer) in
    let told = c.in_ok-write_accepted-in-Ok-Frame.ensures in
    let written = written_in c.args.program.now (format_in c.loop-reader.writer) format _ frame start now
    (g.W.OutSink.failures (sink_of c.loop-reader.writer)) (g.W.OutSink.failures (sink_of c.write_accepted.new.writer))
    c.loop-reader.invariant.format c.frame-frame.ensures told.written in
    record {
      copied = (
        at.0 ++ frame ∷ [],
        record {
          reads = subst (λ (x : Position). Reads (position_of c.args.reader.now) before (at.0 ++ frame ∷ []) x after) (sym moved)
              (reads_more (position_of c.args.reader.now) here before _ after at.0 frame at.1.reads taken);
          written = written_more format c.args.program.now (contents (sink_of c.args.writer.now)) start now at.0 frame at.1.written written.0;
        },
      );
      tells = tells_on before (remaining_of g.S.TapSource.remaining c.loop-reader.reader) _ _ _ (known_on _ _ _ _ at.0 at.1.reads) c.loop-reader.invariant.tells given.told;
      reading = rw moved c.loop-reader.invariant.reading;
      bounded = given.bounded;
      writing = told.going;
      format = told.format ∙ c.loop-reader.invariant.format;
      source = given.no_failure ∙ c.loop-reader.invariant.source;
      sink = written.1 ∙ c.loop-reader.invariant.sink;
    }

pub returns-in_err-write_accepted-in-Ok-Frame-clause-stopped : goal.returns-in_err-write_accepted-in-Ok-Frame-clause-stopped
returns-in_err-write_accepted-in-Ok-Frame-clause-stopped g c =
    let at = c.loop-reader.invariant.copied in
    let frame = lent_of c.advance.new.self in
    let here = position_of c.loop-reader.reader in
    let given = c.in-Ok-Frame.ensures.advances in
    let taken = rw c.in-Ok-Frame.field-0-is at (given.item c.loop-reader.invariant.reading) in
    let before = remaining_of g.S.TapSource.remaining c.args.reader.now in
    let after = remaining_of g.S.TapSource.remaining c.advance.new.self in
    let format = format_in c.args.writer.now in
    let told = c.in_err-write_accepted-in-Ok-Frame.ensures in
    let contents = g.W.OutSink.contents in
    let fault = c.in_err-write_accepted-in-Ok-Frame.field-0.0 in
    let left = left_in c.args.program.now (format_in c.loop-reader.writer) format _ frame fault
    (contents (sink_of c.loop-reader.writer)) (contents (sink_of c.write_accepted.new.writer))
    (g.W.OutSink.failures (sink_of c.loop-reader.writer)) (g.W.OutSink.failures (sink_of c.write_accepted.new.writer))
    c.loop-reader.invariant.format c.frame-frame.ensures told.written in
    let p = err_from_is_err_and c.from_residual.result c.from_residual.ensures.1 in
    rw (p.1, p.2) (stopped_at format c.args.program.now fault at.0 frame (after_frame here frame.stamp)
    (copying_of (reading_of g.S.TapSource.remaining g.S.TapSource.failures g.S.TapSource.told c.args.reader.now) (unread_of c.args.reader.now) (contents (sink_of c.args.writer.now)) (g.W.OutSink.failures (sink_of c.args.writer.now)))
    (copying_of (reading_of g.S.TapSource.remaining g.S.TapSource.failures g.S.TapSource.told c.advance.new.self) (unread_of c.advance.new.self) (contents (sink_of c.write_accepted.new.writer)) (g.W.OutSink.failures (sink_of c.write_accepted.new.writer)))
    (contents (sink_of c.loop-reader.writer)) (g.W.OutSink.failures (sink_of c.loop-reader.writer)) at.1.written
    (reads_more (position_of c.args.reader.now) here before _ after at.0 frame at.1.reads taken)
    (given.no_failure ∙ c.loop-reader.invariant.source) c.loop-reader.invariant.sink left)
