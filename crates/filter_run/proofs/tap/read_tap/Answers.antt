use Rattle.std.proofs.Common.{refl}
use Rattle.pcap_io.specs.Reader.{reading_of, unread_of}
use Rattle.run_fault.specs.Device.{source_at}
use Rattle.filter_run.proofs.TapReading.{whole_told}
use Rattle.filter_run.proofs.tap.read_tap.Goals as goal

pub returns-clause-frames : goal.returns-clause-frames
returns-clause-frames g c =
    let opened = c.in-Ok.ensures in
    let reading = reading_of g.S.TapSource.remaining g.S.TapSource.failures g.S.TapSource.told in
    rw c.into_source.ensures.source (whole_told c.args.late (λ tap. tap.frames.items) (λ tap. tap.ending) c.read_frames-outcome.result (source_at g.S.TapSource c.args.source) _
    (reading c.in-Ok.reader) (reading c.read_frames-outcome.new.reader) (unread_of c.read_frames-outcome.new.reader)
    opened.start (rw opened.remaining opened.opened) opened.told opened.no_failure (c.into_source.ensures.lost, refl) refl c.read_frames-outcome.ensures.all)
