use Rattle.std.proofs.Common.{◌≡◌, ◌∙◌}
use Rattle.pcap_io.specs.Position.{after_frame}
use Rattle.pcap_io.specs.Reader.{position_of, reading_of, remaining_of}
use Rattle.run_fault.proofs.Recording.{known_on, tells_on}
use Rattle.filter_run.proofs.TapReading.{gives_more}
use Rattle.filter_run.proofs.tap.read_frames.Goals as goal

pub loop-frame-preserved : goal.loop-frame-preserved
loop-frame-preserved g c =
    let at = c.loop-frame.invariant in
    let frame = c.in-Ok-Frame.frame in
    let given = c.in-Ok-Frame.ensures.advances in
    let taken = rw c.in-Ok-Frame.field-0-is at (given.item at.going) in
    let moved : position_of c.next.new.self ≡ after_frame (position_of c.loop-frame.reader) frame.stamp = rw c.in-Ok-Frame.field-0-is at given.after in
    record {
      gives = gives_more (reading_of g.S.TapSource.remaining g.S.TapSource.failures g.S.TapSource.told c.args.reader.now) c.loop-frame.frames.items c.push.new.self.items
          (position_of c.loop-frame.reader) (position_of c.next.new.self) (remaining_of g.S.TapSource.remaining c.loop-frame.reader)
          (remaining_of g.S.TapSource.remaining c.next.new.self) frame at.gives taken moved c.in-Ok.ensures.items;
      tells = tells_on (remaining_of g.S.TapSource.remaining c.args.reader.now) (remaining_of g.S.TapSource.remaining c.loop-frame.reader) _ _ _
          (known_on _ _ _ _ c.loop-frame.frames.items at.gives.reads) at.tells given.told;
      going = rw moved at.going;
      no_failure = given.no_failure ∙ at.no_failure;
    }
