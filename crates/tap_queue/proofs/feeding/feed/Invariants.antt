-- The reader gave what was put, and goes on.
use Rattle.std.proofs.Common.{◌≡◌, false}
use Rattle.pcap_io.specs.Reader.{reading_of}
use Rattle.tap_queue.specs.Items.{Gives, is_over}
use Rattle.tap_queue.specs.Ring.{SamePut, put_items}
use Rattle.tap_queue.proofs.feeding.feed.Given as goal

abbrev pub invariant-loop : goal.invariant-loop
invariant-loop g l = record {
  ring : SamePut l.initial.put l.put;
  given : Gives (reading_of g.S.TapSource.remaining g.S.TapSource.failures g.S.TapSource.told l.initial.reader) (put_items l.put)
      (reading_of g.S.TapSource.remaining g.S.TapSource.failures g.S.TapSource.told l.reader);
  going : is_over (put_items l.put) ≡ false;
}
