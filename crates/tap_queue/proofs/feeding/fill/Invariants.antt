-- All that the reader gave since was put, and no room that was known is left over.
use Rattle.std.proofs.Common.{◌≡◌, ◌+◌, ◌<◌, ◌≤◌, false}
use Rattle.rtrb.specs.Ring.{known_free}
use Rattle.pcap_io.specs.Reader.{reading_of}
use Rattle.tap_queue.specs.Items.{is_over}
use Rattle.tap_queue.specs.Ring.{PutsMore, PutsSome, put_items, put_of, reader_of}
use Rattle.tap_queue.proofs.feeding.fill.Given as goal

abbrev pub invariant-loop : goal.invariant-loop
invariant-loop g l = record {
  put : PutsMore (reading_of g.S.TapSource.remaining g.S.TapSource.failures g.S.TapSource.told (reader_of l.fn.fed))
      (reading_of g.S.TapSource.remaining g.S.TapSource.failures g.S.TapSource.told (reader_of l.fed)) (put_of l.fn.fed) (put_of l.fed);
  going : is_over (put_items (put_of l.fed)) ≡ false;
  room : known_free (put_of l.fed).producer + l.counter ≡ l.room;
  known : known_free (put_of l.fn.fed).producer ≤ l.room;
  some : 0 < l.counter → PutsSome (put_of l.fn.fed) (put_of l.fed);
}
