use Rattle.std.proofs.Common.{refl}
use Rattle.pcap_io.specs.Reader.{reading_of, unread_of}
use Rattle.tap_queue.specs.Ring.{put_items, put_of, reader_of, taken_items}
use Rattle.tap_merge.proofs.FedTaps.{settled_gives}
use Rattle.tap_merge.proofs.tap_thread.settle_tap.Goals as goal

pub returns-in-Ok : goal.returns-in-Ok
returns-in-Ok g c =
    let fed = c.join.result in
    let reader = reader_of fed in
    record {
      reading = reading_of g.S.TapSource.remaining g.S.TapSource.failures g.S.TapSource.told reader;
      ahead = unread_of reader;
      gives = settled_gives _ _ (put_items (put_of fed)) (taken_items c.args.end) c.in-Ok.ensures.all c.in-Ok.ensures.over (c.join.ensures.1, c.join.ensures.2);
      over = c.in-Ok.ensures.over;
      sound = c.in-Ok.ensures.not_lost;
      leaves = rw c.in-Ok.ensures.source (c.settle.ensures.ahead, refl);
      same_failures = rw c.in-Ok.ensures.source refl;
    }
