use Rattle.rtrb.specs.Ring.{received}
use Rattle.tap_merge.proofs.Delivering.{same_promise}
use Rattle.tap_merge.proofs.tap_thread.read_delivered.Goals as goal

pub returns : goal.returns
returns g c = λ reader put promises.
    let same = same_promise (received c.args.receiver) c.receive-reader.result.0 reader c.receive-reader.result.1 put c.receive-reader.ensures.kept promises in
    rw (same.0, same.1) (c.feed.ensures.ring, c.feed.ensures.fed.0, c.feed.ensures.fed.1)
