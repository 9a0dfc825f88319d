use Rattle.std.proofs.Common.{rules, ◌+◌, ap, refl}
use Rattle.afdx_frame.specs.declared.key.Stamp.{Stamp}
use Rattle.pcap_io.specs.Reader.{block_of, position_of, source_of}
use Rattle.pcap_io.proofs.Held.{held_added}
use Rattle.pcap_io.proofs.reader.TapReader.add_held.Goals as goal

pub returns-clause-added : goal.returns-clause-added
returns-clause-added g c = λ _.
    (let old = c.args.self.now in
    let start = c.unread_place-start.result.0 in
    let from = start + 16 in
    let fields = c.in-Header.header in
    record {
      added = c.record-record.result;
      batch = c.push.ensures.added c.if-not-push.false;
      gives = held_added (position_of old) _ _ _ (g.S.TapSource.remaining (source_of old)) _ (block_of old) c.bytes-bytes.result.now c.args.batch.now.block old.input.start old.input.end
          start from (from + fields.captured_len) c.unread_place-start.result.1 _ _ c.stamp.result.0 fields c.record-record.result old.bounded c.unread_place-start.ensures.start
          c.unread_place-start.ensures.end c.bytes-bytes.ensures c.requires.block refl refl (search rules) (search rules) c.unread_place-start.ensures.within c.start_of.ensures.fits
          (rw c.in-Header.is at c.start_of.ensures.found) c.record-record.ensures.frame c.pass_frame.ensures (ap (λ (s : Stamp). s.0) c.stamp.ensures) c.draw_held.ensures.left
          (ap g.S.TapSource.failures c.draw_held.ensures.source) (ap g.S.TapSource.told c.draw_held.ensures.source);
    })
