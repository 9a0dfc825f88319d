use Rattle.std.proofs.Common.{rules, arith, ◌≡◌, length}
use Rattle.pcap_io.specs.Reader.{position_of, source_of, unread_of}
use Rattle.pcap_io.proofs.Draws.{takes_of}
use Rattle.pcap_io.proofs.Steps.{start_from, start_leaves, stays_behind, tells_still}
use Rattle.pcap_io.proofs.reader.TapReader.read_header.Goals as goal

pub returns-clause-start : goal.returns-clause-start
returns-clause-start g c =
    let head = c.draw_into.new.buf in
    let size : length head ≡ 16 = search rules in
    let told = g.S.TapSource.told (source_of c.args.self.now) in
    start_from (position_of c.args.self.now) told c.told_after.result _ _ head c.in_ok-came.came _ size c.start_of.ensures.fits c.in_ok-came.ensures.bytes
    (λ lt. c.in_ok-came.ensures.end (omega (arith, size)))
    (λ none. tells_still _ _ _ _ _ _ c.in_ok-came.ensures.bytes (stays_behind (unread_of c.args.self.now) _ _ _ c.draw_into.ensures.told) (c.told_after.ensures none (c.in_ok-came.ensures.over (omega (arith, size, none))))) c.start_of.ensures.found

pub returns-clause-left : goal.returns-clause-left
returns-clause-left g c =
    let size : length c.draw_into.new.buf ≡ 16 = search rules in
    start_leaves _ _ c.in_ok-came.came _ (λ lt. c.in_ok-came.ensures.end (omega (arith, size))) (_, search rules, c.in_ok-came.ensures.bytes) c.start_of.ensures.short

pub returns-clause-taken : goal.returns-clause-taken
returns-clause-taken g c =
    let size : length c.draw_into.new.buf ≡ 16 = search rules in
    takes_of _ _ _ _ _ (omega (arith, size)) c.in_ok-came.ensures.bytes

pub returns-clause-told : goal.returns-clause-told
returns-clause-told g c = stays_behind (unread_of c.args.self.now) _ _ _ c.draw_into.ensures.told
