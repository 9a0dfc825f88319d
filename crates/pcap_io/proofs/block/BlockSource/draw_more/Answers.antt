use Rattle.std.proofs.Common.{rules, ◌≡◌}
use Rattle.std.specs.Io.KnownBytes.{Keeps}
use Rattle.pcap_io.specs.Block.{block_remaining}
use Rattle.pcap_io.specs.Items.{items_of}
use Rattle.pcap_io.proofs.Draws.{draws}
use Rattle.pcap_io.proofs.block.BlockSource.draw_more.Goals as goal

pub returns-clause-bytes : goal.returns-clause-bytes
returns-clause-bytes g c =
    let t = c.read_ahead.new.self in
    let zero : t.start ≡ 0 = search rules in
    let kept : Keeps (block_remaining g.S.TapSource.remaining c.args.self.now) (block_remaining g.S.TapSource.remaining t) = search rules in
    draws _ _ t.start c.min-self.result t.end (items_of t.block) zero (search rules) (search rules) kept
