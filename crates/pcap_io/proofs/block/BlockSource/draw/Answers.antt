use Rattle.std.proofs.Common.{rules}
use Rattle.pcap_io.specs.Items.{items_of}
use Rattle.pcap_io.proofs.Draws.{split, consumes_prefix}
use Rattle.pcap_io.proofs.block.BlockSource.draw.Goals as goal

pub returns-then-len-self-clause-bytes : goal.returns-then-len-self-clause-bytes
returns-then-len-self-clause-bytes g c =
    let v = c.args.self.now in
    consumes_prefix _ _ _ _ (split v.start c.args.len v.end (items_of v.block) (search rules) (search rules))
