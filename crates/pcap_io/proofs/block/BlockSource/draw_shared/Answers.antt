use Rattle.std.proofs.Common.{rules, ◌∙◌, ap, List, ℕ, slice_range}
use Rattle.pcap_io.specs.Block.{drawn_bytes}
use Rattle.pcap_io.specs.Items.{items_of}
use Rattle.pcap_io.proofs.Draws.{split_at, undrawn}
use Rattle.pcap_io.proofs.block.BlockSource.draw_shared.Goals as goal

pub returns-in-Err-clause-kept : goal.returns-in-Err-clause-kept
returns-in-Err-clause-kept g c =
    let v = c.draw.new.self in
    let xs = items_of v.block in
    let both = ap (λ (l : List ℕ). slice_range l v.from v.end) c.share.ensures.same ∙ split_at v.from v.start v.end xs (search rules) (search rules) (search rules) in
    undrawn _ _ _ _ (drawn_bytes v) both c.in_ok-draw.ensures.bytes
