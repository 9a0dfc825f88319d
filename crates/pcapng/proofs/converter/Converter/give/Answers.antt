use Rattle.std.proofs.Common.{rules, ◌≡◌, ℕ, ◌+◌, ◌-◌, ◌++◌, ◌≤◌, min, List, length, take, drop, slice_range, sym, ap, ◌∙◌, arith}
use borrow.Rule.Slice.PartMut.{put_mid}
use Rattle.pcap_io.proofs.Draws.{length-between}
use Rattle.pcap_io.proofs.Transfers.{take-read}
use Rattle.pcapng.proofs.Handed.{drop_slice, two_given}
use Rattle.pcapng.proofs.converter.Converter.give.Goals as goal

pub returns-clause-gives : goal.returns-clause-gives
returns-clause-gives c =
    let v = c.args.self.now in
    let h = c.copy_some-header.result in
    let b = c.copy_some-body.result in
    let hs = slice_range v.header v.header_from v.header_to in
    let bs = slice_range v.block.items v.body_from v.body_to in
    let first = c.copy_some-header.new.buf in
    let second = c.copy_some-body.new.buf in
    let value = c.deref.ensures.value in
    let long : v.header_to ≤ length v.header = search rules in
    let deep : v.body_to ≤ length v.block.items = search rules in
    let hlen : length hs ≡ v.header_to - v.header_from = length-between v.header_from v.header_to v.header long in
    let blen : length bs ≡ v.body_to - v.body_from = length-between v.body_from v.body_to v.block.items deep in
    let room : length second ≡ length first - h = search rules in
    let fh : h ≡ min (length hs) (length first) = c.copy_some-header.ensures.count in
    let fb : b ≡ min (length bs) (length first - h) = c.copy_some-body.ensures.count
    ∙ (ap (λ (l : List ℕ). min (length (slice_range l v.body_from v.body_to)) (length second)) value ∙ ap (λ (n : ℕ). min (length bs) n) room) in
    let text = put_mid h (length first - h) first second in
    let taken : take (h + b) text ≡ take h hs ++ take b bs =
    take-read h b (length first - h) first second (omega (arith, fh)) (omega (arith, fb, room))
    ∙ (ap (λ (l : List ℕ). l ++ take b second) c.copy_some-header.ensures.bytes
    ∙ ap (λ (l : List ℕ). take h hs ++ l) (c.copy_some-body.ensures.bytes ∙ ap (λ (l : List ℕ). take b (slice_range l v.body_from v.body_to)) value)) in
    let left : drop h hs ≡ slice_range v.header (v.header_from + h) v.header_to =
    drop_slice h v.header_from v.header_to v.header (omega (arith, fh, hlen, v.header_ordered)) long in
    let right : drop b bs ≡ slice_range v.block.items (v.body_from + b) v.body_to =
    drop_slice b v.body_from v.body_to v.block.items (omega (arith, fb, blen, v.body_ordered)) deep in
    two_given h b (length first) hs bs fh fb
    ∙ (ap (λ (l : List ℕ). l ++ (drop h hs ++ drop b bs)) (sym taken)
    ∙ (ap (λ (l : List ℕ). take (h + b) text ++ (l ++ drop b bs)) left
    ∙ ap (λ (l : List ℕ). take (h + b) text ++ (slice_range v.header (v.header_from + h) v.header_to ++ l)) right))
