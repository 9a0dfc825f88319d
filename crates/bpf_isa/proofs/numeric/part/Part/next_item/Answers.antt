use Rattle.std.proofs.Common.{◌≡◌, ◌<◌, length, take, drop, not, arith, rules, ap}
use Rattle.std.specs.List.{prefix_len, position_or_len}
use Rattle.std.proofs.lemmas.List.{length-drop}
use Rattle.std.proofs.lemmas.List.Sums.{prefix_len-le-length}
use Rattle.bpf_isa.specs.Numeric.{is_blank, is_separator, is_space}
use Rattle.bpf_isa.proofs.NumericParts.{items_end, items_next, item_long}
use Rattle.bpf_isa.proofs.numeric.part.Part.next_item.Goals as goal

pub split_at-requires : goal.split_at-requires
split_at-requires c = omega (arith, c.space_len.ensures, prefix_len-le-length is_space c.args.self.bytes.now)

pub returns-then-is_empty-clause-items : goal.returns-then-is_empty-clause-items
returns-then-is_empty-clause-items c =
    let rest = c.split_at.result.1.bytes.now in
    let e : rest ≡ drop (prefix_len is_space c.args.self.bytes.now) c.args.self.bytes.now = cc in
    items_end c.args.self.at c.args.self.bytes.now rest e (search rules)

pub split_at-requires-2 : goal.split_at-requires-2
split_at-requires-2 c = omega (arith, c.item_len.ensures, prefix_len-le-length (λ x. not (is_separator x)) c.split_at.result.1.bytes.now)

pub split_at-requires-3 : goal.split_at-requires-3
split_at-requires-3 c = omega (arith, c.number_len.ensures, prefix_len-le-length (λ x. not (is_blank x)) c.split_at-2.result.0.bytes.now)

pub returns-clause-items : goal.returns-clause-items
returns-clause-items c =
    let bs = c.args.self.bytes.now in
    let rest = c.split_at.result.1.bytes.now in
    let item = c.split_at-2.result.0.bytes.now in
    let e : rest ≡ drop (prefix_len is_space bs) bs = cc in
    let cut : item ≡ take (position_or_len is_separator rest) rest = cc in
    let some : 0 < length rest = search rules in
    let next = items_next c.args.self.at bs rest item e cut some in
    cc

pub returns-clause-shorter : goal.returns-clause-shorter
returns-clause-shorter c =
    let bs = c.args.self.bytes.now in
    let rest = c.split_at.result.1.bytes.now in
    let e : rest ≡ drop (prefix_len is_space bs) bs = cc in
    let some : 0 < length rest = search rules in
    let long = item_long bs rest e some in
    omega (arith, c.item_len.ensures, ap length e, ap length c.split_at-2.ensures.suffix.1, length-drop (prefix_len is_space bs) bs, length-drop c.item_len.result rest)
