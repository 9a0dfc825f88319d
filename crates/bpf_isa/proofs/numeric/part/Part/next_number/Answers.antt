use Rattle.std.proofs.Common.{◌≡◌, ◌<◌, length, drop, not, arith, rules}
use Rattle.std.specs.List.{prefix_len}
use Rattle.std.proofs.lemmas.List.Sums.{prefix_len-le-length}
use Rattle.bpf_isa.specs.Numeric.{is_blank}
use Rattle.bpf_isa.proofs.NumericParts.{numbers_end, numbers_next}
use Rattle.bpf_isa.proofs.numeric.part.Part.next_number.Goals as goal

pub split_at-requires : goal.split_at-requires
split_at-requires c = omega (arith, c.blank_len.ensures, prefix_len-le-length is_blank c.args.self.bytes.now)

pub returns-then-is_empty : goal.returns-then-is_empty
returns-then-is_empty c =
    let rest = c.split_at.result.1.bytes.now in
    let e : rest ≡ drop (prefix_len is_blank c.args.self.bytes.now) c.args.self.bytes.now = cc in
    numbers_end c.args.self.at c.args.self.bytes.now rest e (search rules)

pub split_at-requires-2 : goal.split_at-requires-2
split_at-requires-2 c = omega (arith, c.number_len.ensures, prefix_len-le-length (λ x. not (is_blank x)) c.split_at.result.1.bytes.now)

pub returns : goal.returns
returns c =
    let bs = c.args.self.bytes.now in
    let rest = c.split_at.result.1.bytes.now in
    let e : rest ≡ drop (prefix_len is_blank bs) bs = cc in
    let some : 0 < length rest = search rules in
    let next = numbers_next c.args.self.at bs rest e some in
    cc
