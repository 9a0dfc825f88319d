use Rattle.std.proofs.Common.{◌≡◌, ◌<◌, length, drop, not, arith, rules}
use Rattle.std.specs.List.{prefix_len}
use Rattle.std.proofs.lemmas.List.Sums.{prefix_len-le-length}
use Rattle.bpf_debugger.specs.Lines.{is_space}
use Rattle.bpf_debugger.proofs.Words.{words_end, words_next}
use Rattle.bpf_debugger.proofs.read.next_word.Goals as goal

pub split_at-requires : goal.split_at-requires
split_at-requires c = omega (arith, c.space_len.ensures, prefix_len-le-length is_space c.args.text.now)

pub returns-then-is_empty : goal.returns-then-is_empty
returns-then-is_empty c =
    let rest = c.split_at.result.1.now in
    let e : rest ≡ drop (prefix_len is_space c.args.text.now) c.args.text.now = cc in
    words_end c.args.text.now rest e (search rules)

pub split_at-requires-2 : goal.split_at-requires-2
split_at-requires-2 c = omega (arith, c.word_len.ensures, prefix_len-le-length (λ x. not (is_space x)) c.split_at.result.1.now)

pub returns : goal.returns
returns c =
    let bs = c.args.text.now in
    let rest = c.split_at.result.1.now in
    let e : rest ≡ drop (prefix_len is_space bs) bs = cc in
    let some : 0 < length rest = search rules in
    let next = words_next bs rest e some in
    cc
