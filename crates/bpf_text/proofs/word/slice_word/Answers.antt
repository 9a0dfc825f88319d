use Rattle.std.proofs.Common.{arith}
use Rattle.bpf_text.proofs.Tokens.{word_within, word_boundary}
use Rattle.bpf_text.proofs.word.slice_word.Goals as goal

pub overflow_add-at : goal.overflow_add-at
overflow_add-at c =
    let within = word_within c.args.text.now c.args.at c.args.len c.requires.word c.requires.nonempty in
    let text = c.well_formed in
    omega arith

pub range-requires-clause-end_boundary : goal.range-requires-clause-end_boundary
range-requires-clause-end_boundary c = word_boundary c.args.text.now c.args.at c.args.len c.utf8.text c.requires.word c.requires.nonempty
