use Rattle.std.proofs.Common.{◌-◌, arith, length}
use Rattle.bpf_text.proofs.Tokens.{close_fits}
use Rattle.bpf_text.proofs.lexer.comment_len.Goals as goal

pub overflow_add-result : goal.overflow_add-result
overflow_add-result c =
    let h = close_fits c.in-Some.at (length c.args.bytes.now - 1) c.args.bytes.now c.in-Some.ensures in
    omega (arith, h)

pub returns-in-Some-clause-within : goal.returns-in-Some-clause-within
returns-in-Some-clause-within c =
    let h = close_fits c.in-Some.at (length c.args.bytes.now - 1) c.args.bytes.now c.in-Some.ensures in
    omega (arith, h)
