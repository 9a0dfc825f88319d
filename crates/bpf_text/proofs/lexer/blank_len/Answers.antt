use Rattle.std.proofs.Common.{◌-◌, arith, length}
use Rattle.bpf_text.proofs.Tokens.{line_fits}
use Rattle.bpf_text.proofs.lexer.blank_len.Goals as goal

pub overflow_add-result : goal.overflow_add-result
overflow_add-result c =
    let h = line_fits c.line_len.result (length c.args.bytes.now - 1) c.args.bytes.now c.line_len.ensures in
    omega (arith, h)

pub overflow_add-result-in-35 : goal.overflow_add-result-in-35
overflow_add-result-in-35 c =
    let h = line_fits c.line_len-in-35.result (length c.args.bytes.now - 1) c.args.bytes.now c.line_len-in-35.ensures in
    omega (arith, h)

pub returns-in-59-clause-within : goal.returns-in-59-clause-within
returns-in-59-clause-within c =
    let h = line_fits c.line_len.result (length c.args.bytes.now - 1) c.args.bytes.now c.line_len.ensures in
    omega (arith, h)

pub returns-in-35-clause-within : goal.returns-in-35-clause-within
returns-in-35-clause-within c =
    let h = line_fits c.line_len-in-35.result (length c.args.bytes.now - 1) c.args.bytes.now c.line_len-in-35.ensures in
    omega (arith, h)
