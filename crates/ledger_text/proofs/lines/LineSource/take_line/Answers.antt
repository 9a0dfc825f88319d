use Rattle.std.proofs.Common.{rules, arith, ◌≡◌, ◌-◌, ◌≤◌, ◌∙◌, ap, List, ℕ, slice_range}
use Rattle.std.specs.List.{position_or_len}
use Rattle.ledger_text.specs.Newlines.{is_newline}
use Rattle.pcap_io.proofs.Draws.{length-between}
use Rattle.ledger_text.proofs.Blocks.{line_is, line_taken}
use Rattle.ledger_text.proofs.lines.LineSource.take_line.Goals as goal

pub returns-clause-line : goal.returns-clause-line
returns-clause-line g c = λ e.
    let v = c.args.self.now in
    let p : c.line_len-len.result ≡ position_or_len is_newline (slice_range v.block.items v.start v.end) =
    c.line_len-len.ensures.len ∙ ap (λ (l : List ℕ). position_or_len is_newline (slice_range l v.start v.end)) c.deref.ensures.value in
    let size = length-between v.start v.end c.deref.result.now (search rules) in
    let n : c.line_len-len.result ≤ v.end - v.start = omega (arith, size, c.line_len-len.ensures.within) in
    line_is v.start c.line_len-len.result v.end v.block.items p (omega arith)

pub returns-clause-taken : goal.returns-clause-taken
returns-clause-taken g c = λ e.
    let v = c.args.self.now in
    let p : c.line_len-len.result ≡ position_or_len is_newline (slice_range v.block.items v.start v.end) =
    c.line_len-len.ensures.len ∙ ap (λ (l : List ℕ). position_or_len is_newline (slice_range l v.start v.end)) c.deref.ensures.value in
    let size = length-between v.start v.end c.deref.result.now (search rules) in
    let n : c.line_len-len.result ≤ v.end - v.start = omega (arith, size, c.line_len-len.ensures.within) in
    let other = c.if-len-end.false in
    line_taken v.start c.line_len-len.result v.end v.block.items p (omega arith) (search rules)
