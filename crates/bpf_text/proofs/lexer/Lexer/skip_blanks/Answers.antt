use Rattle.std.proofs.Common.{◌≡◌, ◌<◌, ◌≤◌, arith, sym, ◌∙◌, subst, length, drop}
use Rattle.bpf_text.specs.Tokens.{blank_len, byte_before}
use Rattle.bpf_text.proofs.Tokens.{items_after_blank, blank_inside, blank_starts}
use Rattle.bpf_text.proofs.lexer.Lexer.skip_blanks.Goals as goal

pub loop-len-preserved : goal.loop-len-preserved
loop-len-preserved c =
    let text = c.loop-len.self.text.now in
    let at = c.loop-len.self.at in
    let n = c.blank_len-len.result in
    let before = c.byte_before.ensures in
    let rest = c.rest.ensures in
    let some : 0 < n = omega arith in
    let len : n ≡ blank_len (byte_before text at) (drop at text) = cc c.blank_len-len.ensures.len in
    let fits : n ≤ length (drop at text) = subst (λ bs. n ≤ length bs) rest c.blank_len-len.ensures.within in
    let inside = blank_inside text at n c.loop-len.self.within fits in
    record {
      text = c.loop-len.invariant.text;
      items = sym (items_after_blank text at n (blank_starts text at n c.loop-len.self.within some fits) len some inside) ∙ c.loop-len.invariant.items;
    }
