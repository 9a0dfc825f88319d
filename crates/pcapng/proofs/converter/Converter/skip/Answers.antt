use Rattle.std.proofs.Common.{◌≡◌, ℕ, ◌+◌, ◌-◌, List, slice_range, refl, sym, ap, ◌∙◌, rules, arith}
use Rattle.pcap_io.specs.Layout.{number_in}
use Rattle.pcapng.proofs.Converting.{after_none, skip_ends, skip_keeps, skip_wrong}
use Rattle.pcapng.proofs.converter.Converter.skip.Goals as goal

pub returns-then-left-unread-clause-kept : goal.returns-then-left-unread-clause-kept
returns-then-left-unread-clause-kept c = λ l.
    let v = c.args.self.now in
    after_none _ _ _ c.requires.given
    (skip_keeps v (v.end - v.start) c.args.left c.args.len _ v.end l c.requires.start c.requires.given (omega arith) (search rules) (omega arith) refl (omega arith))

pub returns-then-self-lt4-clause-kept : goal.returns-then-self-lt4-clause-kept
returns-then-self-lt4-clause-kept c = λ l.
    let v = c.args.self.now in
    after_none _ _ _ c.requires.given
    (skip_keeps v c.args.left c.args.left c.args.len 0 _ l c.requires.start c.requires.given (omega arith) (search rules) (omega arith) (omega arith) refl)

pub returns-then-last-len-clause-kept : goal.returns-then-last-len-clause-kept
returns-then-last-len-clause-kept c = λ l.
    let v = c.args.self.now in
    let read : c.read_u32-last.result ≡ number_in v.section.order 4 (slice_range v.block.items (v.start + c.args.left) v.end) =
    c.read_u32-last.ensures ∙ ap (λ (b : List ℕ). number_in v.section.order 4 (slice_range b (v.start + c.args.left) v.end)) c.deref.ensures.value in
    after_none _ _ _ c.requires.given
    (skip_ends v c.args.left c.args.len _ l c.requires.start c.requires.given (omega arith) (search rules) refl (sym read ∙ c.if-last-len.true))

pub returns-else-last-len-clause-kept : goal.returns-else-last-len-clause-kept
returns-else-last-len-clause-kept c = λ l.
    let v = c.args.self.now in
    let read : c.read_u32-last.result ≡ number_in v.section.order 4 (slice_range v.block.items (v.start + c.args.left) v.end) =
    c.read_u32-last.ensures ∙ ap (λ (b : List ℕ). number_in v.section.order 4 (slice_range b (v.start + c.args.left) v.end)) c.deref.ensures.value in
    c.end_bad.ensures l
    ∙ skip_wrong v c.args.left c.args.len l c.requires.start c.requires.given (omega arith) (search rules) (λ same. c.if-last-len.false (read ∙ same))
