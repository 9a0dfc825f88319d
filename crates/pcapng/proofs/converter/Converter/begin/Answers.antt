use Rattle.std.proofs.Common.{rules, ◌≡◌, ℕ, ◌+◌, List, slice_range, sym, ap, ◌∙◌, arith}
use Rattle.byteorder.specs.Endian.{big_number}
use Rattle.pcapng.proofs.Handed.{begins_plain, begins_section}
use Rattle.pcapng.proofs.converter.Converter.begin.Goals as goal

pub returns-then-magic-eq-SECTION_HEADER-clause-kept : goal.returns-then-magic-eq-SECTION_HEADER-clause-kept
returns-then-magic-eq-SECTION_HEADER-clause-kept c = λ left.
    let v = c.args.self.now in
    let read : c.read_u32-magic.result ≡ big_number 4 (slice_range v.block.items v.start (v.start + 4)) =
    c.read_u32-magic.ensures ∙ ap (λ (l : List ℕ). big_number 4 (slice_range l v.start (v.start + 4))) c.deref.ensures.value in
    begins_section v left c.requires.start c.requires.given (omega arith) (search rules) (sym read ∙ c.if-magic-eq-SECTION_HEADER.true)

pub returns-clause-kept : goal.returns-clause-kept
returns-clause-kept c = λ left.
    let v = c.args.self.now in
    let read : c.read_u32-magic.result ≡ big_number 4 (slice_range v.block.items v.start (v.start + 4)) =
    c.read_u32-magic.ensures ∙ ap (λ (l : List ℕ). big_number 4 (slice_range l v.start (v.start + 4))) c.deref.ensures.value in
    begins_plain v left c.requires.start c.requires.given (omega arith) (search rules)
    (λ e. c.if-magic-eq-SECTION_HEADER.false (read ∙ e))
