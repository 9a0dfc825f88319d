use Rattle.std.proofs.Common.{◌≡◌, ℕ, ◌≤◌, List, length, slice_range, sym, ap, ◌∙◌, rules, arith}
use Rattle.pcapng.proofs.Converting.{opens_section}
use Rattle.pcapng.proofs.Files.{opened_wrong}
use Rattle.pcapng.proofs.Handed.{at_stage}
use Rattle.pcapng.specs.File.{first_of}
use Rattle.pcapng.specs.Handed.{unread_of}
use Rattle.pcapng.specs.Section.{known_of}
use Rattle.pcapng.specs.declared.block.FirstSection.TheVariants as firsts
use Rattle.pcapng.specs.declared.converter.Reached.TheVariants as stages
use Rattle.pcapng.proofs.converter.Converter.first_section.Goals as goal

pub returns-in-Wrong-clause-kept : goal.returns-in-Wrong-clause-kept
returns-in-Wrong-clause-kept c = λ l.
    let v = c.args.self.now in
    let some : 12 ≤ length (unread_of v) = search rules in
    let first : first_of (unread_of v) ≡ firsts.Wrong c.in-Wrong.fault =
    ap (λ (b : List ℕ). first_of (slice_range b v.start v.end)) (sym c.deref.ensures.value) ∙ sym c.in-Wrong.ensures.value in
    c.end_at_header.ensures l
    ∙ sym (at_stage v stages.FirstSection l c.requires.start c.requires.given ∙ opened_wrong (known_of v.section) (unread_of v) l c.in-Wrong.fault some first)

pub returns-in-Begins-clause-kept : goal.returns-in-Begins-clause-kept
returns-in-Begins-clause-kept c = λ l.
    let v = c.args.self.now in
    let some : 12 ≤ length (unread_of v) = search rules in
    let first : first_of (unread_of v) ≡ firsts.Begins c.in-Begins.order c.in-Begins.len =
    ap (λ (b : List ℕ). first_of (slice_range b v.start v.end)) (sym c.deref.ensures.value) ∙ sym c.in-Begins.ensures.value in
    opens_section v c.begin.new.self c.capture_header-self.result c.in-Begins.order c.in-Begins.len _ l c.requires.start c.requires.given some
    (search rules) (search rules) first c.capture_header-self.ensures c.begin.ensures (omega arith)
