use Rattle.std.proofs.Common.{◌≡◌, ℕ, ◌+◌, ◌≤◌, ◌<◌, List, length, slice_range, Ok, Err, sym, ap, ◌∙◌, rules, arith}
use Rattle.pcapng.proofs.Converting.{after_none, ends_few, ends_part, reads_bad, reads_good, starts_none, starts_other}
use Rattle.pcapng.specs.Block.{start_of}
use Rattle.pcapng.specs.Handed.{unread_of}
use Rattle.pcap_io.specs.declared.recording.BadReason.{BadReason}
use Rattle.pcap_io.specs.declared.told.Told.TheVariants as tolds
use Rattle.pcapng.specs.Given.{only}
use Rattle.pcapng.proofs.converter.Converter.next_block.Goals as goal

pub returns-then-unread-lt-START_LEN-clause-lacks : goal.returns-then-unread-lt-START_LEN-clause-lacks
returns-then-unread-lt-START_LEN-clause-lacks c =
    let v = c.args.self.now in
    let few : length (unread_of v) < 12 = search rules in
    (omega arith, few, ends_few v c.requires.start few)

pub returns-in-Err-clause-kept : goal.returns-in-Err-clause-kept
returns-in-Err-clause-kept c = λ l.
    let v = c.args.self.now in
    let some : 12 ≤ length (unread_of v) = search rules in
    let starts : start_of v.section.order (unread_of v) ≡ Err c.in-Err.fault =
    ap (λ (b : List ℕ). start_of v.section.order (slice_range b v.start v.end)) (sym c.deref.ensures.value) ∙ sym c.in-Err.ensures.value in
    c.end_bad.ensures l ∙ (ap (λ (r : BadReason). only (tolds.Bad r)) c.reason.ensures ∙ starts_none v c.in-Err.fault l c.requires.start c.requires.given some starts)

pub returns-then-eq-clause-kept : goal.returns-then-eq-clause-kept
returns-then-eq-clause-kept c = λ l.
    let v = c.args.self.now in
    let some : 12 ≤ length (unread_of v) = search rules in
    let starts : start_of v.section.order (unread_of v) ≡ Ok c.in-Ok.begun =
    ap (λ (b : List ℕ). start_of v.section.order (slice_range b v.start v.end)) (sym c.deref.ensures.value) ∙ sym c.in-Ok.ensures.value in
    after_none _ _ _ c.requires.given (starts_other v c.in-Ok.begun _ l (omega arith) c.requires.start c.requires.given some starts (search rules))

pub returns-then-unread-begun-clause-lacks : goal.returns-then-unread-begun-clause-lacks
returns-then-unread-begun-clause-lacks c =
    let v = c.args.self.now in
    let some : 12 ≤ length (unread_of v) = search rules in
    let starts : start_of v.section.order (unread_of v) ≡ Ok c.in-Ok.begun =
    ap (λ (b : List ℕ). start_of v.section.order (slice_range b v.start v.end)) (sym c.deref.ensures.value) ∙ sym c.in-Ok.ensures.value in
    let part : length (unread_of v) < c.in-Ok.begun.len = search rules in
    (search rules, part, ends_part v c.in-Ok.begun c.requires.start some starts part)

pub returns-in-Err-whole_block-clause-kept : goal.returns-in-Err-whole_block-clause-kept
returns-in-Err-whole_block-clause-kept c = λ l.
    let v = c.args.self.now in
    let some : 12 ≤ length (unread_of v) = search rules in
    let starts : start_of v.section.order (unread_of v) ≡ Ok c.in-Ok.begun =
    ap (λ (b : List ℕ). start_of v.section.order (slice_range b v.start v.end)) (sym c.deref.ensures.value) ∙ sym c.in-Ok.ensures.value in
    let whole : v.start + c.in-Ok.begun.len ≤ v.end = search rules in
    c.end_bad-in-Err-whole_block.ensures l
    ∙ reads_bad v c.in-Ok.begun c.in-Err-whole_block.reason l c.requires.start c.requires.given some starts whole (search rules) c.in-Err-whole_block.ensures.value

pub returns-in_default-clause-kept : goal.returns-in_default-clause-kept
returns-in_default-clause-kept c = λ l.
    let v = c.args.self.now in
    let some : 12 ≤ length (unread_of v) = search rules in
    let starts : start_of v.section.order (unread_of v) ≡ Ok c.in-Ok.begun =
    ap (λ (b : List ℕ). start_of v.section.order (slice_range b v.start v.end)) (sym c.deref.ensures.value) ∙ sym c.in-Ok.ensures.value in
    let whole : v.start + c.in-Ok.begun.len ≤ v.end = search rules in
    reads_good v c.whole_block.new.self c.in-Ok.begun l c.requires.start c.requires.given some starts whole (search rules) c.in_default.ensures.value c.in_default.ensures.passed
