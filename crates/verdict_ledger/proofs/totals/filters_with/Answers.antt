-- Each filter's count is that of its bit, with one more entry.
use Rattle.std.proofs.Common.{ℕ, List, get_or, ap, ◌∙◌}
use Rattle.verdict_ledger.specs.Entry.{Entry}
use Rattle.verdict_ledger.specs.Tally.{totals_of, has_bit}
use Rattle.verdict_ledger.proofs.Counting.{counted}
use Rattle.verdict_ledger.proofs.totals.filters_with.Goals as goal

pub returns : goal.returns
unfolding totals_of
returns c = λ entries e few mask same.
    let old = λ (i : ℕ). ap (λ (l : List ℕ). get_or l i 0) same in
    let test = λ (i : ℕ) (x : Entry). has_bit i x.mask in
    let a = counted (test 0) entries e _ _ _ few (old 0) (c.has_bit.ensures ∙ ap (has_bit 0) mask) c.plus.ensures in
    let b = counted (test 1) entries e _ _ _ few (old 1) (c.has_bit-2.ensures ∙ ap (has_bit 1) mask) c.plus-2.ensures in
    let d = counted (test 2) entries e _ _ _ few (old 2) (c.has_bit-3.ensures ∙ ap (has_bit 2) mask) c.plus-3.ensures in
    let f = counted (test 3) entries e _ _ _ few (old 3) (c.has_bit-4.ensures ∙ ap (has_bit 3) mask) c.plus-4.ensures in
    let g = counted (test 4) entries e _ _ _ few (old 4) (c.has_bit-5.ensures ∙ ap (has_bit 4) mask) c.plus-5.ensures in
    let h = counted (test 5) entries e _ _ _ few (old 5) (c.has_bit-6.ensures ∙ ap (has_bit 5) mask) c.plus-6.ensures in
    let i = counted (test 6) entries e _ _ _ few (old 6) (c.has_bit-7.ensures ∙ ap (has_bit 6) mask) c.plus-7.ensures in
    let j = counted (test 7) entries e _ _ _ few (old 7) (c.has_bit-8.ensures ∙ ap (has_bit 7) mask) c.plus-8.ensures in
    cc
