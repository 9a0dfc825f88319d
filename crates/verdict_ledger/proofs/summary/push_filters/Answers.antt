use Rattle.std.proofs.Common.{ℕ, List, ◌++◌, sym, ap, ◌∙◌, arith, append-nil}
use Rattle.std.proofs.lemmas.List.{take_all}
use Rattle.verdict_ledger.specs.Text.{filter_lines}
use Rattle.verdict_ledger.proofs.Joining.{join, filter_lines_more}
use Rattle.verdict_ledger.proofs.summary.push_filters.Goals as goal

pub loop-filter-init : goal.loop-filter-init
loop-filter-init c = sym (append-nil c.args.text.now.items)

pub loop-filter-preserved : goal.loop-filter-preserved
loop-filter-preserved c =
    let start = c.args.text.now.items in
    join start _ _ _ _ c.loop-filter.invariant c.in_ok-push_filter.ensures
    ∙ ap (λ (l : List ℕ). start ++ l) (sym (filter_lines_more c.args.counts.now c.loop-filter.filter (omega arith)))

pub returns : goal.returns
returns c =
    let start = c.args.text.now.items in
    c.loop-filter.invariant
    ∙ ap (λ (l : List ℕ). start ++ filter_lines 0 l) (take_all c.loop-filter.filter c.args.counts.now c.loop-filter-test.false)
