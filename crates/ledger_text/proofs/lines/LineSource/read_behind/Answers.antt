use Rattle.std.proofs.Common.{rules, ◌≡◌, ◌+◌, ◌∙◌, ap, arith, List, ℕ, slice_range, take, ◌++◌}
use Rattle.std.proofs.lemmas.List.{with_items_is, places}
use Rattle.std.proofs.lemmas.Bool.Decides.{nat_tests}
use Rattle.pcap_io.proofs.Draws.{keeps_more, on_err_from}
use Rattle.ledger_text.proofs.Blocks.{grown, keeps_same, no_more, same}
use Rattle.ledger_text.proofs.lines.LineSource.read_behind.Goals as goal

pub returns-in_err-n-clause-kept : goal.returns-in_err-n-clause-kept
returns-in_err-n-clause-kept g c =
    let v = c.args.self.now in
    let xs = c.deref_mut.result.now in
    let part = λ (l : List ℕ). slice_range l v.start v.end in
    keeps_same _ _ _ _
    (ap part (with_items_is v.block _ (search (rules, places))) ∙ (same v.start v.end xs _ v.ordered (search rules) ∙ ap part c.deref_mut.ensures.value))
    (search rules)

pub returns-in_err-n-clause-same : goal.returns-in_err-n-clause-same
returns-in_err-n-clause-same g c =
    let v = c.args.self.now in
    let xs = c.deref_mut.result.now in
    let part = λ (l : List ℕ). slice_range l v.start v.end in
    on_err_from c.from_residual.result
    (ap part (with_items_is v.block _ (search (rules, places))) ∙ (same v.start v.end xs _ v.ordered (search rules) ∙ ap part c.deref_mut.ensures.value))

pub returns-clause-kept : goal.returns-clause-kept
returns-clause-kept g c =
    let v = c.args.self.now in
    let xs = c.deref_mut.result.now in
    let n = c.in_ok-n.n in
    let part = λ (l : List ℕ). slice_range l v.start (v.end + n) in
    keeps_more _ _ _ _ (take n c.read.new.buf)
    (ap part (with_items_is v.block _ (search (rules, places)))
    ∙ (grown v.start v.end n xs c.read.new.buf _ v.ordered (search rules) (search rules)
    ∙ ap (λ (l : List ℕ). slice_range l v.start v.end ++ take n c.read.new.buf) c.deref_mut.ensures.value))
    (search rules)

pub returns-clause-none : goal.returns-clause-none
returns-clause-none g c = λ e.
    let v = c.args.self.now in
    let xs = c.deref_mut.result.now in
    let n = c.in_ok-n.n in
    let zero : n ≡ 0 = grind (arith, nat_tests) in
    let part = λ (l : List ℕ). slice_range l v.start (v.end + n) in (
      ap part (with_items_is v.block _ (search (rules, places)))
          ∙ (grown v.start v.end n xs c.read.new.buf _ v.ordered (search rules) (search rules)
          ∙ (ap (λ (l : List ℕ). slice_range l v.start v.end ++ take n c.read.new.buf) c.deref_mut.ensures.value
          ∙ no_more c.read.new.buf n zero _)),
      c.in_ok-n.ensures.bytes.1 zero (search rules),
    )
