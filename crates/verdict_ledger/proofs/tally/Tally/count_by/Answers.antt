-- The counts of the frame's link move, and those of the others stay.
use Rattle.std.proofs.Common.{ℕ, ◌<◌, ap, ◌∙◌, sym, arith}
use Rattle.std.specs.List.{filter}
use Rattle.verdict_ledger.specs.Tally.{is_entry_of, link_counts}
use Rattle.verdict_ledger.proofs.Tallying.{counted_by, counts_move, counts_stay, few_of_link}
use Rattle.verdict_ledger.proofs.tally.Tally.count_by.Goals as goal

pub returns-in-Some : goal.returns-in-Some
returns-in-Some c = λ entries e few linked judged kept masked tallied.
    let id = c.in-Some.id in
    let at = c.from.result in
    let counts = c.args.self.now.counts in
    let fits : at < 65536 = omega (arith, c.from.ensures) in
    let now = c.count-in-Some.ensures (filter (is_entry_of id) entries) e (few_of_link entries id _ few) judged kept
    (c.index_mut.ensures.value ∙ tallied.links at c.index_mut.result.now fits ∙ ap (λ (n : ℕ). link_counts entries (record { 0 = n })) c.from.ensures) in
    record {
      totals = c.count.ensures entries e few judged kept masked tallied.totals;
      links = counts_move entries e counts.items id at c.count-in-Some.new.self
          (c.in-Some.ensures ∙ counted_by e c.args.verdict.now c.args.link linked judged) c.from.ensures (omega (arith, counts.ok.0)) (omega arith) now tallied.links;
    }

pub returns-in_default : goal.returns-in_default
returns-in_default c = λ entries e few linked judged kept masked tallied. record {
  totals = c.count.ensures entries e few judged kept masked tallied.totals;
  links = counts_stay entries e c.args.self.now.counts.items
      (sym c.in_default.is ∙ (c.counted_link.ensures ∙ counted_by e c.args.verdict.now c.args.link linked judged)) tallied.links;
}
