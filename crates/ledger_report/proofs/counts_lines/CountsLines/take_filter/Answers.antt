use Rattle.std.proofs.Common.{◌≡◌, ℕ, ◌<◌, ◌≤◌, ◌∙◌, List, length, ap, arith}
use Rattle.std.proofs.lemmas.List.{length-map}
use Rattle.verdict_ledger.specs.Text.{filter_line}
use Rattle.vl_config.specs.Link.{VirtualLink}
use Rattle.ledger_report.specs.CountsLines.{taps_in}
use Rattle.ledger_report.proofs.TakeSteps.{filter_right}
use Rattle.ledger_report.proofs.counts_lines.CountsLines.take_filter.Goals as goal

pub returns-clause-right : goal.returns-clause-right
returns-clause-right c = λ lines are.
    (let found = c.in-Some.ensures.lookup in
    let table = c.args.config.now in
    let filter = c.args.self.now.filters in
    let all : length table.links ≤ c.args.self.now.links = omega
    (arith, c.if-missing.false, ap (λ (ls : List VirtualLink). length ls) c.links.ensures.value) in
    let few : filter ≤ length table.filters =
    omega (arith, c.if-filter-filters.false, simp length-map at (ap (λ (fs : List (List ℕ)). length fs) c.filters-else-missing.ensures.value)) in
    let below : filter < 8 = omega (arith, found.3.0, c.filters.ensures.count) in
    let accepted = found.3.1 0 ∙ c.filters.ensures.each lines filter are below in
    let made : c.push_filter.new.text.items ≡ filter_line filter c.in-Some.accepted.now = rw c.requires at c.in_ok-push_filter.ensures in
    filter_right table lines c.args.self.now.links filter (taps_in c.args.self.now.endings) c.in-Some.accepted.now
    c.push_filter.new.text.items c.args.line.now c.compare.result
    all few accepted c.compare.ensures.same c.compare.ensures.differs made)
