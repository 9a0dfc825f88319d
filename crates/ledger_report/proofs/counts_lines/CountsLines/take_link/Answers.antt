use Rattle.std.proofs.Common.{◌≡◌, ◌<◌, ◌∙◌, List, length, get_or, ap, arith}
use Rattle.verdict_ledger.specs.Text.{link_line}
use Rattle.vl_config.specs.Link.{VirtualLink}
use Rattle.ledger_report.specs.CountsLines.{taps_in}
use Rattle.ledger_report.proofs.TakeSteps.{link_right}
use Rattle.ledger_report.proofs.counts_lines.CountsLines.take_link.Goals as goal

pub returns-clause-right : goal.returns-clause-right
returns-clause-right c = λ lines are.
    (let found = c.in-Some.ensures.lookup in
    let table = c.args.config.now in
    let link = c.in-Some.link.now in
    let same = c.links.ensures.value in
    let within : c.args.self.now.links < length table.links = omega (arith, found.3.0, ap (λ (ls : List VirtualLink). length ls) same) in
    let at = λ (d : VirtualLink). found.3.1 d ∙ ap (λ (ls : List VirtualLink). get_or ls c.args.self.now.links d) same in
    let made : c.push_link.new.text.items ≡ link_line link c.link-of_link.result.now = rw c.requires at c.in_ok-push_link.ensures in
    link_right table lines c.args.self.now.links c.args.self.now.filters (taps_in c.args.self.now.endings) link c.link-of_link.result.now
    c.push_link.new.text.items c.args.line.now c.compare.result within at
    (rw (← c.link.view_is) (c.link-of_link.ensures lines are)) c.compare.ensures.same c.compare.ensures.differs made)
