-- The lines of the links so far are on their way.
use Rattle.std.proofs.Common.{List, take, None}
use Rattle.verdict_ledger.specs.Entry.{Entry}
use Rattle.verdict_ledger.specs.Ledger.{IsTallyOf}
use Rattle.verdict_ledger.specs.Tally.{link_counts}
use Rattle.verdict_ledger.specs.Text.{link_lines}
use Rattle.verdict_ledger.specs.Writing.{IsSpooled}
use Rattle.verdict_ledger.proofs.spool.Spool.add_links.Given as goal

abbrev pub invariant-loop-link : goal.invariant-loop-link
invariant-loop-link g l = (entries : List Entry) → IsTallyOf entries l.tally →
    IsSpooled None (g.W.OutSink.contents l.initial.self.sink) (g.W.OutSink.contents l.self.sink)
    (g.W.OutSink.failures l.initial.self.sink) (g.W.OutSink.failures l.self.sink)
    l.initial.self.text.items l.self.text.items
    (link_lines (link_counts entries) (take l.link-index l.links))
