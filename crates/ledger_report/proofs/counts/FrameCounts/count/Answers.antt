-- Each of the counts moves.
use Rattle.std.proofs.Common.{List, refl, subst, sym}
use Rattle.verdict_ledger.specs.Entry.{Entry}
use Rattle.verdict_ledger.specs.Ledger.{IsTallyOf}
use Rattle.ledger_report.specs.Counts.{entries_of, entry_of}
use Rattle.ledger_report.proofs.Tallies.{entries_more, few_entries, link_back}
use Rattle.ledger_report.proofs.counts.FrameCounts.count.Goals as goal

pub returns : goal.returns
returns c = λ lines few are.
    let line = c.args.line.now in
    record {
      tally = subst (λ (es : List Entry). IsTallyOf es c.count_by.new.self) (sym (entries_more lines line))
          (c.count_by.ensures (entries_of lines) (entry_of line) (few_entries lines few) (link_back line.link) refl refl refl are.tally);
      a = c.count_on.ensures lines few are.a;
      b = c.count_on-2.ensures lines few are.b;
    }
