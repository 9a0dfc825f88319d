use Rattle.ledger_text.proofs.Nearness.{noted_other, of_none}
use Rattle.ledger_text.proofs.neighbours.Neighbours.note.Goals as goal

pub returns-in-Some : goal.returns-in-Some
returns-in-Some c = λ selection lines few h is. c.note_link.ensures selection lines c.args.line.now few h c.in-Some.is is

pub returns-in-None : goal.returns-in-None
returns-in-None c = λ selection lines few h is.
    record {
      count = h.count;
      links = λ id none lt. noted_other selection c.args.self.now.around lines c.args.line.now id _ (of_none c.args.line.now id c.in-None.is) (h.links id none lt);
    }
