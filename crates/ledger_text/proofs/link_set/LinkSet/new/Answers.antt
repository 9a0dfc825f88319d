use Rattle.ledger_text.proofs.Tables.{all_false}
use Rattle.ledger_text.proofs.link_set.LinkSet.new.Goals as goal

pub returns : goal.returns
returns c = λ id. all_false c.in_ok-held.held.items 65536 id (c.in_ok-held.ensures.items_if_clones_equal (λ y e. e))
