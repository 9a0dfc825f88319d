use Rattle.std.proofs.Common.{◌∙◌, ◌||◌, Bool, false, get_or, ap, arith}
use Rattle.ledger_text.proofs.Ranges.{gone_through}
use Rattle.ledger_text.proofs.link_set.LinkSet.insert_range.Goals as goal

pub returns : goal.returns
returns c = λ k.
    c.loop-id.invariant.held k
    ∙ ap (λ (b : Bool). get_or c.args.self.now.held.items k false || b) (gone_through c.args.first.0 c.args.last.0 c.loop-id.id k (omega arith) (omega arith) (λ h. c.loop-id.invariant.empty (omega (arith, h))))
