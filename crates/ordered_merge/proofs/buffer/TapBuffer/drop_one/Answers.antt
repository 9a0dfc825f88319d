use Rattle.std.proofs.Common.{List, sym, ap, ◌∙◌}
use Rattle.afdx_frame.specs.Frame.{Frame}
use Rattle.ordered_merge.specs.contracts.buffer.TapBuffer.{the_view}
use Rattle.ordered_merge.proofs.Buffers.{late_buffer_popped, late_rest, queue_buffer_popped}
use Rattle.ordered_merge.proofs.Rising.{other_rest}
use Rattle.ordered_merge.proofs.buffer.TapBuffer.drop_one.Goals as goal

pub invariant_of-self : goal.invariant_of-self
invariant_of-self c =
    rw c.pop_front.ensures.rest
    (late_buffer_popped c.self.inside.queue c.self.inside.late.items c.self.inside.next c.self.invariant (sym c.late_leads.ensures ∙ c.if-late_leads.true))

pub invariant_of-self-else-late_leads : goal.invariant_of-self-else-late_leads
invariant_of-self-else-late_leads c =
    rw c.skip.ensures
    (queue_buffer_popped c.self.inside.queue c.self.inside.late.items c.self.inside.next c.self.invariant (sym c.late_leads.ensures ∙ c.if-late_leads.false))

pub returns-then-late_leads : goal.returns-then-late_leads
returns-then-late_leads c =
    rw (← c.self.view_is, c.pop_front.ensures.rest)
    (ap (λ (l : List Frame). record (the_view c.self.inside) { frames = l })
    (late_rest c.self.inside.queue c.self.inside.late.items c.self.inside.next c.self.invariant (sym c.late_leads.ensures ∙ c.if-late_leads.true)))

pub returns-else-late_leads : goal.returns-else-late_leads
returns-else-late_leads c =
    rw (← c.self.view_is, c.skip.ensures)
    (ap (λ (l : List Frame). record (the_view c.self.inside) { frames = l })
    (other_rest c.self.inside.late.items c.self.inside.queue c.self.invariant.late_rises (sym c.late_leads.ensures ∙ c.if-late_leads.false)))
