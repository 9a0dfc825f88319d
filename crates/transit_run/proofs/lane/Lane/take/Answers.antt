use Rattle.std.proofs.Common.{refl, sym, ◌∙◌}
use Rattle.std.proofs.lemmas.Option.{none-some}
use Rattle.transit_run.proofs.Queues.{takes_first, takes_none}
use Rattle.transit_run.proofs.lane.Lane.take.Goals as goal

pub returns-then-self-eq0 : goal.returns-then-self-eq0
returns-then-self-eq0 c = λ free. takes_none _ _ _ c.if-self-eq0.true refl free

pub returns-in_err-place : goal.returns-in_err-place
returns-in_err-place c = λ free.
    takes_first _ _ _ _ c.args.self.now.alike.queue.items c.take.new.self.queue.items _ _ (λ entry. refl)
    (c.from_residual.ensures ∙ c.in_err-place.ensures.found) c.take.ensures.taken
    (λ n e. absurd (none-some n (sym c.from_residual.ensures ∙ e))) (λ e. refl) _ c.take.ensures.window free

pub returns : goal.returns
returns c = λ free.
    takes_first _ _ _ _ c.args.self.now.alike.queue.items c.take.new.self.queue.items _ _ (λ entry. refl)
    c.in_ok-place.ensures.found c.take.ensures.taken
    (λ n e. c.saturating_sub-self.ensures) (λ e. absurd (none-some c.in_ok-place.place (sym e))) _ c.take.ensures.window free
