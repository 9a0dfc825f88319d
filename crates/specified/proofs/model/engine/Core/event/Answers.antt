use Rattle.std.proofs.Common.{sym, subst}
use Rattle.std.specs.List.Sorted.{IsPermutation}
use Rattle.specified.specs.Events.Steps.{CoreState, core_step}
use Rattle.specified.specs.Events.Sound.{AnswersAre, HasNumbers, IsOf, PostsWhereHeld, held}
use Rattle.specified.proofs.Events.Numbers.{posts_where_held, step_numbers}
use Rattle.specified.proofs.Events.Soundness.{called, firsts_can_fetch, held_stays, step_answers, step_sound}
use Rattle.specified.proofs.model.engine.Core.event.Goals as goal

pub event-requires : goal.event-requires
event-requires g c = let is = c.self.invariant in firsts_can_fetch is.0 is.1 is.2 c.self.inside.parts is.3

pub invariant_of-self : goal.invariant_of-self
invariant_of-self g c =
    let is = c.self.invariant in
    let answer = g.W.Work.answer_of c.args.work.now in (
      is.0,
      is.1,
      is.2,
      called (IsOf is.0 is.1 is.2) (core_step answer c.self.inside.parts c.args.event) c.self.inside.parts c.event.new.self c.event.result
          (step_sound answer c.args.event is.0 is.1 is.2 c.self.inside.parts is.3) is.3 c.event.ensures.step c.event.ensures.unchanged,
      called HasNumbers (core_step answer c.self.inside.parts c.args.event) c.self.inside.parts c.event.new.self c.event.result
          (step_numbers answer c.args.event c.self.inside.parts is.4) is.4 c.event.ensures.step c.event.ensures.unchanged,
    )

pub returns-clause-posts : goal.returns-clause-posts
returns-clause-posts g c =
    subst (λ (s : CoreState). PostsWhereHeld (g.W.Work.answer_of c.args.work.now) s c.args.event) c.self.view_is
    (posts_where_held (g.W.Work.answer_of c.args.work.now) c.args.event c.self.inside.parts c.self.invariant.4)

pub returns-clause-held : goal.returns-clause-held
returns-clause-held g c =
    let is = c.self.invariant in
    let answer = g.W.Work.answer_of c.args.work.now in
    subst (λ (s : CoreState). IsPermutation (held s) (held c.event.new.self)) c.self.view_is
    (held_stays is.0 is.1 is.2 c.self.inside.parts c.event.new.self is.3
    (called (IsOf is.0 is.1 is.2) (core_step answer c.self.inside.parts c.args.event) c.self.inside.parts c.event.new.self c.event.result
    (step_sound answer c.args.event is.0 is.1 is.2 c.self.inside.parts is.3) is.3 c.event.ensures.step c.event.ensures.unchanged))

pub returns-clause-answers : goal.returns-clause-answers
returns-clause-answers g c = λ before.
    (let answer = g.W.Work.answer_of c.args.work.now in
    let here = subst (AnswersAre answer) (sym c.self.view_is) before in
    called (AnswersAre answer) (core_step answer c.self.inside.parts c.args.event) c.self.inside.parts c.event.new.self c.event.result
    (step_answers answer c.args.event c.self.inside.parts here) here c.event.ensures.step c.event.ensures.unchanged)
