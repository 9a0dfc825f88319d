use Rattle.std.proofs.Common.{ℕ, ◌<◌, ◌∙◌, ap, subst, sym}
use Rattle.std.specs.List.{AllByRecursion}
use Rattle.ordered_merge.specs.Buffer.{BufferState, buffered}
use Rattle.ordered_merge.proofs.Buffers.{buffered_numbers}
use Rattle.ordered_merge.proofs.buffer.TapBuffer.push.Goals as goal

pub returns-in_err-hold-clause-numbers : goal.returns-in_err-hold-clause-numbers
returns-in_err-hold-clause-numbers c =
    subst (λ (s : BufferState). AllByRecursion (λ f. f.number < c.args.frame.number) s.frames) c.self.view_is
    (subst (λ (n : ℕ). AllByRecursion (λ f. f.number < n) (buffered c.self.inside.queue c.self.inside.late.items))
    (ap (λ (s : BufferState). s.tap.next) c.self.view_is ∙ sym c.requires)
    (buffered_numbers c.self.inside.queue c.self.inside.late.items c.self.inside.next c.self.invariant))

pub returns-clause-numbers : goal.returns-clause-numbers
returns-clause-numbers c =
    subst (λ (s : BufferState). AllByRecursion (λ f. f.number < c.args.frame.number) s.frames) c.self.view_is
    (subst (λ (n : ℕ). AllByRecursion (λ f. f.number < n) (buffered c.self.inside.queue c.self.inside.late.items))
    (ap (λ (s : BufferState). s.tap.next) c.self.view_is ∙ sym c.requires)
    (buffered_numbers c.self.inside.queue c.self.inside.late.items c.self.inside.next c.self.invariant))
