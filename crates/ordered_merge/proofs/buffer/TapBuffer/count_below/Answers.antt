use Rattle.std.proofs.Common.{◌-◌, min, count_by, ap, subst, ◌∙◌, ◌<◌, ◌^◌, arith}
use Rattle.std.specs.List.{AllByRecursion}
use Rattle.ordered_merge.specs.Buffer.{BufferState, is_below}
use Rattle.ordered_merge.proofs.Buffers.{buffered_fit, count_both, prefix_take}
use Rattle.ordered_merge.proofs.buffer.TapBuffer.count_below.Goals as goal

pub overflow_sub-most : goal.overflow_sub-most
overflow_sub-most c =
    let e = prefix_take (is_below c.args.bound) c.args.most c.self.inside.queue in
    omega (arith, c.count_below-queued.ensures)

pub overflow_add-result : goal.overflow_add-result
overflow_add-result c =
    let e = prefix_take (is_below c.args.bound) c.args.most c.self.inside.queue in
    let f = prefix_take (is_below c.args.bound) (c.args.most - c.count_below-queued.result) c.self.inside.late.items in
    omega (arith, c.count_below-queued.ensures, c.count_late.ensures, c.ranges.most.fits)

pub returns-clause-count : goal.returns-clause-count
returns-clause-count c =
    count_both c.args.bound c.args.most c.self.inside.queue c.self.inside.late.items c.count_below-queued.result c.count_late.result
    c.self.invariant.queue_rises c.self.invariant.late_rises c.count_below-queued.ensures c.count_late.ensures
    ∙ ap (λ (s : BufferState). min c.args.most (count_by (is_below c.args.bound) s.frames)) c.self.view_is

pub returns-clause-fit : goal.returns-clause-fit
returns-clause-fit c =
    subst (λ (s : BufferState). AllByRecursion (λ f. f.stamp < 2 ^ 63) s.frames) c.self.view_is
    (buffered_fit c.self.inside.queue c.self.inside.late.items c.self.inside.next c.self.invariant)
