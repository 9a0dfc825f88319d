use Rattle.std.proofs.Common.{◌≡◌, ℕ, ◌+◌, take, length, subst, ap, sym, ◌∙◌}
use Rattle.afdx_frame.specs.declared.key.Network.TheVariants.{A, B}
use Rattle.ordered_merge.specs.Merge.{MergerState, cut_frames}
use Rattle.ordered_merge.proofs.Merging.{Bounds, count_is, cut_first, pending_rises, state_of}
use Rattle.ordered_merge.proofs.merger.Merger.count_safe.Goals as goal

pub returns-clause-count : goal.returns-clause-count
returns-clause-count c =
    let s = state_of c.self.inside.late c.self.inside.a c.self.inside.b in
    count_is c.self.inside.late c.args.most c.count_below-of_a.result c.count_below.result c.safe_below.result c.safe_below-2.result
    c.self.inside.a c.self.inside.b c.self.invariant.0 c.self.invariant.1 c.count_below-of_a.ensures.fit c.count_below.ensures.fit
    (subst (λ (t : MergerState). Bounds t A c.safe_below.result) (sym c.self.view_is) c.safe_below.ensures)
    (subst (λ (t : MergerState). Bounds t B c.safe_below-2.result) (sym c.self.view_is) c.safe_below-2.ensures)
    c.count_below-of_a.ensures.count c.count_below.ensures.count
    ∙ ap (λ (t : MergerState). length (cut_frames t c.args.most)) c.self.view_is

pub returns-clause-first : goal.returns-clause-first
returns-clause-first c =
    let s = state_of c.self.inside.late c.self.inside.a c.self.inside.b in
    let count = count_is c.self.inside.late c.args.most c.count_below-of_a.result c.count_below.result c.safe_below.result c.safe_below-2.result
    c.self.inside.a c.self.inside.b c.self.invariant.0 c.self.invariant.1 c.count_below-of_a.ensures.fit c.count_below.ensures.fit
    (subst (λ (t : MergerState). Bounds t A c.safe_below.result) (sym c.self.view_is) c.safe_below.ensures)
    (subst (λ (t : MergerState). Bounds t B c.safe_below-2.result) (sym c.self.view_is) c.safe_below-2.ensures)
    c.count_below-of_a.ensures.count c.count_below.ensures.count in
    subst (λ (t : MergerState). take (c.count_below-of_a.result + c.count_below.result) t.pending ≡ cut_frames t c.args.most) c.self.view_is
    (ap (λ (n : ℕ). take n s.pending) count
    ∙ cut_first s c.args.most
    (pending_rises c.self.inside.late c.self.inside.a c.self.inside.b c.count_below-of_a.ensures.rising c.count_below.ensures.rising c.self.invariant.0 c.self.invariant.1))
