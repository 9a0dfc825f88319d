use Rattle.std.proofs.Common.{◌≡◌, ◌-◌, ◌+◌, ◌∙◌, ℕ, false, true, Some, drop, take, subst, sym, ap, arith}
use Rattle.std.proofs.lemmas.Option.{slice_get-get_or}
use Rattle.std.specs.List.{AllByRecursion}
use Rattle.std.specs.Ordering.{is_lt}
use Rattle.afdx_frame.specs.Frame.{Frame, key_cmp, key_of}
use Rattle.afdx_frame.specs.declared.key.Key.{Key}
use Rattle.ordered_merge.specs.Order.{is_before}
use Rattle.ordered_merge.proofs.Buffers.{AreAbove, above_frame, one_more_above, placed_at, stops_here}
use Rattle.ordered_merge.proofs.Rising.{insert_first, is_less}
use Rattle.ordered_merge.proofs.buffer.place_of.Goals as goal

pub returns-then-not-comes_before-clause-place : goal.returns-then-not-comes_before-clause-place
returns-then-not-comes_before-clause-place c f e =
    let all = c.args.late.now.items in
    let k = c.loop-place.place in
    let h = c.index.result.now in
    let at : k - 1 + 1 ≡ k = omega (arith, c.loop-place-test.true) in
    let here = slice_get-get_or all (k - 1) h (omega (arith, c.loop-place-test.true, c.loop-place.invariant.within)) ∙ ap Some (sym c.index.ensures) in
    let later : is_before f h ≡ false =
    ap (λ (x : Key). is_lt (key_cmp x (key_of h))) e ∙ ap (λ (x : Key). is_lt (key_cmp c.args.key x)) (sym c.key.ensures) ∙ sym c.comes_before.ensures ∙ c.if-not-comes_before.true in
    placed_at f all k
    (subst (λ (n : ℕ). AllByRecursion (λ (g : Frame). is_before f g ≡ false) (take n all)) at (stops_here all (k - 1) h f c.requires here later))
    (above_frame f c.args.key (drop k all) e c.loop-place.invariant.after)

pub loop-place-preserved : goal.loop-place-preserved
loop-place-preserved c =
    let all = c.args.late.now.items in
    let k = c.loop-place.place in
    let h = c.index.result.now in
    let here = slice_get-get_or all (k - 1) h (omega (arith, c.loop-place-test.true, c.loop-place.invariant.within)) ∙ ap Some (sym c.index.ensures) in
    let less : is_lt (key_cmp c.args.key (key_of h)) ≡ true =
    ap (λ (x : Key). is_lt (key_cmp c.args.key x)) (sym c.key.ensures) ∙ sym c.comes_before.ensures ∙ c.if-not-comes_before.false in
    record {
      within = omega (arith, c.loop-place.invariant.within);
      after = one_more_above c.args.key all k h (omega (arith, c.loop-place-test.true)) here (is_less (key_cmp c.args.key (key_of h)) less) c.loop-place.invariant.after;
    }

pub returns-clause-place : goal.returns-clause-place
returns-clause-place c f e =
    let all = c.args.late.now.items in
    let at : c.loop-place.place ≡ 0 = omega (arith, c.loop-place-test.false) in
    insert_first f all (above_frame f c.args.key all e (subst (λ (n : ℕ). AreAbove c.args.key (drop n all)) at c.loop-place.invariant.after))
