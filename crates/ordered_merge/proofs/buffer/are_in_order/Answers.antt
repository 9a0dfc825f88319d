use Rattle.std.proofs.Common.{◌≡◌, ◌+◌, ◌-◌, ◌<◌, ◌^◌, ◌∷◌, [], ◌∙◌, ℕ, List, get_or, length, slice_get, subst, sym, ap, take, arith}
use Rattle.std.proofs.Math.Seq.{take-length}
use Rattle.std.proofs.lemmas.List.{length-map}
use Rattle.std.proofs.lemmas.Option.{get_or_from_slice_get, slice_get_within}
use Rattle.std.specs.List.{AllByRecursion}
use Rattle.std.specs.Ordering.{is_lt}
use Rattle.afdx_frame.specs.Frame.{Frame, key_cmp, key_of}
use Rattle.afdx_frame.specs.declared.key.Key.{Key}
use Rattle.frame_batch.specs.Batch.{batch_frames, record_frame}
use Rattle.ordered_merge.specs.Buffer.{AreInOrder}
use Rattle.ordered_merge.proofs.Buffers.{each_first, in_order_first, in_order_next, take_next}
use Rattle.ordered_merge.proofs.Rising.{each_append}
use Rattle.ordered_merge.proofs.buffer.are_in_order.Goals as goal

pub loop-index-init : goal.loop-index-init
loop-index-init c =
    let bounds = c.stamp-fits.ensures.bounds in
    record {
      order = in_order_first (batch_frames c.args.batch.now);
      fit = each_first (λ (x : Frame). x.stamp < 2 ^ 63) (batch_frames c.args.batch.now) c.first-last.result c.first-last.ensures (omega (arith, bounds.stamp_fits));
      before = c.first-last.ensures;
    }

pub loop-index-preserved : goal.loop-index-preserved
loop-index-preserved c =
    let all = batch_frames c.args.batch.now in
    let i = c.loop-index.index in
    let f = c.loop-index.last in
    let g = c.frame-frame.result in
    let some : 0 < i = omega (arith, c.loop-index.auto.index) in
    let within : i < length all = slice_get_within all i g c.frame-frame.ensures in
    let bounds = c.stamp-fits-in-loop-index.ensures.bounds in
    let fits : g.stamp < 2 ^ 63 = omega (arith, bounds.stamp_fits) in
    let before : f ≡ get_or all (i - 1) f = sym (get_or_from_slice_get all (i - 1) f f c.loop-index.invariant.before) in
    let here : g ≡ get_or all i g = sym (get_or_from_slice_get all i g g c.frame-frame.ensures) in
    let keys = ap (λ (k : Key). is_lt (key_cmp k c.key-in-loop-index.result)) c.key.ensures ∙ ap (λ (k : Key). is_lt (key_cmp (key_of g) k)) c.key-in-loop-index.ensures in
    let at : i + 1 - 1 ≡ i = omega arith in
    record {
      order = in_order_next all i f g some within before here (sym (c.comes_before.ensures ∙ keys) ∙ c.if-comes_before.false) c.loop-index.invariant.order;
      fit = subst (λ (l : List Frame). AllByRecursion (λ (x : Frame). x.stamp < 2 ^ 63) l) (sym (take_next all i g within here))
          (each_append (λ (x : Frame). x.stamp < 2 ^ 63) (take i all) (g ∷ []) c.loop-index.invariant.fit (fits, tt));
      before = ap (slice_get all) at ∙ c.frame-frame.ensures;
    }

whole : (c : goal.After-loop-index) → take c.loop-index.index (batch_frames c.args.batch.now) ≡ batch_frames c.args.batch.now
whole c =
    let all = batch_frames c.args.batch.now in
    let size = length-map c.args.batch.now.left (record_frame c.args.batch.now.block) in
    let at : c.loop-index.index ≡ length all = omega (arith, size, c.loop-index-test.false, c.loop-index.auto.index-end, c.count-index-end.ensures.count, c.count-index-end.ensures.some) in
    ap (λ (n : ℕ). take n all) at ∙ take-length all

pub returns-clause-order : goal.returns-clause-order
returns-clause-order c _ = subst AreInOrder (whole c) c.loop-index.invariant.order

pub returns-clause-fit : goal.returns-clause-fit
returns-clause-fit c _ = subst (AllByRecursion (λ (x : Frame). x.stamp < 2 ^ 63)) (whole c) c.loop-index.invariant.fit
