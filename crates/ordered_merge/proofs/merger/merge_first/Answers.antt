use Rattle.std.proofs.Common.{◌≡◌, ◌+◌, ◌-◌, ◌<◌, ◌++◌, ◌∙◌, ℕ, List, drop, length, take, ap, sym, arith}
use Rattle.std.proofs.lemmas.List.{drop-drop}
use Rattle.afdx_frame.specs.Frame.{Frame}
use Rattle.frame_batch.specs.Round.{draft_frames}
use Rattle.ordered_merge.specs.Cursor.{tap_left}
use Rattle.ordered_merge.specs.Order.{insert_frames}
use Rattle.ordered_merge.proofs.Buffers.{take_one_more}
use Rattle.ordered_merge.proofs.merger.merge_first.Goals as goal

pub loop-preserved : goal.loop-preserved
loop-preserved c =
    let inv = c.loop.invariant in
    let one = c.in_ok-of_a.ensures in
    let n = c.loop.counter in
    let all = insert_frames c.args.b.now.frames c.args.a.now.frames in
    let (of_a, more) : ℕ × ℕ = (c.loop.of_a, c.in_ok-of_a.field-0) in
    let within : n < length all = omega (arith, c.loop-test.true, c.requires) in
    let at : n - of_a + (1 - more) ≡ n + 1 - (of_a + more) = omega (arith, one.few, inv.few) in
    record {
      frames = one.frames ∙ ap (λ (l : List Frame). draft_frames c.loop.draft ++ take 1 l) inv.rest
          ∙ ap (λ (l : List Frame). l ++ take 1 (drop n all)) inv.frames ∙ take_one_more all n within;
      rest = one.rest ∙ ap (drop 1) inv.rest ∙ drop-drop 1 n all;
      left_a = one.left_a ∙ ap (drop more) inv.left_a ∙ drop-drop more of_a c.args.a.now.frames;
      left_b = one.left_b ∙ ap (drop (1 - more)) inv.left_b ∙ drop-drop (1 - more) (n - of_a) c.args.b.now.frames ∙ ap (λ (k : ℕ). drop k c.args.b.now.frames) at;
      few = omega (arith, one.few, inv.few);
      can_a = one.can_a;
      can_b = one.can_b;
    }

pub returns-clause-rest : goal.returns-clause-rest
returns-clause-rest c =
    let inv = c.loop.invariant in
    let (a, b) : List Frame × List Frame = (c.args.a.now.frames, c.args.b.now.frames) in
    let at : c.loop.counter ≡ c.args.count = omega (arith, c.loop-test.false, c.loop.auto.counter-end) in
    ap (λ (n : ℕ). insert_frames (drop (n - c.loop.of_a) b) (drop c.loop.of_a a)) (sym at)
    ∙ ap (λ (l : List Frame). insert_frames l (drop c.loop.of_a a)) (sym inv.left_b) ∙ ap (insert_frames (tap_left c.loop.b)) (sym inv.left_a)
    ∙ inv.rest ∙ ap (λ (n : ℕ). drop n (insert_frames b a)) at
