use Rattle.std.proofs.Common.{◌≡◌, ◌≤◌, ◌++◌, ◌∷◌, [], ◌∙◌, List, length, drop, ap, append_assoc, subst, sym, arith}
use Rattle.std.proofs.lemmas.List.{append-nil, drop-map, length-map}
use Rattle.afdx_frame.specs.Frame.{Frame}
use Rattle.frame_batch.specs.Batch.{batch_frames, record_frame}
use Rattle.ordered_merge.specs.Buffer.{AreNumbered, BufferState, pushed}
use Rattle.ordered_merge.proofs.Buffers.{first_and_rest, only_first, pushed_all_more}
use Rattle.ordered_merge.proofs.buffer.TapBuffer.push_each.Goals as goal

pub loop-self-preserved : goal.loop-self-preserved
loop-self-preserved c =
    let inv = c.loop-self.invariant in
    let b = c.loop-self.batch in
    let (f, first, is) = c.in-Ok.ensures.ok in
    let next : batch_frames c.skip.new.self ≡ drop 1 (batch_frames b) = ap batch_frames c.skip.ensures ∙ sym (drop-map (record_frame b.block) 1 b.left) in
    let here = first_and_rest (batch_frames b) f first ∙ ap (λ (l : List Frame). f ∷ l) (sym next) in
    let numbered = subst (AreNumbered c.loop-self.self.tap.next) here inv.numbered in
    record {
      moved = inv.moved ++ f ∷ [];
      all = inv.all ∙ ap (λ (l : List Frame). inv.moved ++ l) here ∙ sym (append_assoc inv.moved (f ∷ []) (batch_frames c.skip.new.self));
      is = is ∙ ap (λ (s : BufferState). pushed s f) inv.is ∙ sym (pushed_all_more c.args.self.now inv.moved f);
      numbered = subst (λ (s : BufferState). AreNumbered s.tap.next (batch_frames c.skip.new.self)) (sym is) numbered.1;
    }

pub returns-in-Ok-push_first : goal.returns-in-Ok-push_first
returns-in-Ok-push_first c =
    let inv = c.loop-self.invariant in
    let b = c.loop-self.batch in
    let (f, first, is) = c.in-Ok-push_first.ensures.ok in
    let few : length (batch_frames b) ≤ 1 = omega (arith, length-map b.left (record_frame b.block), c.loop-self-test.false, c.count.ensures.count) in
    let here = only_first (batch_frames b) f first few in (
      inv.moved ++ f ∷ [],
      inv.all ∙ ap (λ (l : List Frame). inv.moved ++ l) here ∙ sym (append-nil (inv.moved ++ f ∷ [])),
      is ∙ ap (λ (s : BufferState). pushed s f) inv.is ∙ sym (pushed_all_more c.args.self.now inv.moved f),
    )
