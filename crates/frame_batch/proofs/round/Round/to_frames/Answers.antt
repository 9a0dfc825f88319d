use Rattle.std.proofs.Common.{◌∷◌, [], ◌++◌, List, sym, ap, ◌∙◌, take}
use Rattle.std.proofs.lemmas.List.{take_more}
use Rattle.std.proofs.lemmas.Option.{get_or_from_slice_get, slice_get_within}
use Rattle.afdx_frame.specs.Frame.{Frame}
use Rattle.frame_batch.proofs.round.Round.to_frames.Goals as goal

pub loop-index-preserved : goal.loop-index-preserved
loop-index-preserved c =
    let all = c.args.self.now in
    let i = c.loop-index.index in
    let f = c.in_ok-owned.field-0 in
    let here = c.in_ok-owned.ensures in
    c.in_ok-push.ensures.items ∙ ap (λ (l : List Frame). l ++ f ∷ []) c.loop-index.invariant
    ∙ sym (take_more all i f (slice_get_within all i f here) ∙ ap (λ (x : Frame). take i all ++ x ∷ []) (get_or_from_slice_get all i f f here))
