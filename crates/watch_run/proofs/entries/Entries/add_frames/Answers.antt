use Rattle.std.proofs.Common.{◌∙◌, ◌++◌, ◌<◌, ◌∷◌, ℕ, List, [], Option, length, map, take, ap, sym, arith}
use Rattle.std.proofs.lemmas.List.{length-map, length-take-le, map-append}
use Rattle.filter_workers.specs.Filters.{mask_by}
use Rattle.watch_run.specs.Filters.{keep_by, making_of}
use Rattle.watch_run.proofs.Rounds.{taken_next}
use Rattle.watch_run.proofs.Writing.{packet_added}
use Rattle.watch_run.proofs.entries.Entries.add_frames.Goals as goal

pub loop-index-preserved : goal.loop-index-preserved
loop-index-preserved c =
    let fs = c.args.frames.now in
    let vs = c.args.verdicts.now in
    let filters = c.args.plan.now.programs.now in
    let n = c.loop-index.index in
    let f = c.frame.result in
    let v = c.index-verdicts-index.result in
    let within : n < length fs = omega (arith, c.loop-index-test.true, c.len-index-end.ensures) in
    let before = c.loop-index.invariant in
    let added = c.in_ok-add_frame.ensures in
    let front = taken_next fs n f within c.frame.ensures in
    let said = taken_next vs n v (omega (arith, within, c.requires.verdicts)) c.index-verdicts-index.is in
    let size = length-take-le n fs (omega (arith, within)) in
    let judged = length-take-le n vs (omega (arith, within, c.requires.verdicts)) ∙ sym size in
    let kept = ap length before.keeps ∙ length-map (take n fs) (keep_by filters) in
    let masked = ap length before.masks ∙ length-map (take n fs) (mask_by filters) in
    record {
      keeps = added.keeps ∙ ap (λ (l : List (Option ℕ)). l ++ keep_by filters f ∷ []) before.keeps
          ∙ sym (map-append (keep_by filters) (take n fs) (f ∷ [])) ∙ ap (map (keep_by filters)) front;
      masks = added.masks ∙ ap (λ (l : List ℕ). l ++ mask_by filters f ∷ []) before.masks
          ∙ sym (map-append (mask_by filters) (take n fs) (f ∷ [])) ∙ ap (map (mask_by filters)) front;
      packets = added.packets
          ∙ (rw (front, said, sym added.keeps, sym added.masks) at (packet_added (making_of c.args.plan.now).format (take n fs) (take n vs) _ _ _ f v
          (keep_by filters f) (mask_by filters f) judged kept masked before.packets));
      lines = added.lines ∙ before.lines;
    }
