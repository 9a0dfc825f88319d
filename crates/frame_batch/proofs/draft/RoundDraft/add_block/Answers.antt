use Rattle.std.proofs.Common.{ℕ, List, [], ◌∷◌, map, sym, ap, ◌∙◌, subst}
use Rattle.std.proofs.lemmas.List.{map-append}
use Rattle.std.specs.List.{AllByRecursion}
use Rattle.afdx_frame.specs.FrameBytes.{block_bytes}
use Rattle.frame_batch.specs.Round.{IsPlaced}
use Rattle.frame_batch.proofs.Drafts.{still_placed, same_frames}
use Rattle.frame_batch.proofs.draft.RoundDraft.add_block.Goals as goal

pub invariant_of-self-2 : goal.invariant_of-self-2
invariant_of-self-2 c =
    let more = ap (map block_bytes) c.in_ok-push.ensures.items ∙ map-append block_bytes c.self.inside.blocks.items (c.args.block ∷ []) in
    subst (λ (bs : List (List ℕ)). AllByRecursion (IsPlaced bs) c.self.inside.places.items) (sym more)
    (still_placed (map block_bytes c.self.inside.blocks.items) (block_bytes c.args.block ∷ []) c.self.inside.places.items c.self.invariant)

pub returns-clause-frames : goal.returns-clause-frames
returns-clause-frames c =
    let more = ap (map block_bytes) c.in_ok-push.ensures.items ∙ map-append block_bytes c.self.inside.blocks.items (c.args.block ∷ []) in
    rw (more, ← c.self.view_is) (same_frames (map block_bytes c.self.inside.blocks.items) (block_bytes c.args.block ∷ []) c.self.inside.places.items c.self.invariant)
