use Rattle.std.proofs.Common.{List, map, slice_range, ap, ◌∙◌}
use Rattle.afdx_frame.specs.FrameBytes.{block_bytes}
use Rattle.frame_batch.specs.Round.{DraftState, draft_frames, placed_frame}
use Rattle.frame_batch.specs.declared.draft.Placed.{Placed}
use Rattle.frame_batch.proofs.Drafts.{map_range}
use Rattle.frame_batch.proofs.draft.RoundDraft.part.Goals as goal

pub returns : goal.returns
returns c =
    map_range (placed_frame (map block_bytes c.as_slice-blocks.result.now)) c.as_slice-places.result.now c.args.from c.args.to
    ∙ ap (λ (l : List _). slice_range (map (placed_frame (map block_bytes l)) c.as_slice-places.result.now) c.args.from c.args.to) c.as_slice-blocks.ensures.value
    ∙ ap (λ (l : List Placed). slice_range (map (placed_frame (map block_bytes c.self.inside.blocks.items)) l) c.args.from c.args.to) c.as_slice-places.ensures.value
    ∙ ap (λ (d : DraftState). slice_range (draft_frames d) c.args.from c.args.to) c.self.view_is
