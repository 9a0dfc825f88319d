use Rattle.std.proofs.Common.{◌≡◌, ◌++◌, ◌∙◌, ℕ, List, ap, refl, subst, sym, arith}
use Rattle.afdx_frame.specs.Frame.{Frame}
use Rattle.frame_batch.specs.Queue.{IsBlockOf}
use Rattle.frame_batch.specs.Round.{DraftState, draft_frames}
use Rattle.ordered_merge.specs.Copying.{both_left}
use Rattle.ordered_merge.specs.Cursor.{CanCopy, tap_left}
use Rattle.ordered_merge.specs.Order.{insert_frames}
use Rattle.ordered_merge.specs.declared.cursor.TapCursor.{TapCursor}
use Rattle.ordered_merge.proofs.Buffers.{among_more, same_one}
use Rattle.ordered_merge.proofs.Rising.{leading_first, leading_rest, other_first, other_rest}
use Rattle.ordered_merge.proofs.merger.copy_next.Goals as goal

still : (c : TapCursor) (old new : DraftState) (more : List (List ℕ)) → new.blocks ≡ old.blocks ++ more → CanCopy c old → CanCopy c new
still c old new more e can = record {
  queue_rises = can.queue_rises;
  late_rises = can.late_rises;
  rises = can.rises;
  among = subst (λ (b : List (List ℕ)). IsBlockOf b c.queue.batches.now.items c.queue.batch c.queue.block) (sym e)
      (among_more old.blocks more c.queue.batches.now.items c.queue.batch c.queue.block can.among);
}

pub returns-then-leads : goal.returns-then-leads
returns-then-leads c =
    let a = c.args.a.now in
    let b = c.args.b.now in
    let leads = sym c.leads.ensures ∙ c.if-leads.true in
    record {
      frames = c.in_ok-copy_first.ensures.frames
          ∙ ap (λ (l : List Frame). draft_frames c.args.draft.now ++ l)
          (same_one (tap_left b) (both_left a b) (leading_first (tap_left b) (tap_left a) c.requires.of_b.rises c.requires.of_a.rises leads));
      rest = ap (λ (l : List Frame). insert_frames l (tap_left a)) c.in_ok-copy_first.ensures.left
          ∙ leading_rest (tap_left b) (tap_left a) c.requires.of_b.rises c.requires.of_a.rises leads;
      left_a = refl;
      left_b = c.in_ok-copy_first.ensures.left;
      few = omega arith;
      can_a = still a c.args.draft.now c.copy_first.new.draft c.in_ok-copy_first.ensures.blocks.0 c.in_ok-copy_first.ensures.blocks.1 c.requires.of_a;
      can_b = c.in_ok-copy_first.ensures.can;
    }

pub returns : goal.returns
returns c =
    let a = c.args.a.now in
    let b = c.args.b.now in
    let other = sym c.leads.ensures ∙ c.if-leads.false in
    record {
      frames = c.in_ok-copy_first-2.ensures.frames
          ∙ ap (λ (l : List Frame). draft_frames c.args.draft.now ++ l)
          (same_one (tap_left a) (both_left a b) (other_first (tap_left b) (tap_left a) c.requires.of_b.rises other));
      rest = ap (insert_frames (tap_left b)) c.in_ok-copy_first-2.ensures.left ∙ other_rest (tap_left b) (tap_left a) c.requires.of_b.rises other;
      left_a = c.in_ok-copy_first-2.ensures.left;
      left_b = refl;
      few = omega arith;
      can_a = c.in_ok-copy_first-2.ensures.can;
      can_b = still b c.args.draft.now c.copy_first-2.new.draft c.in_ok-copy_first-2.ensures.blocks.0 c.in_ok-copy_first-2.ensures.blocks.1 c.requires.of_b;
    }
