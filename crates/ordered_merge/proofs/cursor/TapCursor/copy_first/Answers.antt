use Rattle.std.proofs.Common.{◌≡◌, ◌++◌, ◌∷◌, [], ◌∙◌, ℕ, List, Some, slice_get, length, ◌<◌, ap, drop, subst, sym}
use Rattle.std.proofs.lemmas.List.{drop-drop}
use Rattle.afdx_frame.specs.Frame.{Frame}
use Rattle.frame_batch.specs.Cursor.{IsAmong, cursor_left}
use Rattle.frame_batch.specs.Queue.{IsBlockOf}
use Rattle.frame_batch.specs.Round.{draft_frames}
use Rattle.frame_batch.specs.declared.cursor.QueueCursor.{QueueCursor}
use Rattle.ordered_merge.specs.Cursor.{late_left, tap_left}
use Rattle.ordered_merge.specs.Order.{IsRising, insert_frames}
use Rattle.ordered_merge.specs.declared.cursor.TapCursor.{TapCursor}
use Rattle.ordered_merge.proofs.Buffers.{among_more, first_dropped, late_there, only_one, rising_drop, same_one}
use Rattle.ordered_merge.proofs.Rising.{leading_first, leading_rest, other_first, other_rest}
use Rattle.ordered_merge.proofs.cursor.TapCursor.copy_first.Goals as goal

-- all that is left at a cursor of this queue and these late frames
left_at : (c : TapCursor) (queue : QueueCursor) (late : List Frame) → c.queue ≡ queue → late_left c ≡ late → tap_left c ≡ insert_frames late (cursor_left queue)
left_at c queue late q l =
    ap (λ (k : QueueCursor). insert_frames (late_left c) (cursor_left k)) q
    ∙ ap (λ (ls : List Frame). insert_frames ls (cursor_left queue)) l

pub returns-then-not-self-clause-frames : goal.returns-then-not-self-clause-frames
returns-then-not-self-clause-frames c =
    let self = c.args.self.now in
    c.in_ok-copy_first.ensures.frames
    ∙ ap (λ (l : List Frame). draft_frames c.args.draft.now ++ l)
    (same_one (cursor_left self.queue) (tap_left self) (other_first (late_left self) (cursor_left self.queue) c.requires.can.late_rises (sym self.late_leads ∙ c.if-not-self.true)))

pub returns-then-not-self-clause-left : goal.returns-then-not-self-clause-left
returns-then-not-self-clause-left c =
    let self = c.args.self.now in
    left_at c.at.result c.copy_first.new.self (late_left self) c.at.ensures.queue c.at.ensures.late
    ∙ ap (insert_frames (late_left self)) c.in_ok-copy_first.ensures.left
    ∙ other_rest (late_left self) (cursor_left self.queue) c.requires.can.late_rises (sym self.late_leads ∙ c.if-not-self.true)

pub returns-then-not-self-clause-can : goal.returns-then-not-self-clause-can
returns-then-not-self-clause-can c =
    let self = c.args.self.now in
    let left = left_at c.at.result c.copy_first.new.self (late_left self) c.at.ensures.queue c.at.ensures.late
    ∙ ap (insert_frames (late_left self)) c.in_ok-copy_first.ensures.left
    ∙ other_rest (late_left self) (cursor_left self.queue) c.requires.can.late_rises (sym self.late_leads ∙ c.if-not-self.true) in
    let queue = ap cursor_left c.at.ensures.queue ∙ c.in_ok-copy_first.ensures.left in
    record {
      queue_rises = subst IsRising (sym queue) (rising_drop (cursor_left self.queue) c.requires.can.queue_rises);
      late_rises = subst IsRising (sym c.at.ensures.late) c.requires.can.late_rises;
      rises = subst IsRising (sym left) (rising_drop (tap_left self) c.requires.can.rises);
      among = subst (λ (k : QueueCursor). IsAmong k c.copy_first.new.draft.blocks) (sym c.at.ensures.queue) c.in_ok-copy_first.ensures.among;
    }

pub returns-clause-frames : goal.returns-clause-frames
returns-clause-frames c =
    let self = c.args.self.now in
    let leads = sym self.late_leads ∙ c.if-not-self.false in
    let first = leading_first (late_left self) (cursor_left self.queue) c.requires.can.late_rises c.requires.can.queue_rises leads in
    let late = c.index.result.now in
    let within : self.passed < length self.late.now.items = late_there self.late.now.items (cursor_left self.queue) self.passed leads in
    let here : slice_get (late_left self) 0 ≡ Some late = first_dropped self.late.now.items self.passed late within c.index.ensures in
    c.in_ok-add_frame.ensures.frames
    ∙ ap (λ (f : Frame). draft_frames c.args.draft.now ++ f ∷ []) c.in_ok-share.ensures
    ∙ ap (λ (l : List Frame). draft_frames c.args.draft.now ++ l) (sym (only_one (tap_left self) late (sym first ∙ here)))

pub returns-clause-left : goal.returns-clause-left
returns-clause-left c =
    let self = c.args.self.now in
    left_at c.at-2.result self.queue (drop 1 (late_left self)) c.at-2.ensures.queue (c.at-2.ensures.late ∙ sym (drop-drop 1 self.passed self.late.now.items))
    ∙ leading_rest (late_left self) (cursor_left self.queue) c.requires.can.late_rises c.requires.can.queue_rises (sym self.late_leads ∙ c.if-not-self.false)

pub returns-clause-can : goal.returns-clause-can
returns-clause-can c =
    let self = c.args.self.now in
    let next = c.at-2.ensures.late ∙ sym (drop-drop 1 self.passed self.late.now.items) in
    let left = left_at c.at-2.result self.queue (drop 1 (late_left self)) c.at-2.ensures.queue next
    ∙ leading_rest (late_left self) (cursor_left self.queue) c.requires.can.late_rises c.requires.can.queue_rises (sym self.late_leads ∙ c.if-not-self.false) in
    record {
      queue_rises = subst (λ (k : QueueCursor). IsRising (cursor_left k)) (sym c.at-2.ensures.queue) c.requires.can.queue_rises;
      late_rises = subst IsRising (sym next) (rising_drop (late_left self) c.requires.can.late_rises);
      rises = subst IsRising (sym left) (rising_drop (tap_left self) c.requires.can.rises);
      among = subst (λ (k : QueueCursor). IsAmong k c.add_frame.new.self.blocks) (sym c.at-2.ensures.queue)
          (subst (λ (b : List (List ℕ)). IsBlockOf b self.queue.batches.now.items self.queue.batch self.queue.block) (sym c.in_ok-add_frame.ensures.blocks.1)
          (among_more c.args.draft.now.blocks c.in_ok-add_frame.ensures.blocks.0 self.queue.batches.now.items self.queue.batch self.queue.block c.requires.can.among));
    }
