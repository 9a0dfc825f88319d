use Rattle.std.proofs.Common.{◌≡◌, ◌<◌, ◌∷◌, [], ℕ, List, length, get_or, slice_get, take, Some, sym, ap, subst, ◌∙◌, arith}
use Rattle.frame_batch.specs.Batch.{BatchState, record_frame}
use Rattle.frame_batch.specs.Round.{IsBlockAt}
use Rattle.frame_batch.specs.declared.frame_record.FrameRecord.{FrameRecord}
use Rattle.frame_batch.specs.declared.cursor.QueueCursor.{QueueCursor}
use Rattle.frame_batch.specs.Cursor.{cursor_left}
use Rattle.frame_batch.proofs.Queues.{among_here, count_here, first_left, frame_here, is_among, item_here, joined, next_batch, next_left, some_there, take_first}
use Rattle.frame_batch.proofs.cursor.QueueCursor.copy_first.Goals as goal

here : (c : QueueCursor) (b : BatchState) → 0 < length (cursor_left c) → b ≡ get_or c.batches.now.items c.batch b → slice_get c.batches.now.items c.batch ≡ Some b
here c b some e = item_here c.batches.now.items c.batch b (some_there c.batches.now.items c.batch c.at some) e

pub place_block-requires : goal.place_block-requires
place_block-requires c =
    let self = c.args.self.now in
    among_here c.args.draft.now.blocks self.batches.now.items self.batch c.index-batch.result.now self.block
    (here self c.index-batch.result.now c.requires.some c.index-batch.ensures) c.requires.among

pub entry-requires : goal.entry-requires
entry-requires c =
    let self = c.args.self.now in
    let b = c.index-batch.result.now in
    let size = count_here self.batches.now.items self.batch b (here self b c.requires.some c.index-batch.ensures) in
    omega (arith, self.within, size, c.count-count.ensures.some, c.count-count.ensures.count)

pub returns-then-self-count-clause-left : goal.returns-then-self-count-clause-left
returns-then-self-count-clause-left c = next_left c.args.self.now.batches.now.items c.args.self.now.batch c.args.self.now.at

pub returns-else-self-count-clause-left : goal.returns-else-self-count-clause-left
returns-else-self-count-clause-left c =
    let self = c.args.self.now in
    let b = c.index-batch.result.now in
    let there = here self b c.requires.some c.index-batch.ensures in
    let size = count_here self.batches.now.items self.batch b there in
    next_batch self.batches.now.items self.batch self.at b there (omega (arith, self.within, size, c.count-count.ensures.some, c.count-count.ensures.count, c.if-self-count.false))

copied : (c : QueueCursor) (b : BatchState) (r : FrameRecord) (bytes : List ℕ) → slice_get c.batches.now.items c.batch ≡ Some b → slice_get b.left c.at ≡ Some r
    → bytes ≡ b.block → record_frame bytes r ∷ [] ≡ take 1 (cursor_left c)
copied c b r bytes here entry same =
    ap (λ (l : List ℕ). record_frame l r ∷ []) same
    ∙ sym (take_first (cursor_left c) (record_frame b.block r) (first_left c.batches.now.items c.batch c.at b (record_frame b.block r) here (frame_here b c.at r entry)))

pub returns-then-self-count-clause-frames : goal.returns-then-self-count-clause-frames
returns-then-self-count-clause-frames c =
    let self = c.args.self.now in
    let b = c.index-batch.result.now in
    let one = copied self b c.entry.result.now _ (here self b c.requires.some c.index-batch.ensures) c.entry.ensures.entry c.in_ok-block.ensures.here.1 in
    joined _ _ _ _ _ c.in_ok-add.ensures.frames c.in_ok-block.ensures.frames one

pub returns-else-self-count-clause-frames : goal.returns-else-self-count-clause-frames
returns-else-self-count-clause-frames c =
    let self = c.args.self.now in
    let b = c.index-batch.result.now in
    let one = copied self b c.entry.result.now _ (here self b c.requires.some c.index-batch.ensures) c.entry.ensures.entry c.in_ok-block.ensures.here.1 in
    joined _ _ _ _ _ c.in_ok-add.ensures.frames c.in_ok-block.ensures.frames one

pub returns-then-self-count-clause-among : goal.returns-then-self-count-clause-among
returns-then-self-count-clause-among c =
    let self = c.args.self.now in
    let b = c.index-batch.result.now in
    is_among c.add.new.self.blocks self.batches.now.items self.batch c.in_ok-block.block b (here self b c.requires.some c.index-batch.ensures)
    (subst (λ (l : List (List ℕ)). IsBlockAt l c.in_ok-block.block b.block) (sym c.in_ok-add.ensures.blocks) c.in_ok-block.ensures.here)

pub invariant_of-self : goal.invariant_of-self
invariant_of-self c =
    let self = c.args.self.now in
    let b = c.index-batch.result.now in
    let size = count_here self.batches.now.items self.batch b (here self b c.requires.some c.index-batch.ensures) in
    record {
      within = omega (arith, size, c.count-count.ensures.count, c.if-self-count.true);
      bounded = self.bounded;
    }
