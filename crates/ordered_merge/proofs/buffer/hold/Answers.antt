use Rattle.std.proofs.Common.{sym, ◌∙◌}
use Rattle.ordered_merge.proofs.Buffers.{in_order, late_buffer, late_frames, queued_buffer, queued_frames}
use Rattle.ordered_merge.proofs.buffer.hold.Goals as goal

pub returns-then-is_late-clause-buffer : goal.returns-then-is_late-clause-buffer
returns-then-is_late-clause-buffer c =
    rw c.in_ok-hold_late.ensures.put (late_buffer c.args.queue.now c.args.late.now.items c.args.frame c.requires.fits c.requires.buffer)

pub returns-then-is_late-clause-frames : goal.returns-then-is_late-clause-frames
returns-then-is_late-clause-frames c =
    rw c.in_ok-hold_late.ensures.put (late_frames c.args.queue.now c.args.late.now.items c.args.frame c.requires.buffer)

pub returns-clause-buffer : goal.returns-clause-buffer
returns-clause-buffer c =
    rw c.in_ok-enqueue.ensures.added
    (queued_buffer c.args.queue.now c.args.late.now.items c.args.frame c.requires.fits c.requires.buffer
    (in_order c.args.queue.now c.args.frame c.requires.buffer.queue_rises c.requires.buffer.queue_kept
    (sym (c.is_late.ensures c.args.frame (sym c.key.ensures)) ∙ c.if-is_late.false)))

pub returns-clause-frames : goal.returns-clause-frames
returns-clause-frames c =
    rw c.in_ok-enqueue.ensures.added
    (queued_frames c.args.queue.now c.args.late.now.items c.args.frame c.requires.buffer
    (in_order c.args.queue.now c.args.frame c.requires.buffer.queue_rises c.requires.buffer.queue_kept
    (sym (c.is_late.ensures c.args.frame (sym c.key.ensures)) ∙ c.if-is_late.false)))
