use Rattle.std.proofs.Common.{◌≡◌, ℕ, List, length, slice_get, sym, ap, ◌-◌, ◌∙◌, arith}
use Rattle.afdx_frame.specs.Frame.{Frame}
use Rattle.frame_batch.proofs.Queues.{back_of, item_here}
use Rattle.frame_batch.proofs.queue.FrameQueue.back.Goals as goal

pub returns-in_default : goal.returns-in_default
returns-in_default c =
    let all = c.self.inside.batches.items in
    let size : length all ≡ c.len.result = omega (arith, c.len.ensures) in
    let here = ap (λ (n : ℕ). slice_get all (n - 1)) size ∙ item_here all (c.len.result - 1) c.index.result.now (omega (arith, c.len.ensures)) c.index.ensures in
    sym (back_of all c.index.result.now _ here c.last.ensures) ∙ ap (λ (l : List Frame). slice_get l (length l - 1)) c.self.view_is
