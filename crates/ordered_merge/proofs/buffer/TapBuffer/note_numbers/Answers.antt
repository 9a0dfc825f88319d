use Rattle.std.proofs.Common.{◌<◌, subst}
use Rattle.std.specs.List.{AllByRecursion}
use Rattle.ordered_merge.specs.Buffer.{BufferState}
use Rattle.ordered_merge.proofs.Buffers.{buffered_numbers}
use Rattle.ordered_merge.proofs.buffer.TapBuffer.note_numbers.Goals as goal

pub returns : goal.returns
returns c =
    subst (λ (s : BufferState). AllByRecursion (λ f. f.number < s.tap.next) s.frames) c.self.view_is
    (buffered_numbers c.self.inside.queue c.self.inside.late.items c.self.inside.next c.self.invariant)
