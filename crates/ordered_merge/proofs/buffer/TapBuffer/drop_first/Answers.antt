use Rattle.std.proofs.Common.{◌≡◌, ◌∙◌, ℕ, List, ap, drop, sym, arith}
use Rattle.std.proofs.lemmas.Bool.{eqb-true}
use Rattle.std.proofs.lemmas.List.{drop-drop, nil_from_length}
use Rattle.afdx_frame.specs.Frame.{Frame}
use Rattle.ordered_merge.specs.Buffer.{BufferState}
use Rattle.ordered_merge.proofs.Buffers.{queue_skipped}
use Rattle.ordered_merge.proofs.buffer.TapBuffer.drop_first.Goals as goal

pub invariant_of-self : goal.invariant_of-self
invariant_of-self c =
    let late = c.self.inside.late in
    let none = nil_from_length late.items (sym late.ok.0 ∙ eqb-true late.len 0 (sym c.is_empty.ensures ∙ c.if-is_empty.true)) in
    rw c.skip.ensures (queue_skipped c.args.count c.self.inside.queue c.self.inside.late.items c.self.inside.next none c.self.invariant)

pub loop-preserved : goal.loop-preserved
loop-preserved c =
    c.drop_one.ensures ∙ ap (λ (s : BufferState). record s { frames = drop 1 s.frames }) c.loop.invariant
    ∙ ap (λ (l : List Frame). record c.args.self.now { frames = l }) (drop-drop 1 c.loop.counter c.args.self.now.frames)

pub returns : goal.returns
returns c =
    let at : c.loop.counter ≡ c.args.count = omega (arith, c.loop-test.false, c.loop.auto.counter-end) in
    c.loop.invariant ∙ ap (λ (n : ℕ). record c.args.self.now { frames = drop n c.args.self.now.frames }) at
