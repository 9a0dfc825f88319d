use Rattle.std.proofs.Common.{◌≡◌, ◌+◌, ◌++◌, ◌∷◌, [], ◌∙◌, ℕ, List, Some, append_assoc, drop, take, slice_get, subst, sym, ap, arith}
use Rattle.std.proofs.lemmas.List.{length-map, take_all, take_more, take-append-drop}
use Rattle.std.proofs.lemmas.Bool.{false≢true}
use Rattle.std.proofs.lemmas.Option.{get_or_from_slice_get, slice_get_within}
use Rattle.afdx_frame.specs.Frame.{Frame}
use Rattle.frame_batch.specs.Batch.{batch_frames, record_frame}
use Rattle.tap_queue.specs.Passing.{PassesAll}
use Rattle.tap_queue.proofs.Taken.{passes_more, passes_none, refuses_all}
use Rattle.tap_queue.proofs.next_frame.NextFrame.pass_all.Goals as goal

-- the frames up to one of an index
up_to : (all : List Frame) (i : ℕ) (f : Frame) → slice_get all i ≡ Some f → take (i + 1) all ≡ take i all ++ f ∷ []
up_to all i f is = take_more all i f (slice_get_within all i f is) ∙ ap (λ (g : Frame). take i all ++ g ∷ []) (get_or_from_slice_get all i f f is)

pub loop-index-init : goal.loop-index-init
loop-index-init c = record {
  passes = λ before counted highest. passes_none before c.args.self.now counted highest;
  bounded = λ h. h;
}

pub loop-index-preserved : goal.loop-index-preserved
loop-index-preserved c =
    let all = batch_frames c.args.frames.now in
    let i = c.loop-index.index in
    let f = c.frame.result in
    record {
      passes = λ before counted highest.
          passes_more before (take i all) (take (i + 1) all) f c.args.self.now c.loop-index.next c.pass.new.self (up_to all i f c.frame.ensures)
          (c.loop-index.invariant.passes before counted highest) (c.pass.ensures.next.0 c.if-not-pass.false) (c.pass.ensures.passed c.if-not-pass.false);
      bounded = λ _. c.pass.ensures.bounded c.if-not-pass.false;
    }

pub returns-then-not-pass-clause-refused : goal.returns-then-not-pass-clause-refused
returns-then-not-pass-clause-refused c = λ _ before counted highest.
    (let all = batch_frames c.args.frames.now in
    let i = c.loop-index.index in
    let f = c.frame.result in
    let split = sym (take-append-drop (i + 1) all) ∙ ap (λ (l : List Frame). l ++ drop (i + 1) all) (up_to all i f c.frame.ensures)
    ∙ append_assoc (take i all) (f ∷ []) (drop (i + 1) all) in
    refuses_all before all (take i all) (drop (i + 1) all) f c.args.self.now c.loop-index.next split (c.loop-index.invariant.passes before counted highest)
    (λ follows. false≢true (sym c.if-not-pass.true ∙ c.pass.ensures.next.1 follows)))

pub returns-clause-next : goal.returns-clause-next
returns-clause-next c = λ _ before counted highest.
    (let b = c.args.frames.now in
    let all = batch_frames b in
    let whole : take c.loop-index.index all ≡ all =
    take_all c.loop-index.index all (omega (arith, c.loop-index-test.false, c.count-index-end.ensures.count, length-map b.left (record_frame b.block))) in
    subst (λ (l : List Frame). PassesAll before l c.args.self.now c.loop-index.next) whole (c.loop-index.invariant.passes before counted highest))
