use Rattle.std.proofs.Common.{◌≡◌, ℕ, ◌+◌, Some, true, take, sym, ap, ◌∙◌, subst}
use Rattle.std.proofs.lemmas.Bool.{false≢true}
use Rattle.ordered_merge.specs.Merge.{AreOfTap, highest, new_tap}
use Rattle.specified.specs.Recording.{tap_at}
use Rattle.specified.proofs.Recordings.{recording_more, recording_stops}
use Rattle.specified.proofs.recording.is_recording.Goals as goal

pub returns-then-not-is_next : goal.returns-then-not-is_next
returns-then-not-is_next c = (
  λ t. absurd (false≢true t),
  λ is. (let next = c.is_next.ensures.1
      (recording_stops c.args.network c.args.late c.loop-frame.next c.loop-frame.high c.args.frames.now c.loop-frame.frame-index c.frame-item.result
      c.loop-frame-test.true c.frame-item.is c.loop-frame.invariant is) in
      let stops = c.if-not-is_next.true in
      cc),
)

pub loop-frame-preserved : goal.loop-frame-preserved
loop-frame-preserved c =
    let is_next : c.is_next.result ≡ true = (let goes = c.if-not-is_next.false in cc) in
    let is = c.is_next.ensures.0 is_next in
    let number : c.loop-frame.next + 1 ≡ c.number-next.result + 1 = ap (λ (n : ℕ). n + 1) (sym (c.number-next.ensures.value ∙ is.1)) in
    let high : highest c.loop-frame.high c.frame-item.result.stamp ≡ c.highest.result =
    ap (highest c.loop-frame.high) (sym c.stamp.ensures.value) ∙ sym c.highest.ensures in
    subst (AreOfTap c.args.network c.args.late new_tap (take (c.loop-frame.frame-index + 1) c.args.frames.now))
    (ap (λ (n : ℕ). tap_at n (Some (highest c.loop-frame.high c.frame-item.result.stamp))) number ∙ ap (λ (h : ℕ). tap_at (c.number-next.result + 1) (Some h)) high)
    (recording_more c.args.network c.args.late c.loop-frame.next c.loop-frame.high c.args.frames.now c.loop-frame.frame-index c.frame-item.result
    c.loop-frame-test.true c.frame-item.is c.loop-frame.invariant is)
