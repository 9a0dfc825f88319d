use Rattle.std.proofs.Common.{◌≡◌, ℕ, ◌+◌, ◌-◌, ◌<◌, ◌++◌, ◌∙◌, [], List, Option, Some, length, get_or, ap, append-nil, subst, sym, arith}
use Rattle.std.proofs.lemmas.Option.{get_or_from_slice_get, slice_get_within}
use Rattle.afdx_frame.specs.Frame.{Frame}
use Rattle.frame_batch.specs.Batch.{batch_frames}
use Rattle.ordered_merge.specs.Merge.{highest}
use Rattle.ordered_merge.specs.Buffer.{AreNumbered, BufferState, IsBuffer, buffered, pushed_all}
use Rattle.ordered_merge.proofs.Buffers.{queued_list}
use Rattle.ordered_merge.proofs.buffer.TapBuffer.push_all.Goals as goal

pub invariant_of-self : goal.invariant_of-self
invariant_of-self c =
    let fs = batch_frames c.args.batch in
    let last = c.last-last.result in
    let late = c.self.inside.late.items in
    let numbered = subst (λ (n : ℕ). AreNumbered n fs) (sym (ap (λ (s : BufferState). s.tap.next) c.self.view_is)) c.requires in
    let within = slice_get_within fs (length fs - 1) last c.last-last.ensures in
    let some : 0 < length fs = omega (arith, within) in
    let is : last ≡ get_or fs (length fs - 1) last = sym (get_or_from_slice_get fs (length fs - 1) last last c.last-last.ensures) in
    let all = queued_list c.self.inside.ended c.self.inside.next c.self.inside.high c.self.inside.queue late fs last c.self.invariant numbered
    (c.none_late.ensures.fit c.if-not-none_late.false) (c.none_late.ensures.late c.if-not-none_late.false) some is in
    subst (λ (q : List Frame). IsBuffer q late (c.number-number.result + 1)) (sym c.in-Ok.ensures.added)
    (subst (λ (n : ℕ). IsBuffer (c.self.inside.queue ++ fs) late (n + 1)) (sym c.number-number.ensures.value) all.0)

pub returns-in-Ok : goal.returns-in-Ok
returns-in-Ok c =
    let fs = batch_frames c.args.batch in
    let last = c.last-last.result in
    let late = c.self.inside.late.items in
    let numbered = subst (λ (n : ℕ). AreNumbered n fs) (sym (ap (λ (s : BufferState). s.tap.next) c.self.view_is)) c.requires in
    let within = slice_get_within fs (length fs - 1) last c.last-last.ensures in
    let some : 0 < length fs = omega (arith, within) in
    let is : last ≡ get_or fs (length fs - 1) last = sym (get_or_from_slice_get fs (length fs - 1) last last c.last-last.ensures) in
    let all = queued_list c.self.inside.ended c.self.inside.next c.self.inside.high c.self.inside.queue late fs last c.self.invariant numbered
    (c.none_late.ensures.fit c.if-not-none_late.false) (c.none_late.ensures.late c.if-not-none_late.false) some is in
    let state : ℕ → Option ℕ → List Frame → BufferState = λ n h q. record {
      tap = record { ended = c.self.inside.ended; next = n; high = h };
      frames = buffered q late;
    } in
    let high : c.highest.result ≡ highest c.self.inside.high last.stamp =
    c.highest.ensures ∙ ap (highest c.self.inside.high) c.stamp.ensures.value in (
      fs,
      sym (append-nil fs),
      ap (λ (q : List Frame). state (c.number-number.result + 1) (Some c.highest.result) q) c.in-Ok.ensures.added
          ∙ ap (λ (n : ℕ). state (n + 1) (Some c.highest.result) (c.self.inside.queue ++ fs)) c.number-number.ensures.value
          ∙ ap (λ (h : ℕ). state (last.number + 1) (Some h) (c.self.inside.queue ++ fs)) high
          ∙ all.1
          ∙ ap (λ (s : BufferState). pushed_all s fs) c.self.view_is,
    )

pub returns-in-Err : goal.returns-in-Err
returns-in-Err c = (
  [],
  ap batch_frames (sym c.in-Err.ensures.given_back),
  ap (λ (q : List Frame). record {
    tap = record { ended = c.self.inside.ended; next = c.self.inside.next; high = c.self.inside.high };
    frames = buffered q c.self.inside.late.items;
  }) c.in-Err.ensures.unchanged ∙ c.self.view_is,
)
