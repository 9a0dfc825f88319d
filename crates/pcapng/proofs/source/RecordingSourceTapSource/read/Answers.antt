use Rattle.std.proofs.Common.{rules, ◌≡◌, ℕ, ◌+◌, ◌-◌, ◌<◌, [], length, take, ap, ◌∙◌, arith}
use Rattle.std.proofs.KnownBytes.{Consumes-kept, Keeps-refl, Keeps-trans}
use borrow.Rule.Slice.PartMut.{put_mid}
use Rattle.pcap_io.proofs.Transfers.{fill_more, stays_consumed}
use Rattle.pcapng.proofs.Handed.{ends_there, err_reads, keeps_after, reads_after}
use Rattle.pcapng.specs.declared.converter.Reached.TheVariants as stages
use Rattle.pcapng.proofs.source.RecordingSourceTapSource.read.Goals as goal
use Rattle.pcapng.proofs.source.RecordingSourceTapSource.read.Goals.{in-Needs+else-done-gt0-2+in_ok-refill, in_default-step}

pub returns-then-done-buf-clause-bytes : goal.returns-then-done-buf-clause-bytes
returns-then-done-buf-clause-bytes g c = (
  fill_more _ _ _ c.loop.done c.give-done.result _ c.loop.buf c.give-done.new.buf c.loop.invariant.within c.give-done.ensures.bound c.loop.invariant.given c.give-done.ensures.bytes,
  λ none room. absurd (omega (arith, none, room, c.if-done-buf.true)),
)

pub returns-in-Ended-clause-bytes : goal.returns-in-Ended-clause-bytes
returns-in-Ended-clause-bytes g c =
    let room : c.give-done.result < length c.give-done.new.buf = search rules in
    let ended : c.give-done.new.self.converter.stage ≡ stages.Ended c.in-Ended.field-0 = search rules in (
      fill_more _ _ _ c.loop.done c.give-done.result _ c.loop.buf c.give-done.new.buf c.loop.invariant.within c.give-done.ensures.bound c.loop.invariant.given c.give-done.ensures.bytes,
      λ none more. ends_there c.give-done.new.self.converter _ _ ended (c.give-done.ensures.all room),
    )

pub returns-then-done-gt0-clause-bytes : goal.returns-then-done-gt0-clause-bytes
returns-then-done-gt0-clause-bytes g c = (
  fill_more _ _ _ c.loop.done c.give-done.result _ c.loop.buf c.give-done.new.buf c.loop.invariant.within c.give-done.ensures.bound c.loop.invariant.given c.give-done.ensures.bytes,
  λ none room. absurd (omega (arith, none, c.if-done-gt0.true)),
)

pub returns-else-done-gt0-clause-bytes : goal.returns-else-done-gt0-clause-bytes
returns-else-done-gt0-clause-bytes g c =
    let text = put_mid c.loop.done (length c.loop.buf - c.loop.done) c.loop.buf c.give-done.new.buf in
    let zero : c.loop.done + c.give-done.result ≡ 0 = omega (arith, c.if-done-gt0.false) in
    let none : take (c.loop.done + c.give-done.result) text ≡ [] = ap (λ (m : ℕ). take m text) zero in
    reads_after _ _ _ c.pass.result c.pass.new.buf (take (c.loop.done + c.give-done.result) text) none
    (fill_more _ _ _ c.loop.done c.give-done.result _ c.loop.buf c.give-done.new.buf c.loop.invariant.within c.give-done.ensures.bound c.loop.invariant.given c.give-done.ensures.bytes)
    c.pass.ensures.bytes

pub returns-then-done-gt0-2-clause-bytes : goal.returns-then-done-gt0-2-clause-bytes
returns-then-done-gt0-2-clause-bytes g c = (
  Consumes-kept _ _ _ _
      (fill_more _ _ _ c.loop.done c.give-done.result _ c.loop.buf c.give-done.new.buf c.loop.invariant.within c.give-done.ensures.bound c.loop.invariant.given c.give-done.ensures.bytes)
      c.step.ensures.kept,
  λ none room. absurd (omega (arith, none, c.if-done-gt0-2.true)),
)

pub returns-in_err-refill-clause-bytes : goal.returns-in_err-refill-clause-bytes
returns-in_err-refill-clause-bytes g c =
    let text = put_mid c.loop.done (length c.loop.buf - c.loop.done) c.loop.buf c.give-done.new.buf in
    let zero : c.loop.done + c.give-done.result ≡ 0 = omega (arith, c.if-done-gt0-2.false) in
    let none : take (c.loop.done + c.give-done.result) text ≡ [] = ap (λ (m : ℕ). take m text) zero in
    err_reads _ _ c.from_residual.result text c.from_residual.ensures.0
    (keeps_after _ _ _ (take (c.loop.done + c.give-done.result) text) none
    (fill_more _ _ _ c.loop.done c.give-done.result _ c.loop.buf c.give-done.new.buf c.loop.invariant.within c.give-done.ensures.bound c.loop.invariant.given c.give-done.ensures.bytes)
    (Keeps-trans _ _ _ c.step.ensures.kept c.refill.ensures.kept))

pub loop-preserved : goal.loop-preserved
loop-preserved g c =
    let all = fill_more _ _ _ c.loop.done c.give-done.result (length c.loop.buf - c.loop.done) c.loop.buf c.give-done.new.buf c.loop.invariant.within c.give-done.ensures.bound c.loop.invariant.given c.give-done.ensures.bytes in
    let given = stays_consumed _ _ _ _ _ _ c.loop.invariant.given c.loop.invariant.told c.give-done.ensures.told in
    record {
      within = search rules;
      same = elim c.match-step.branch [
        | in-Needs+else-done-gt0-2+in_ok-refill w ↦ rw w.self-is (w.in_ok-refill.ensures.no_failure ∙ (c.step.ensures.failures ∙ (c.give-done.ensures.failures ∙ c.loop.invariant.same)))
        | in_default-step w ↦ rw w.self-is (c.step.ensures.failures ∙ (c.give-done.ensures.failures ∙ c.loop.invariant.same))
      ];
      told = elim c.match-step.branch [
        | in-Needs+else-done-gt0-2+in_ok-refill w ↦ rw w.self-is (stays_consumed _ _ _ _ _ _ (Consumes-kept _ _ _ _ all c.step.ensures.kept) (stays_consumed _ _ _ _ _ _ all given c.step.ensures.told) w.refill.ensures.told)
        | in_default-step w ↦ rw w.self-is (stays_consumed _ _ _ _ _ _ all given c.step.ensures.told)
      ];
      given = elim c.match-step.branch [
        | in-Needs+else-done-gt0-2+in_ok-refill w ↦ rw w.self-is (Consumes-kept _ _ _ _ all (Keeps-trans _ _ _ c.step.ensures.kept w.refill.ensures.kept))
        | in_default-step w ↦ rw w.self-is (Consumes-kept _ _ _ _ all c.step.ensures.kept)
      ];
    }

pub returns-else-done-gt0-3-clause-bytes : goal.returns-else-done-gt0-3-clause-bytes
returns-else-done-gt0-3-clause-bytes g c =
    let zero : c.loop.done ≡ 0 = omega (arith, c.if-done-gt0-3.false) in
    let none : take c.loop.done c.loop.buf ≡ [] = ap (λ (m : ℕ). take m c.loop.buf) zero in
    rw (c.count_failure.ensures.converter, c.count_failure.ensures.source) (keeps_after _ _ _ (take c.loop.done c.loop.buf) none c.loop.invariant.given (Keeps-refl _))

pub returns-then-done-buf-clause-told : goal.returns-then-done-buf-clause-told
returns-then-done-buf-clause-told g c = stays_consumed _ _ _ _ _ _ c.loop.invariant.given c.loop.invariant.told c.give-done.ensures.told

pub returns-in-Ended-clause-told : goal.returns-in-Ended-clause-told
returns-in-Ended-clause-told g c = stays_consumed _ _ _ _ _ _ c.loop.invariant.given c.loop.invariant.told c.give-done.ensures.told

pub returns-then-done-gt0-clause-told : goal.returns-then-done-gt0-clause-told
returns-then-done-gt0-clause-told g c = stays_consumed _ _ _ _ _ _ c.loop.invariant.given c.loop.invariant.told c.give-done.ensures.told

pub returns-else-done-gt0-clause-told : goal.returns-else-done-gt0-clause-told
returns-else-done-gt0-clause-told g c = stays_consumed _ _ _ _ _ _ (fill_more _ _ _ c.loop.done c.give-done.result (length c.loop.buf - c.loop.done) c.loop.buf c.give-done.new.buf c.loop.invariant.within c.give-done.ensures.bound c.loop.invariant.given c.give-done.ensures.bytes) (stays_consumed _ _ _ _ _ _ c.loop.invariant.given c.loop.invariant.told c.give-done.ensures.told) c.pass.ensures.told

pub returns-then-done-gt0-2-clause-told : goal.returns-then-done-gt0-2-clause-told
returns-then-done-gt0-2-clause-told g c = stays_consumed _ _ _ _ _ _ (fill_more _ _ _ c.loop.done c.give-done.result (length c.loop.buf - c.loop.done) c.loop.buf c.give-done.new.buf c.loop.invariant.within c.give-done.ensures.bound c.loop.invariant.given c.give-done.ensures.bytes) (stays_consumed _ _ _ _ _ _ c.loop.invariant.given c.loop.invariant.told c.give-done.ensures.told) c.step.ensures.told

pub returns-in_err-refill-clause-told : goal.returns-in_err-refill-clause-told
returns-in_err-refill-clause-told g c = stays_consumed _ _ _ _ _ _ (Consumes-kept _ _ _ _ (fill_more _ _ _ c.loop.done c.give-done.result (length c.loop.buf - c.loop.done) c.loop.buf c.give-done.new.buf c.loop.invariant.within c.give-done.ensures.bound c.loop.invariant.given c.give-done.ensures.bytes) c.step.ensures.kept) (stays_consumed _ _ _ _ _ _ (fill_more _ _ _ c.loop.done c.give-done.result (length c.loop.buf - c.loop.done) c.loop.buf c.give-done.new.buf c.loop.invariant.within c.give-done.ensures.bound c.loop.invariant.given c.give-done.ensures.bytes) (stays_consumed _ _ _ _ _ _ c.loop.invariant.given c.loop.invariant.told c.give-done.ensures.told) c.step.ensures.told) c.refill.ensures.told

pub returns-then-done-gt0-3-clause-told : goal.returns-then-done-gt0-3-clause-told
returns-then-done-gt0-3-clause-told g c = c.loop.invariant.told

pub returns-else-done-gt0-3-clause-told : goal.returns-else-done-gt0-3-clause-told
returns-else-done-gt0-3-clause-told g c = rw (c.count_failure.ensures.converter, c.count_failure.ensures.source) c.loop.invariant.told
