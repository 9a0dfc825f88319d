use Rattle.std.proofs.Common.{rules, ◌≡◌, true, take, ◌∙◌, arith}
use Rattle.pcap_io.proofs.Bytes.{known_bytes-consumed}
use Rattle.pcapng.proofs.Handed.{stays_known}
use Rattle.recording_files.proofs.Joining.{all_given, fault_reads, fill_once, fill_twice, given_kept, keeps_still, told_kept, told_on}
use Rattle.recording_files.specs.Handed.{is_over, known_of}
use Rattle.recording_files.proofs.joined.JoinedSourceTapSource.read.Goals as goal

pub returns-then-done-buf-clause-bytes : goal.returns-then-done-buf-clause-bytes
returns-then-done-buf-clause-bytes g c = (
  known_bytes-consumed _ _ _ (fill_once _ _ _ c.loop.done c.give-done.result _ c.loop.buf c.give-done.new.buf c.loop.invariant.within c.give-done.ensures.bound c.loop.invariant.given c.give-done.ensures.bytes).0,
  λ none room. absurd (omega (arith, none, room, c.if-done-buf.true)),
)

pub returns-then-done-buf-clause-told : goal.returns-then-done-buf-clause-told
returns-then-done-buf-clause-told g c =
    stays_known _ _ _ (told_on _ _ (known_of g.F.TapSource.remaining g.F.TapSource.told g.P.FileSupply.files c.give-done.new.self) (take c.loop.done c.loop.buf) c.loop.invariant.given c.give-done.ensures.bytes.1)

pub returns-then-is_ended-clause-bytes : goal.returns-then-is_ended-clause-bytes
returns-then-is_ended-clause-bytes g c =
    let ended : is_over c.give_packets-done.new.self.stage ≡ true = search rules in (
      known_bytes-consumed _ _ _ (fill_twice _ _ _ _ c.loop.done c.give-done.result c.give_packets-done.result _ _ c.loop.buf c.give-done.new.buf c.give_packets-done.new.buf c.loop.invariant.within c.give-done.ensures.bound
          c.give_packets-done.ensures.bound c.loop.invariant.given c.give-done.ensures.bytes c.give_packets-done.ensures.bytes).0,
      λ none more. all_given g.F.TapSource.remaining g.F.TapSource.told g.P.FileSupply.files c.give_packets-done.new.self ended c.give_packets-done.ensures.given,
    )

pub returns-then-is_ended-clause-told : goal.returns-then-is_ended-clause-told
returns-then-is_ended-clause-told g c =
    stays_known _ _ _ (told_on _ _ (known_of g.F.TapSource.remaining g.F.TapSource.told g.P.FileSupply.files c.give_packets-done.new.self) (take c.loop.done c.loop.buf) c.loop.invariant.given (told_on _ _ (known_of g.F.TapSource.remaining g.F.TapSource.told g.P.FileSupply.files c.give_packets-done.new.self) (take c.give-done.result c.give-done.new.buf) c.give-done.ensures.bytes c.give_packets-done.ensures.bytes.1))

pub returns-then-waits-clause-bytes : goal.returns-then-waits-clause-bytes
returns-then-waits-clause-bytes g c = (
  known_bytes-consumed _ _ _ (fill_twice _ _ _ _ c.loop.done c.give-done.result c.give_packets-done.result _ _ c.loop.buf c.give-done.new.buf c.give_packets-done.new.buf c.loop.invariant.within c.give-done.ensures.bound
      c.give_packets-done.ensures.bound c.loop.invariant.given c.give-done.ensures.bytes c.give_packets-done.ensures.bytes).0,
  λ none room. absurd (omega (arith, none, c.if-done-gt0.true)),
)

pub returns-then-waits-clause-told : goal.returns-then-waits-clause-told
returns-then-waits-clause-told g c =
    stays_known _ _ _ (told_on _ _ (known_of g.F.TapSource.remaining g.F.TapSource.told g.P.FileSupply.files c.give_packets-done.new.self) (take c.loop.done c.loop.buf) c.loop.invariant.given (told_on _ _ (known_of g.F.TapSource.remaining g.F.TapSource.told g.P.FileSupply.files c.give_packets-done.new.self) (take c.give-done.result c.give-done.new.buf) c.give-done.ensures.bytes c.give_packets-done.ensures.bytes.1))

pub returns-then-is_err-clause-bytes : goal.returns-then-is_err-clause-bytes
returns-then-is_err-clause-bytes g c =
    fault_reads _ _ _ _ _ c.fault_after.result _
    (fill_twice _ _ _ _ c.loop.done c.give-done.result c.give_packets-done.result _ _ c.loop.buf c.give-done.new.buf c.give_packets-done.new.buf c.loop.invariant.within c.give-done.ensures.bound
    c.give_packets-done.ensures.bound c.loop.invariant.given c.give-done.ensures.bytes c.give_packets-done.ensures.bytes)
    c.step.ensures.kept c.fault_after.ensures.kept c.fault_after.ensures.done c.fault_after.ensures.none

pub returns-then-is_err-clause-told : goal.returns-then-is_err-clause-told
returns-then-is_err-clause-told g c =
    stays_known _ _ _
    (told_on _ _ (known_of g.F.TapSource.remaining g.F.TapSource.told g.P.FileSupply.files c.fault_after.new.self) (take c.loop.done c.loop.buf) c.loop.invariant.given
    (told_on _ _ (known_of g.F.TapSource.remaining g.F.TapSource.told g.P.FileSupply.files c.fault_after.new.self) (take c.give-done.result c.give-done.new.buf) c.give-done.ensures.bytes
    (told_on _ _ (known_of g.F.TapSource.remaining g.F.TapSource.told g.P.FileSupply.files c.fault_after.new.self) (take c.give_packets-done.result c.give_packets-done.new.buf) c.give_packets-done.ensures.bytes (told_kept _ _ _ c.step.ensures.kept c.fault_after.ensures.kept))))

pub loop-preserved : goal.loop-preserved
loop-preserved g c = record {
  within = search rules;
  same = c.step.ensures.failures ∙ (c.give_packets-done.ensures.failures ∙ (c.give-done.ensures.failures ∙ c.loop.invariant.same));
  given = given_kept _ _ _ _
      (fill_twice _ _ _ _ c.loop.done c.give-done.result c.give_packets-done.result _ _ c.loop.buf c.give-done.new.buf c.give_packets-done.new.buf c.loop.invariant.within c.give-done.ensures.bound
      c.give_packets-done.ensures.bound c.loop.invariant.given c.give-done.ensures.bytes c.give_packets-done.ensures.bytes)
      c.step.ensures.kept;
}

pub returns-clause-bytes : goal.returns-clause-bytes
returns-clause-bytes g c =
    fault_reads _ _ _ _ _ c.fault_after-2.result _ c.loop.invariant.given (keeps_still _) c.fault_after-2.ensures.kept c.fault_after-2.ensures.done c.fault_after-2.ensures.none

pub returns-clause-told : goal.returns-clause-told
returns-clause-told g c =
    stays_known _ _ _ (told_on _ _ (known_of g.F.TapSource.remaining g.F.TapSource.told g.P.FileSupply.files c.fault_after-2.new.self) (take c.loop.done c.loop.buf) c.loop.invariant.given (told_kept _ _ _ (keeps_still _) c.fault_after-2.ensures.kept))
