use Rattle.std.proofs.Common.{Ok, Err, ap, refl, subst, arith}
use Rattle.pcap_io.specs.Reader.{reading_of, unread_of}
use Rattle.pcap_io.specs.declared.item.Item.{Item}
use Rattle.pcap_io.specs.declared.item.Item.TheVariants as items
use Rattle.cut_run.specs.Finder.{finding_of}
use Rattle.cut_run.proofs.Finding.{Called, all_read, ends, finds, goes_on, keeping_fails, none_means, reader_fails, sets_out}
use Rattle.cut_run.proofs.finder.FrameFinder.read_to.Goals as goal

pub loop-self-init : goal.loop-self-init
loop-self-init g c = λ o frames h ahead. sets_out o frames c.args.place _ h ahead

pub returns-clause-found : goal.returns-clause-found
returns-clause-found g c = λ o frames h ahead. all_read o frames c.args.place _ (c.loop-self.invariant o frames h ahead) (omega arith)

pub returns-in-Ok-End-clause-found : goal.returns-in-Ok-End-clause-found
returns-in-Ok-End-clause-found g c =
    let view = reading_of g.S.TapSource.remaining g.S.TapSource.failures g.S.TapSource.told in
    let old = view c.loop-self.self.reader in
    let new = view c.next.new.self in
    let unread = unread_of c.next.new.self in
    let given = c.in-Ok-End.ensures in
    let told : Called old new unread (Ok c.in-Ok-End.field-0) = record { advances = given.advances; unfinished = given.unfinished; ended = λ e at. (let x = given.ended e at in (x.0, ap view x.1)) } in
    let call : Called old new unread (Ok (items.End c.in-Ok-End.field-0-0)) = subst (λ (i : Item). Called old new unread (Ok i)) c.in-Ok-End.field-0-is told in
    λ o frames h ahead. ends o frames c.args.place (finding_of g.S.TapSource c.loop-self.self) (c.loop-self.invariant o frames h ahead)
    c.loop-self-test.true new unread c.in-Ok-End.field-0-0 _ call refl

pub returns-in-Err-clause-found : goal.returns-in-Err-clause-found
returns-in-Err-clause-found g c =
    let view = reading_of g.S.TapSource.remaining g.S.TapSource.failures g.S.TapSource.told in
    let old = view c.loop-self.self.reader in
    let new = view c.next.new.self in
    let unread = unread_of c.next.new.self in
    let given = c.in-Err.ensures in
    let call : Called old new unread (Err c.in-Err.fault) = record { advances = given.advances; unfinished = given.unfinished; ended = λ e at. (let x = given.ended e at in (x.0, ap view x.1)) } in
    rw (c.fail.ensures.fault, c.fail.ensures.failed)
    (λ o frames h ahead. reader_fails o frames c.args.place (finding_of g.S.TapSource c.loop-self.self) (c.loop-self.invariant o frames h ahead)
    c.loop-self-test.true new unread c.in-Err.fault _ call refl refl)

pub returns-then-is_of-clause-found : goal.returns-then-is_of-clause-found
returns-then-is_of-clause-found g c =
    let view = reading_of g.S.TapSource.remaining g.S.TapSource.failures g.S.TapSource.told in
    let old = view c.loop-self.self.reader in
    let new = view c.next.new.self in
    let unread = unread_of c.next.new.self in
    let given = c.in-Ok-Frame.ensures in
    let told : Called old new unread (Ok c.in-Ok-Frame.field-0) = record { advances = given.advances; unfinished = given.unfinished; ended = λ e at. (let x = given.ended e at in (x.0, ap view x.1)) } in
    let call : Called old new unread (Ok (items.Frame c.in-Ok-Frame.frame)) = subst (λ (i : Item). Called old new unread (Ok i)) c.in-Ok-Frame.field-0-is told in
    λ o frames h ahead. finds o frames c.args.place (finding_of g.S.TapSource c.loop-self.self) (c.loop-self.invariant o frames h ahead)
    c.loop-self-test.true new unread c.in-Ok-Frame.frame c.number.result c.number.ensures.value _ call (c.is_of.ensures.same c.if-is_of.true) refl

pub returns-then-is_none-clause-found : goal.returns-then-is_none-clause-found
returns-then-is_none-clause-found g c =
    let view = reading_of g.S.TapSource.remaining g.S.TapSource.failures g.S.TapSource.told in
    let old = view c.loop-self.self.reader in
    let new = view c.next.new.self in
    let unread = unread_of c.next.new.self in
    let given = c.in-Ok-Frame.ensures in
    let told : Called old new unread (Ok c.in-Ok-Frame.field-0) = record { advances = given.advances; unfinished = given.unfinished; ended = λ e at. (let x = given.ended e at in (x.0, ap view x.1)) } in
    let call : Called old new unread (Ok (items.Frame c.in-Ok-Frame.frame)) = subst (λ (i : Item). Called old new unread (Ok i)) c.in-Ok-Frame.field-0-is told in
    rw (c.fail-then-is_none.ensures.fault, c.fail-then-is_none.ensures.failed)
    (λ o frames h ahead. keeping_fails o frames c.args.place (finding_of g.S.TapSource c.loop-self.self) (c.loop-self.invariant o frames h ahead)
    c.loop-self-test.true new unread c.in-Ok-Frame.frame _ call (c.keep_later.ensures.refused (none_means c.keep_later.result (rw c.if-is_none.true at c.is_none.ensures))) refl)

pub loop-self-preserved : goal.loop-self-preserved
loop-self-preserved g c =
    let view = reading_of g.S.TapSource.remaining g.S.TapSource.failures g.S.TapSource.told in
    let old = view c.loop-self.self.reader in
    let new = view c.next.new.self in
    let unread = unread_of c.next.new.self in
    let given = c.in-Ok-Frame.ensures in
    let told : Called old new unread (Ok c.in-Ok-Frame.field-0) = record { advances = given.advances; unfinished = given.unfinished; ended = λ e at. (let x = given.ended e at in (x.0, ap view x.1)) } in
    let call : Called old new unread (Ok (items.Frame c.in-Ok-Frame.frame)) = subst (λ (i : Item). Called old new unread (Ok i)) c.in-Ok-Frame.field-0-is told in
    λ o frames h ahead. goes_on o frames c.args.place (finding_of g.S.TapSource c.loop-self.self) (c.loop-self.invariant o frames h ahead)
    c.loop-self-test.true new unread c.in-Ok-Frame.frame c.keep_later.new.passed c.number.result c.number.ensures.value _ call (c.keep_later.ensures.kept (rw c.if-is_none.false at c.is_none.ensures))
    (λ s. (let t = c.is_of.ensures.other s in let f = c.if-is_of.false in absurd (cc))) refl
