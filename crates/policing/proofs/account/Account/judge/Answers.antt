-- The account's content decides as the windows do, and the frame's charge is taken from it.
use Rattle.std.proofs.Common.{◌≡◌, ◌*◌, ◌<◌, ◌≤◌, ap, refl, arith, le-leb}
use Rattle.std.proofs.lemmas.Bool.{lt-leb}
use Rattle.policing.specs.declared.verdict.Policing.TheVariants.{Within, Excess}
use Rattle.policing.specs.Balance.{Balance, content_at}
use Rattle.policing.proofs.Room.{has_room-balance, stands_after-append}
use Rattle.policing.proofs.account.Account.judge.Goals as goal

pub returns-then-charge-content-clause-verdict : goal.returns-then-charge-content-clause-verdict
returns-then-charge-content-clause-verdict c = λ link entries stands.
    let same = has_room-balance c.args.self.now link entries c.args.stamp.0 c.args.size stands c.requires in
    let cost : c.from.result * c.from-2.result ≡ c.args.size * c.args.self.now.bag =
    rw (c.from.ensures, c.from-2.ensures, ap (λ (b : Balance). b.bag) c.self.view_is) refl in
    let fits : c.args.size * c.args.self.now.bag ≤ content_at c.args.self.now c.args.stamp.0 =
    omega (arith, cost, c.content_at-content.ensures.value, c.if-charge-content.true) in
    rw (same, le-leb _ _ fits) refl

pub returns-then-charge-content-clause-after : goal.returns-then-charge-content-clause-after
returns-then-charge-content-clause-after c = λ link entries stands.
    let cost : c.from.result * c.from-2.result ≡ c.args.size * link.bag =
    rw (c.from.ensures, c.from-2.ensures, ap (λ (b : Balance). b.bag) c.self.view_is, stands.bag) refl in
    stands_after-append c.args.self.now link entries c.args.stamp.0 c.args.size Within c.self.inside.smax c.self.inside.bag
    c.self.inside.cap _ (ap (λ (b : Balance). b.smax) c.self.view_is) (ap (λ (b : Balance). b.bag) c.self.view_is)
    (ap (λ (b : Balance). b.cap) c.self.view_is) stands c.requires
    (omega (arith, cost, c.content_at-content.ensures.value, c.if-charge-content.true))

pub returns-else-charge-content-clause-verdict : goal.returns-else-charge-content-clause-verdict
returns-else-charge-content-clause-verdict c = λ link entries stands.
    let same = has_room-balance c.args.self.now link entries c.args.stamp.0 c.args.size stands c.requires in
    let cost : c.from.result * c.from-2.result ≡ c.args.size * c.args.self.now.bag =
    rw (c.from.ensures, c.from-2.ensures, ap (λ (b : Balance). b.bag) c.self.view_is) refl in
    let over : content_at c.args.self.now c.args.stamp.0 < c.args.size * c.args.self.now.bag =
    omega (arith, cost, c.content_at-content.ensures.value, c.if-charge-content.false) in
    rw (same, lt-leb _ _ over) refl

pub returns-else-charge-content-clause-after : goal.returns-else-charge-content-clause-after
returns-else-charge-content-clause-after c = λ link entries stands.
    stands_after-append c.args.self.now link entries c.args.stamp.0 c.args.size Excess c.self.inside.smax c.self.inside.bag
    c.self.inside.cap _ (ap (λ (b : Balance). b.smax) c.self.view_is) (ap (λ (b : Balance). b.bag) c.self.view_is)
    (ap (λ (b : Balance). b.cap) c.self.view_is) stands c.requires
    (omega (arith, c.content_at-content.ensures.value))
