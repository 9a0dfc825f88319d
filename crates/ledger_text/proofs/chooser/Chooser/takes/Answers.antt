use Rattle.std.proofs.Common.{◌≡◌, ◌↔◌, Some, true, subst}
use Rattle.afdx_frame.specs.declared.key.Stamp.{Stamp}
use Rattle.ledger_text.specs.Selection.{IsTaken}
use Rattle.ledger_text.proofs.Choosing.{first_is, says_linked, says_plain, says_unlinked, start_at}
use Rattle.ledger_text.proofs.chooser.Chooser.takes.Goals as goal

pub returns-in-None-default : goal.returns-in-None-default
returns-in-None-default c = λ around before few h.
    (let v = c.args.line.now in
    let start = start_at before v c.args.self.now.first c.unwrap_or-first.result h.first c.unwrap_or-first.ensures in
    let says = says_plain c.args.selection.now around before v c.takes.result c.args.self.now.neighbours c.in-None-default.is-0 h.neighbours
    (subst (λ (s : Stamp). (c.takes.result ≡ true) ↔ IsTaken c.args.selection.now s v) start c.takes.ensures) in
    (says.0, record { first = first_is before v c.unwrap_or-first.result start; neighbours = says.1 }))

pub returns-in-Some-None : goal.returns-in-Some-None
returns-in-Some-None c = λ around before few h.
    (let v = c.args.line.now in
    let start = start_at before v c.args.self.now.first c.unwrap_or-first.result h.first c.unwrap_or-first.ensures in
    let says = says_unlinked c.args.selection.now around before v c.takes-in-Some-None.result (Some c.in-Some-None.field-0-0) c.in-Some-None.is-1 (rw c.in-Some-None.is-0 at h.neighbours)
    (subst (λ (s : Stamp). (c.takes-in-Some-None.result ≡ true) ↔ IsTaken c.args.selection.now s v) start c.takes-in-Some-None.ensures) in
    (says.0, record { first = first_is before v c.unwrap_or-first.result start; neighbours = says.1 }))

pub returns-in-Some-Some : goal.returns-in-Some-Some
returns-in-Some-Some c = λ around before few h.
    (let v = c.args.line.now in
    let start = start_at before v c.args.self.now.first c.unwrap_or-first.result h.first c.unwrap_or-first.ensures in
    let says = says_linked c.args.selection.now around before v c.is_near.result c.in-Some-Some.neighbours c.is_near.new.self c.in-Some-Some.id c.in-Some-Some.is-1
    (rw c.in-Some-Some.is-0 at h.neighbours) (λ a asked. c.is_near.ensures c.args.selection.now a before v few asked c.in-Some-Some.is-1) in
    (says.0, record { first = first_is before v c.unwrap_or-first.result start; neighbours = says.1 }))
