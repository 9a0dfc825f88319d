use Rattle.std.proofs.Common.{◌≡◌, ◌∙◌, sym, true, false, refl}
use Rattle.filter_run.specs.Sessions.{is_blank}
use Rattle.filter_run.proofs.debug.answer_to.Goals as goal

pub returns-then-is_blank : goal.returns-then-is_blank
returns-then-is_blank c =
    let blank : is_blank c.args.line.now ≡ true = sym c.is_blank.ensures ∙ c.if-is_blank.true in
    rw blank (refl, refl)

pub returns-in-Some : goal.returns-in-Some
returns-in-Some c =
    let blank : is_blank c.args.line.now ≡ false = sym c.is_blank.ensures ∙ c.if-is_blank.false in
    rw blank (rw (sym c.in-Some.ensures) c.carry_out.ensures)

pub returns-in-None : goal.returns-in-None
returns-in-None c =
    let blank : is_blank c.args.line.now ≡ false = sym c.is_blank.ensures ∙ c.if-is_blank.false in
    rw blank (rw (sym c.in-None.ensures) (c.bad_command_line.ensures, refl))
