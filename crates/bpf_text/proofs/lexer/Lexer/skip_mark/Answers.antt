use Rattle.std.proofs.Common.{ap, sym, ◌∙◌}
use Rattle.std.proofs.lemmas.Bool.{ne_eqb}
use Rattle.bpf_text.specs.Tokens.{after_mark}
use Rattle.bpf_text.proofs.Tokens.{mark_skipped, mark_not_there, no_mark_at_end, no_mark_here}
use Rattle.bpf_text.proofs.lexer.Lexer.skip_mark.Goals as goal

pub returns-in-Some : goal.returns-in-Some
returns-in-Some c =
    let e = sym c.if-byte-mark.true ∙ c.in-Some.ensures.1 in
    sym (ap (after_mark c.args.mark) (sym c.skip_blanks.ensures.items) ∙ mark_skipped c.skip_blanks.new.self.text.now c.skip_blanks.new.self.at c.args.mark c.in-Some.ensures.0 c.skip_blanks.ensures.none e c.requires)

pub returns-in_default : goal.returns-in_default
returns-in_default c =
    let text = c.skip_blanks.new.self.text.now in
    let at = c.skip_blanks.new.self.at in
    sym (ap (after_mark c.args.mark) (sym c.skip_blanks.ensures.items) ∙ mark_not_there text at c.args.mark (no_mark_here text at c.in-Some.byte c.args.mark c.in-Some.ensures.0 c.skip_blanks.ensures.none c.in-Some.ensures.1 (ne_eqb c.in-Some.byte c.args.mark c.if-byte-mark.false)))

pub returns-in_default-2 : goal.returns-in_default-2
returns-in_default-2 c =
    let text = c.skip_blanks.new.self.text.now in
    let at = c.skip_blanks.new.self.at in
    sym (ap (after_mark c.args.mark) (sym c.skip_blanks.ensures.items) ∙ mark_not_there text at c.args.mark (no_mark_at_end text at c.args.mark c.in_default.ensures))
