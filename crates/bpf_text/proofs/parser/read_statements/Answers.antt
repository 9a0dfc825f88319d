use Rattle.std.proofs.Common.{◌≡◌, true, false, inl, ◌∷◌, [], arith, length, map, ap, sym, subst, ◌∙◌, inr, refl, List}
use Rattle.std.proofs.lemmas.List.{map-append}
use Rattle.std.proofs.lemmas.Result.{err_from_is_err_and}
use Rattle.bpf_text.specs.Tokens.{items_at, Item, at_end}
use Rattle.bpf_text.specs.Views.{items}
use Rattle.bpf_text.specs.Grammar.{AreWhole, Statement}
use Rattle.bpf_text.specs.Meaning.{statement_of}
use Rattle.bpf_text.proofs.Sequences.{statement_takes}
use Rattle.bpf_text.proofs.Texts.{whole_one_more, begins, read_fault, read_source, text_items_end}
use Rattle.bpf_text.proofs.parser.read_statements.Goals as goal

pub loop-lexer-smaller : goal.loop-lexer-smaller
loop-lexer-smaller c =
    let takes = statement_takes _ _ _ c.in_ok-statement.ensures in
    let same = ap length c.loop-lexer-test.ensures.items in
    omega (arith, takes, same)

pub loop-lexer-preserved : goal.loop-lexer-preserved
loop-lexer-preserved c =
    let init = items_at c.args.text.now 0 in
    let before = subst (λ (is : List Item). AreWhole init (map statement_of c.loop-lexer.statements.items) is) (sym c.loop-lexer-test.ensures.items) c.loop-lexer.invariant in
    let read = whole_one_more init (map statement_of c.loop-lexer.statements.items) _ _ _ before c.in_ok-statement.ensures in
    let pushed = ap (map statement_of) c.in_ok-push.ensures.items ∙ map-append statement_of c.loop-lexer.statements.items (c.in_ok-statement.field-0 ∷ []) in
    subst (λ (ss : List Statement). AreWhole init ss (items c.statement.new.lexer)) (sym pushed) read

pub returns-in_err-push : goal.returns-in_err-push
returns-in_err-push c =
    let init = items_at c.args.text.now 0 in
    let p = err_from_is_err_and c.from_residual-in_err-push.result c.from_residual-in_err-push.ensures.1 in
    let before = subst (λ (is : List Item). AreWhole init (map statement_of c.loop-lexer.statements.items) is) (sym c.loop-lexer-test.ensures.items) c.loop-lexer.invariant in
    rw (p.1, p.2) (inr (refl, begins init (map statement_of c.loop-lexer.statements.items) _ _ _ before c.in_ok-statement.ensures))

pub returns-in_err-statement : goal.returns-in_err-statement
returns-in_err-statement c =
    let init = items_at c.args.text.now 0 in
    let p = err_from_is_err_and c.from_residual.result c.from_residual.ensures.1 in
    let before = subst (λ (is : List Item). AreWhole init (map statement_of c.loop-lexer.statements.items) is) (sym c.loop-lexer-test.ensures.items) c.loop-lexer.invariant in
    let more : at_end (items c.is_at_end.new.self) ≡ false = ap at_end c.loop-lexer-test.ensures.items ∙ sym c.loop-lexer-test.ensures.end in
    rw (p.1, p.2) (inl (read_fault init (map statement_of c.loop-lexer.statements.items) _ _ before more c.in_err-statement.ensures))

pub returns : goal.returns
returns c =
    let init = items_at c.args.text.now 0 in
    let done : at_end (items c.loop-lexer.lexer) ≡ true = sym c.loop-lexer-test.ensures.end in
    read_source init (map statement_of c.loop-lexer.statements.items) (items c.loop-lexer.lexer) (text_items_end c.args.text.now) c.loop-lexer.invariant done
