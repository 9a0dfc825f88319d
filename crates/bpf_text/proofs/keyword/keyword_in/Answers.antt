use Rattle.std.proofs.Common.{true, false, sym, ◌∙◌}
use Rattle.bpf_text.proofs.Keywords.{row_found, row_passed, spelled}
use Rattle.bpf_text.proofs.keyword.keyword_in.Goals as goal

pub returns-then-eq_ignore_ascii_case : goal.returns-then-eq_ignore_ascii_case
returns-then-eq_ignore_ascii_case c =
    let test = c.if-eq_ignore_ascii_case.ensures.test in
    sym (sym c.loop-word.invariant ∙ row_found c.args.rows.now c.loop-word.word-index _ c.args.name.now c.loop-word-test.true (spelled true _ _ test))

pub loop-word-preserved : goal.loop-word-preserved
loop-word-preserved c =
    let test = c.if-eq_ignore_ascii_case.ensures.test in
    sym (row_passed c.args.rows.now c.loop-word.word-index _ c.args.name.now c.loop-word-test.true (spelled false _ _ test)) ∙ c.loop-word.invariant
