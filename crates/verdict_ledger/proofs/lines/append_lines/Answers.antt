use Rattle.std.proofs.Common.{◌++◌, List, ℕ, None, get_or, ap, ◌∙◌, arith}
use Rattle.std.proofs.lemmas.List.{take_all}
use Rattle.verdict_ledger.specs.Entry.{Entry, entry_with, entries_of}
use Rattle.verdict_ledger.specs.Text.{line_text, lines_text}
use Rattle.verdict_ledger.proofs.Joining.{join}
use Rattle.verdict_ledger.proofs.Rounds.{entries_more, length-entries_of, texts_more}
use Rattle.verdict_ledger.proofs.lines.append_lines.Goals as goal

pub loop-index-preserved : goal.loop-index-preserved
loop-index-preserved c =
    let start = c.args.text.now.items in
    let frame = c.frame.result in
    let verdict = c.index-verdicts-index.result in
    let index = c.loop-index.index in
    let all = entries_of c.args.frames.now c.args.verdicts.now c.args.keeps.now c.args.masks.now in
    let e = entry_with frame verdict (get_or c.args.keeps.now index None) (get_or c.args.masks.now index 0) in
    let more = entries_more c.args.frames.now c.args.verdicts.now c.args.keeps.now c.args.masks.now index frame verdict
    c.requires.verdicts c.requires.keeps c.requires.masks (omega (arith, c.loop-index-test.true, c.len-index-end.ensures)) c.frame.ensures c.index-verdicts-index.is in
    join start _ _ _ (line_text c.args.version e) c.loop-index.invariant c.in-Ok.ensures.line
    ∙ ap (λ (l : List ℕ). start ++ l) (texts_more (line_text c.args.version) all index e more)

pub returns-clause-lines : goal.returns-clause-lines
returns-clause-lines c =
    let start = c.args.text.now.items in
    let all = entries_of c.args.frames.now c.args.verdicts.now c.args.keeps.now c.args.masks.now in
    let len = length-entries_of c.args.frames.now c.args.verdicts.now c.args.keeps.now c.args.masks.now
    c.requires.verdicts c.requires.keeps c.requires.masks in
    c.loop-index.invariant
    ∙ ap (λ (l : List Entry). start ++ lines_text c.args.version l) (take_all c.loop-index.index all (omega (arith, len, c.loop-index-test.false, c.len-index-end.ensures)))
