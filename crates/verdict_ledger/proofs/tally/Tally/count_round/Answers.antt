use Rattle.std.proofs.Common.{◌≡◌, ◌+◌, ◌<◌, ◌^◌, ◌++◌, ◌∷◌, [], List, None, length, get_or, take, ap, ◌∙◌, sym, arith, append-nil, append_assoc, length-append, subst}
use Rattle.std.proofs.lemmas.List.{take_all, length-take-le}
use Rattle.verdict_ledger.specs.Entry.{Entry, entry_with, entries_of}
use Rattle.verdict_ledger.specs.Ledger.{IsTallyOf}
use Rattle.verdict_ledger.proofs.Rounds.{entries_more, length-entries_of}
use Rattle.verdict_ledger.proofs.tally.Tally.count_round.Goals as goal

pub loop-index-init : goal.loop-index-init
loop-index-init c = λ entries few tallied.
    subst (λ (l : List Entry). IsTallyOf l c.args.self.now) (sym (append-nil entries)) tallied

pub loop-index-preserved : goal.loop-index-preserved
loop-index-preserved c = λ entries few tallied.
    let frame = c.frame.result in
    let verdict = c.index-verdicts-index.result in
    let index = c.loop-index.index in
    let all = entries_of c.args.frames.now c.args.verdicts.now c.args.keeps.now c.args.masks.now in
    let e = entry_with frame verdict (get_or c.args.keeps.now index None) (get_or c.args.masks.now index 0) in
    let len : length all ≡ length c.args.frames.now = length-entries_of c.args.frames.now c.args.verdicts.now c.args.keeps.now c.args.masks.now
    c.requires.verdicts c.requires.keeps c.requires.masks in
    let more : take (index + 1) all ≡ take index all ++ e ∷ [] =
    entries_more c.args.frames.now c.args.verdicts.now c.args.keeps.now c.args.masks.now index frame verdict
    c.requires.verdicts c.requires.keeps c.requires.masks (omega (arith, c.loop-index-test.true, c.len-index-end.ensures)) c.frame.ensures c.index-verdicts-index.is in
    let so_far : length (take index all) ≡ index = length-take-le index all (omega (arith, len, c.loop-index-test.true, c.len-index-end.ensures)) in
    let room : length (entries ++ take index all) < 2 ^ 34 =
    omega (arith, length-append entries (take index all), so_far, few, c.loop-index-test.true, c.len-index-end.ensures) in
    subst (λ (l : List Entry). IsTallyOf l c.count.new.self)
    (append_assoc entries (take index all) (e ∷ []) ∙ ap (λ (l : List Entry). entries ++ l) (sym more))
    (c.count.ensures (entries ++ take index all) room (c.loop-index.invariant entries few tallied))

pub returns : goal.returns
returns c = λ entries few tallied.
    let all = entries_of c.args.frames.now c.args.verdicts.now c.args.keeps.now c.args.masks.now in
    let len : length all ≡ length c.args.frames.now = length-entries_of c.args.frames.now c.args.verdicts.now c.args.keeps.now c.args.masks.now
    c.requires.verdicts c.requires.keeps c.requires.masks in
    subst (λ (l : List Entry). IsTallyOf (entries ++ l) c.loop-index.self)
    (take_all c.loop-index.index all (omega (arith, len, c.loop-index-test.false, c.len-index-end.ensures)))
    (c.loop-index.invariant entries few tallied)
