use Rattle.std.proofs.Common.{◌<◌, ◌++◌, ◌∷◌, [], ℕ, Result, Ok, Err, arith, refl, subst, sym}
use Rattle.std.specs.Prelude.{MatchResult}
use Rattle.std.specs.declared.alloc.AllocError.{AllocError}
use Rattle.ledger_text.specs.declared.bounds.TheConstants.{MAX_LINES}
use Rattle.ledger_text.specs.Neighbours.{HasNotedLink}
use Rattle.ledger_text.specs.declared.link_runs.LinkRuns.{LinkRuns}
use Rattle.ledger_text.proofs.Nearness.{around_of, count_few, note_left, noted_other, of_other, of_own, table_set}
use Rattle.ledger_text.proofs.neighbours.Neighbours.note_link.Goals as goal

in_both : {P P2 Q Q2 : Type 0} (r : Result (Unit {0}) AllocError) → (P → P2) → (Q → Q2) → MatchResult r (λ _. P) (λ _. Q) → MatchResult r (λ _. P2) (λ _. Q2)
in_both (Ok u) f g h = f h
in_both (Err e) f g h = g h

pub returns : goal.returns
returns c = λ selection lines v few h own is.
    (let id = c.args.id.0 in
    let count = c.args.self.now.around in
    let old = c.index_mut.result.now in
    let new = c.note.new.self in
    let items = c.args.self.now.links.items in
    let fits : c.from.result < 65536 = omega (arith, c.from.ensures) in
    let at : id < 65536 = omega (arith, c.from.ensures, fits) in
    let link : HasNotedLink selection (around_of count lines) id old =
    subst (λ (n : ℕ). HasNotedLink selection (around_of count lines) n old) c.from.ensures
    (subst (λ (l : LinkRuns). HasNotedLink selection (around_of count lines) c.from.result l) (sym c.index_mut.ensures.value) (h.links c.from.result old fits)) in
    let noted : old.noted < MAX_LINES = omega (arith, link.noted, count_few id lines MAX_LINES few) in
    let left = note_left selection count lines v id c.args.selected c.note.result old new (of_own v c.args.id own) is link
    (c.note.ensures.noted noted) c.note.ensures.added c.note.ensures.passed c.note.ensures.same in
    in_both c.note.result
    (λ now. record {
      count = refl;
      links = table_set (λ n l. HasNotedLink selection (around_of count lines) n l) (λ n l. HasNotedLink selection (around_of count (lines ++ v ∷ [])) n l) items id c.from.result new
          c.from.ensures (omega (arith, c.args.self.now.links.ok.0)) at now
          (λ n l ne was. noted_other selection count lines v n l (of_other v c.args.id n own ne) was)
          h.links;
    })
    (λ now. record {
      count = refl;
      links = table_set (λ n l. HasNotedLink selection (around_of count lines) n l) (λ n l. HasNotedLink selection (around_of count lines) n l) items id c.from.result new
          c.from.ensures (omega (arith, c.args.self.now.links.ok.0)) at now (λ n l ne was. was) h.links;
    })
    left)
