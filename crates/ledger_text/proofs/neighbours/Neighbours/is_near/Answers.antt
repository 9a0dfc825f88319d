use Rattle.std.proofs.Common.{◌≡◌, ◌<◌, ◌++◌, ◌∷◌, [], ℕ, arith, subst, sym}
use Rattle.ledger_text.specs.FrameLines.{count_of}
use Rattle.ledger_text.specs.Neighbours.{HasAskedLink}
use Rattle.ledger_text.specs.Runs.{Covers, StandsAt}
use Rattle.ledger_text.specs.declared.link_runs.LinkRuns.{LinkRuns}
use Rattle.ledger_text.specs.declared.bounds.TheConstants.{MAX_LINES}
use Rattle.ledger_text.proofs.Nearness.{asked_other, asked_own, count_few, of_other, of_own, table_set}
use Rattle.ledger_text.proofs.neighbours.Neighbours.is_near.Goals as goal

pub returns : goal.returns
returns c = λ selection around before v few h own.
    (let id = c.args.id.0 in
    let old = c.index_mut.result.now in
    let new = c.is_near.new.self in
    let same : c.args.self.now.around ≡ around.count = h.count in
    let fits : c.from.result < 65536 = omega (arith, c.from.ensures) in
    let link : HasAskedLink selection around before id old =
    subst (λ (n : ℕ). HasAskedLink selection around before n old) c.from.ensures
    (subst (λ (l : LinkRuns). HasAskedLink selection around before c.from.result l) (sym c.index_mut.ensures.value) (h.links c.from.result old fits)) in
    let asked : old.asked < MAX_LINES = omega (arith, link.asked, count_few id before MAX_LINES few) in
    let near = c.is_near.ensures.near asked link.apart (subst (λ (n : ℕ). StandsAt n old.runs.items old.asked old.next) (sym same) link.stands) in
    let stands = subst (λ (n : ℕ). StandsAt n old.runs.items new.asked new.next) same near.1 in
    let covers = link.covers (count_of id before) in (
      (
        λ t. covers.0 (subst (λ (n : ℕ). Covers around.count old.runs.items n) link.asked (subst (λ (n : ℕ). Covers n old.runs.items old.asked) same (near.0.0 t))),
        λ is. near.0.1 (subst (λ (n : ℕ). Covers n old.runs.items old.asked) (sym same) (subst (λ (n : ℕ). Covers around.count old.runs.items n) (sym link.asked) (covers.1 is))),
      ),
      record {
        count = same;
        links = table_set (HasAskedLink selection around before) (λ n l. HasAskedLink selection around (before ++ v ∷ []) n l) c.args.self.now.links.items id c.from.result new
            c.from.ensures (omega (arith, c.args.self.now.links.ok.0)) (omega (arith, c.from.ensures, fits))
            (asked_own selection around before v id old new (of_own v c.args.id own) c.is_near.ensures.same (c.is_near.ensures.asked asked) stands link)
            (λ n l ne was. asked_other selection around before v n l (of_other v c.args.id n own ne) was)
            h.links;
      },
    ))
