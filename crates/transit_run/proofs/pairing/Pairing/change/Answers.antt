use Rattle.std.proofs.Common.{ℕ, [], ◌∷◌, arith, ap, refl, sym, ◌∙◌}
use Rattle.std.proofs.Common.{Option}
use Rattle.transit_run.specs.Waits.{alike, look, state_of}
use Rattle.transit_run.specs.declared.rows.Partner.{Partner}
use Rattle.transit_run.proofs.Waiting.{changes, look_at, looks_set, partner_none}
use Rattle.transit_run.proofs.Keeping.{keeps_pair, mark_at}
use Rattle.transit_run.proofs.pairing.Pairing.change.Goals as goal

pub returns-clause-keeps : goal.returns-clause-keeps
returns-clause-keeps c =
    keeps_pair c.args.self.now _ c.saturating_sub-index.result c.args.self.now.settled c.in-Some-get_mut.row.now _ c.in-Some.after.now _
    (omega (arith, c.in-Some-get_mut.ensures.variant.0 refl, c.args.self.now.befores.ok.0)) c.in-Some-get_mut.ensures.value refl refl
    (omega (arith, c.in-Some.ensures.variant.0 refl, c.args.self.now.afters.ok.0)) c.in-Some.ensures.value refl refl
    (sym c.is_some.ensures ∙ c.if-is_some.false) c.if-after.false refl
    (ap (λ (it : ℕ). mark_at c.in-Some.after.now.head.number it ∷ []) c.saturating_sub.ensures)

pub returns-clause-stays : goal.returns-clause-stays
returns-clause-stays c =
    changes (state_of c.args.self.now) _ c.saturating_sub-index.result (look c.in-Some-get_mut.row.now) _ c.if-index-self.false
    (look_at c.args.self.now.befores.items c.saturating_sub-index.result c.in-Some-get_mut.row.now
    (omega (arith, c.in-Some-get_mut.ensures.variant.0 refl, c.args.self.now.befores.ok.0)) c.in-Some-get_mut.ensures.value)
    (looks_set c.args.self.now.befores.items c.saturating_sub-index.result _)
    (sym (ap (λ (p : Option Partner). alike p) (partner_none c.in-Some-get_mut.row.now.partner (sym c.is_some.ensures ∙ c.if-is_some.false))))
