use Rattle.std.proofs.Common.{inl, inr, ◌≡◌, ◌∙◌, ◌↔◌, ◌⊎◌, ◌&&◌, ◌||◌, ℕ, ◌+◌, Bool, true, nat_le, List, arith, refl, sym, ap, subst}
use Rattle.afdx_frame.specs.declared.key.VlId.{VlId}
use Rattle.vl_config.specs.Link.{VirtualLink}
use Rattle.ledger_text.specs.declared.link_set.LinkSet.{LinkSet}
use Rattle.ledger_text.specs.Links.{has_link}
use Rattle.ledger_text.specs.Pattern.{IsMatch}
use Rattle.ledger_text.proofs.Taken.{Before, before_one_more, contained, joined_in, with_named, with_none, found_now, found_before}
use Rattle.ledger_text.proofs.link_set.LinkSet.insert_named.Goals.{then-matches, else-matches}
use Rattle.ledger_text.proofs.link_set.LinkSet.insert_named.Goals as goal

pub loop-link-preserved : goal.loop-link-preserved
loop-link-preserved c =
    let links = c.args.links.now in
    let pattern = c.args.pattern.now in
    let n = c.loop-link.link-index in
    let item = c.link-item.result in
    let old = c.loop-link.self in
    let more = λ (P : VirtualLink → Type 0). before_one_more P links n (n + 1) item (omega (arith, c.loop-link-test.true)) c.link-item.is refl in
    let view = c.link.view_is in
    let name : c.as_bytes-in-loop-link.result.now ≡ item.name = c.as_bytes-in-loop-link.ensures.value ∙ ap (λ (v : VirtualLink). v.name) view in
    let id_is : c.link.inside.id ≡ item.id = ap (λ (v : VirtualLink). v.id) view in
    elim c.if-matches.branch [
      | then-matches w ↦
          let named : IsMatch pattern item.name =
          subst (λ (p : List ℕ). IsMatch p item.name) c.as_bytes.ensures.value
          (subst (λ (m : List ℕ). IsMatch c.as_bytes.result.now m) name (c.matches.ensures.0 w.if-matches.true)) in record {
            held = λ id.
                let is : has_link c.if-matches.self id ≡ (has_link old id || (nat_le item.id.0 id && nat_le id item.id.0)) =
                ap (λ (s : LinkSet). has_link s id) w.self-is ∙ (w.insert_range.ensures id ∙ ap (λ (v : VlId). has_link old id || (nat_le v.0 id && nat_le id v.0)) id_is) in
                joined_in (c.loop-link.invariant.held id) (more (λ link. IsMatch pattern link.name × (link.id.0 ≡ id)))
                (with_named (has_link old id) (has_link c.if-matches.self id) item.id.0 id is named);
            found = found_now c.if-matches.found w.found-is (more (λ link. IsMatch pattern link.name)) named;
          }
      | else-matches w ↦
          let never : IsMatch pattern item.name → ⊥ = λ m.
          let t = c.matches.ensures.1 (subst (λ (p : List ℕ). IsMatch p c.as_bytes-in-loop-link.result.now) (sym c.as_bytes.ensures.value)
          (subst (λ (m : List ℕ). IsMatch pattern m) (sym name) m)) in
          let f = w.if-matches.false in
          absurd (cc) in record {
            held = λ id. subst (λ (s : LinkSet). (has_link s id ≡ true) ↔ ((has_link c.args.self.now id ≡ true) ⊎ Before (λ link. IsMatch pattern link.name × (link.id.0 ≡ id)) links (n + 1))) (sym w.self-is)
                (joined_in (c.loop-link.invariant.held id) (more (λ link. IsMatch pattern link.name × (link.id.0 ≡ id))) (with_none (λ q. never q.0)));
            found = subst (λ (b : Bool). (b ≡ true) ↔ Before (λ link. IsMatch pattern link.name) links (n + 1)) (sym w.found-is)
                (found_before c.loop-link.found c.loop-link.invariant.found (more (λ link. IsMatch pattern link.name)) never);
          }
    ]

pub returns-clause-held : goal.returns-clause-held
returns-clause-held c = λ id.
    let all = contained (λ (link : VirtualLink). IsMatch c.args.pattern.now link.name × (link.id.0 ≡ id)) c.args.links.now c.loop-link.link-index (omega (arith, c.loop-link-test.false)) in
    let inv = c.loop-link.invariant.held id in (
      λ t. elim (inv.0 t) [ inl o ↦ inl o | inr b ↦ let r = all.0 b in inr (r.0, r.1, r.2.0, r.2.1) ],
      λ s. elim s [ inl o ↦ inv.1 (inl o) | inr m ↦ inv.1 (inr (all.1 (m.0, m.1, (m.2, m.3)))) ],
    )

pub returns-clause-found : goal.returns-clause-found
returns-clause-found c =
    let all = contained (λ (link : VirtualLink). IsMatch c.args.pattern.now link.name) c.args.links.now c.loop-link.link-index (omega (arith, c.loop-link-test.false)) in
    (λ t. all.0 (c.loop-link.invariant.found.0 t), λ m. c.loop-link.invariant.found.1 (all.1 m))
