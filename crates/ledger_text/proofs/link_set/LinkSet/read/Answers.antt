use Rattle.std.proofs.Common.{◌≡◌, ◌∙◌, ℕ, length, List, arith, lit<, subst, get_or}
use Rattle.std.specs.List.{HoldsAt}
use Rattle.std.specs.Option.{option_copied}
use Rattle.std.proofs.lemmas.Iterator.Splits.{YieldsList-from_str_split}
use Rattle.std.proofs.lemmas.Iterator.Consumers.{YieldsList-turn, YieldsList-end}
use Rattle.std.proofs.lemmas.List.{length_push, get_or_default}
use Rattle.std.proofs.lemmas.List.Splits.{length-slice_split}
use Rattle.std.proofs.lemmas.List.Sums.{count_by-le-length}
use Rattle.ledger_text.specs.LinkList.{IsItemFault, IsRight, Takes}
use Rattle.ledger_text.specs.Words.{is_comma, items_of}
use Rattle.ledger_text.proofs.Reading.{one_more}
use Rattle.ledger_text.proofs.Taken.{before_one_more, joined_on}
use Rattle.ledger_text.proofs.link_set.LinkSet.read.Goals as goal

pub returns-in-Err-clause-fault : goal.returns-in-Err-clause-fault
returns-in-Err-clause-fault c =
    let text = c.args.text.now in
    let all = items_of text in
    let links = option_copied c.args.table in
    let n = length c.loop-item.yielded in
    let t = YieldsList-turn (YieldsList-from_str_split 44 text (lit< tt) (cc) (cc) (cc)) c.loop-item.yielded _ c.loop-item.yielded_by _ _ c.in-Some.item c.in-Some.is c.next.ensures.steps in
    let inv = c.loop-item.invariant in
    let index : n ≡ c.loop-item.index = omega (arith, t.0, inv.3, length-slice_split is_comma text, count_by-le-length is_comma text) in
    let here : (d : List ℕ) → IsItemFault links (get_or all n d) c.in-Err.why = λ d.
    subst (λ (item : List ℕ). IsItemFault links item c.in-Err.why) (t.1 ∙ get_or_default all n c.in-Some.item.now d t.0) c.in-Err.ensures.fault in
    (omega (arith, t.0, index), subst (λ (k : ℕ). HoldsAt (λ item. IsItemFault links item c.in-Err.why) all k) index here, λ k h. inv.4 k (omega (arith, index, h)))

pub loop-item-preserved : goal.loop-item-preserved
loop-item-preserved c =
    let text = c.args.text.now in
    let all = items_of text in
    let links = option_copied c.args.table in
    let n = length c.loop-item.yielded in
    let t = YieldsList-turn (YieldsList-from_str_split 44 text (lit< tt) (cc) (cc) (cc)) c.loop-item.yielded _ c.loop-item.yielded_by _ _ c.in-Some.item c.in-Some.is c.next.ensures.steps in
    let inv = c.loop-item.invariant in
    let m = length_push c.loop-item.yielded c.in-Some.item in (
      tt,
      tt,
      λ id. joined_on (inv.2 id) (before_one_more (λ (item : List ℕ). Takes links item id) all n _ c.in-Some.item.now t.0 t.1 m) (c.in_default.ensures.held id),
      omega (arith, inv.3, m, c.saturating_add.ensures, c.min-index.ensures),
      one_more (IsRight links) all n _ c.in-Some.item.now t.0 t.1 c.in_default.ensures.right inv.4 m,
    )

pub returns-clause-links : goal.returns-clause-links
returns-clause-links c = λ id.
    let text = c.args.text.now in
    let e = YieldsList-end (YieldsList-from_str_split 44 text (lit< tt) (cc) (cc) (cc)) c.loop-item.yielded _ c.loop-item.yielded_by _ _ c.in-None.is c.next.ensures.steps in
    let inv = c.loop-item.invariant.2 id in (
      λ t. let b = inv.0 t in (b.0, omega (arith, e.1, b.1), b.2),
      λ b. inv.1 (b.0, omega (arith, e.1, b.1), b.2),
    )

pub returns-clause-whole : goal.returns-clause-whole
returns-clause-whole c =
    let text = c.args.text.now in
    let e = YieldsList-end (YieldsList-from_str_split 44 text (lit< tt) (cc) (cc) (cc)) c.loop-item.yielded _ c.loop-item.yielded_by _ _ c.in-None.is c.next.ensures.steps in
    λ k d h. c.loop-item.invariant.4 k (omega (arith, e.1, h)) d
