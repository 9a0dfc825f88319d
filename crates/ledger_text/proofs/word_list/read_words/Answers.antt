use Rattle.std.proofs.Common.{◌≡◌, ◌≢◌, ◌∙◌, [], ℕ, length, take, List, arith, lit<, ap, sym, subst, get_or}
use Rattle.std.specs.Prelude.{flat_map}
use Rattle.std.specs.List.{HoldsAt}
use Rattle.std.proofs.lemmas.Iterator.Splits.{YieldsList-from_str_split}
use Rattle.std.proofs.lemmas.Iterator.Consumers.{YieldsList-turn, YieldsList-end}
use Rattle.std.proofs.lemmas.List.{length_push, take_all, get_or_default}
use Rattle.std.proofs.lemmas.List.Splits.{length-slice_split}
use Rattle.std.proofs.lemmas.List.Sums.{count_by-le-length}
use Rattle.ledger_text.specs.Words.{is_comma, items_of, words_named}
use Rattle.ledger_text.proofs.Reading.{joined, one_more, no_items, some_items, eqb_zero}
use Rattle.ledger_text.proofs.word_list.read_words.Goals as goal

pub returns-then-is_empty-clause-fault : goal.returns-then-is_empty-clause-fault
returns-then-is_empty-clause-fault c =
    let text = c.args.text.now in
    let all = items_of text in
    let n = length c.loop-item.yielded in
    let t = YieldsList-turn (YieldsList-from_str_split 44 text (lit< tt) (cc) (cc) (cc)) c.loop-item.yielded _ c.loop-item.yielded_by _ _ c.in-Some.item c.in-Some.is c.next.ensures.steps in
    let inv = c.loop-item.invariant in
    let index : n ≡ c.loop-item.index = omega (arith, t.0, inv.3, length-slice_split is_comma text, count_by-le-length is_comma text) in
    let none : words_named c.in-Some.item.now ≡ [] =
    sym c.in_ok-found.ensures ∙ (sym c.as_slice-named.ensures.value ∙ no_items c.as_slice-named.result.now (eqb_zero c.if-is_empty.true c.is_empty.ensures)) in
    let here : (d : List ℕ) → words_named (get_or all n d) ≡ [] = λ d. ap words_named (get_or_default all n d c.in-Some.item.now t.0 ∙ sym t.1) ∙ none in
    (omega (arith, t.0, index), subst (λ (k : ℕ). HoldsAt (λ item. words_named item ≡ []) all k) index here, λ k h. inv.4 k (omega (arith, index, h)))

pub loop-item-preserved : goal.loop-item-preserved
loop-item-preserved c =
    let text = c.args.text.now in
    let all = items_of text in
    let n = length c.loop-item.yielded in
    let t = YieldsList-turn (YieldsList-from_str_split 44 text (lit< tt) (cc) (cc) (cc)) c.loop-item.yielded _ c.loop-item.yielded_by _ _ c.in-Some.item c.in-Some.is c.next.ensures.steps in
    let inv = c.loop-item.invariant in
    let m = length_push c.loop-item.yielded c.in-Some.item in
    let named : c.as_slice-named.result.now ≡ words_named c.in-Some.item.now = c.as_slice-named.ensures.value ∙ c.in_ok-found.ensures in
    let more = joined words_named all n c.in-Some.item.now c.loop-item.words.items c.as_slice-named.result.now t.0 t.1 inv.2 named in
    let some : words_named c.in-Some.item.now ≢ [] = λ e. some_items (named ∙ e) c.if-is_empty.false c.is_empty.ensures in (
      tt,
      tt,
      c.in_ok-extend_from_slice.ensures.items ∙ (more ∙ ap (λ (k : ℕ). flat_map words_named (take k all)) (sym m)),
      omega (arith, inv.3, m, c.saturating_add.ensures, c.min-index.ensures),
      one_more (λ (item : List ℕ). words_named item ≢ []) all n _ c.in-Some.item.now t.0 t.1 some inv.4 m,
    )

pub returns-clause-words : goal.returns-clause-words
returns-clause-words c =
    let text = c.args.text.now in
    let all = items_of text in
    let e = YieldsList-end (YieldsList-from_str_split 44 text (lit< tt) (cc) (cc) (cc)) c.loop-item.yielded _ c.loop-item.yielded_by _ _ c.in-None.is c.next.ensures.steps in
    c.loop-item.invariant.2 ∙ ap (flat_map words_named) (take_all (length c.loop-item.yielded) all (omega (arith, e.1)))

pub returns-clause-whole : goal.returns-clause-whole
returns-clause-whole c =
    let text = c.args.text.now in
    let e = YieldsList-end (YieldsList-from_str_split 44 text (lit< tt) (cc) (cc) (cc)) c.loop-item.yielded _ c.loop-item.yielded_by _ _ c.in-None.is c.next.ensures.steps in
    λ k d h. c.loop-item.invariant.4 k (omega (arith, e.1, h)) d
