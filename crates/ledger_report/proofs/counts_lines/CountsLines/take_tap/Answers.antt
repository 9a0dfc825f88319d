-- The line is that of the next network, and stands where its ending may.
use Rattle.std.proofs.Common.{◌≡◌, ◌<◌, ◌∙◌, ℕ, Bool, true, false, not, if◌then◌else◌, List, length, is_some, refl, sym, ap, arith}
use Rattle.std.proofs.lemmas.Bool.{false≢true, ltb-true}
use Rattle.std.proofs.lemmas.List.{length-map}
use Rattle.afdx_frame.specs.declared.key.Network.TheVariants.{A, B}
use Rattle.ledger_report.specs.CountsLines.{TakesEnding}
use Rattle.ledger_report.specs.TapLines.{IsTapLine, said_in}
use Rattle.verdict_ledger.specs.declared.totals.Totals.{Totals}
use Rattle.ledger_report.proofs.TakeSteps.{at_next, few_taps, first_known, first_unknown, not_both, of_next, was_none}
use Rattle.ledger_report.proofs.counts_lines.CountsLines.take_tap.Goals as goal
use Rattle.ledger_report.proofs.counts_lines.CountsLines.take_tap.Goals.{then-is_none, else-is_none, then-self-filters, else-self-filters}
use Rattle.ledger_report.proofs.counts_lines.CountsLines.take_tap.Goals.{in_default-via-in-Some+else-complete, in_default-via-in_default}

pub returns-in-Some-clause-right : goal.returns-in-Some-clause-right
returns-in-Some-clause-right c = λ lines are.
    (let endings = c.args.self.now.endings in
    let network : c.if-is_none.network ≡ (if is_some endings.a then B else A) = elim c.if-is_none.branch [
      | then-is_none w ↦ first_known (is_some endings.a) c.is_none.result c.if-is_none.network c.is_none.ensures w.if-is_none.true w.network-is
      | else-is_none w ↦ first_unknown (is_some endings.a) c.is_none.result c.if-is_none.network c.is_none.ensures w.if-is_none.false w.network-is
    ] in
    let room : length c.filters.result.now < c.args.self.now.filters = elim c.if-self-filters.branch [
      | then-self-filters w ↦ w.if-self-filters.true
      | else-self-filters w ↦ absurd (omega (arith, w.if-self-filters.false, ltb-true _ _ (sym w.complete-is ∙ c.if-complete.true)))
    ] in
    let none : is_some endings.b ≡ false = elim c.if-self-filters.branch [
      | then-self-filters w ↦ w.is_none-complete.ensures ∙ ap (λ (b : Bool). not b) (sym w.complete-is ∙ c.if-complete.true)
      | else-self-filters w ↦ absurd (omega (arith, w.if-self-filters.false, ltb-true _ _ (sym w.complete-is ∙ c.if-complete.true)))
    ] in
    let counts = ap (λ (n : Totals). n.frames) (c.network.ensures lines are) in
    let filters = simp length-map at (ap (λ (fs : List (List ℕ)). length fs) c.filters.ensures.value) in
    let told = rw c.in-Some.is at c.in_ok-ending.ensures in
    record {
      place = (omega (arith, room, filters), few_taps endings none);
      says = (
        said_in c.in-Some.ending,
        at_next (λ n count. IsTapLine n count (said_in c.in-Some.ending) c.args.line.now) lines endings c.if-is_none.network
            c.network.result.now.frames none network counts told,
      );
    })

pub returns-in-Some-clause-endings : goal.returns-in-Some-clause-endings
returns-in-Some-clause-endings c = λ lines are.
    (let endings = c.args.self.now.endings in
    let network : c.if-is_none.network ≡ (if is_some endings.a then B else A) = elim c.if-is_none.branch [
      | then-is_none w ↦ first_known (is_some endings.a) c.is_none.result c.if-is_none.network c.is_none.ensures w.if-is_none.true w.network-is
      | else-is_none w ↦ first_unknown (is_some endings.a) c.is_none.result c.if-is_none.network c.is_none.ensures w.if-is_none.false w.network-is
    ] in
    let none : is_some endings.b ≡ false = elim c.if-self-filters.branch [
      | then-self-filters w ↦ w.is_none-complete.ensures ∙ ap (λ (b : Bool). not b) (sym w.complete-is ∙ c.if-complete.true)
      | else-self-filters w ↦ absurd (omega (arith, w.if-self-filters.false, ltb-true _ _ (sym w.complete-is ∙ c.if-complete.true)))
    ] in
    let counts = ap (λ (n : Totals). n.frames) (c.network.ensures lines are) in
    let told = rw c.in-Some.is at c.in_ok-ending.ensures in
    at_next (λ n count. TakesEnding n count c.args.line.now endings c.put_ending.new.endings) lines endings c.if-is_none.network
    c.network.result.now.frames none network counts (c.put_ending.ensures c.network.result.now.frames c.args.line.now told))

pub returns-in_default-clause-right : goal.returns-in_default-clause-right
returns-in_default-clause-right c = λ lines are.
    (let endings = c.args.self.now.endings in
    let network : c.if-is_none.network ≡ (if is_some endings.a then B else A) = elim c.if-is_none.branch [
      | then-is_none w ↦ first_known (is_some endings.a) c.is_none.result c.if-is_none.network c.is_none.ensures w.if-is_none.true w.network-is
      | else-is_none w ↦ first_unknown (is_some endings.a) c.is_none.result c.if-is_none.network c.is_none.ensures w.if-is_none.false w.network-is
    ] in
    let counts = ap (λ (n : Totals). n.frames) (c.network.ensures lines are) in
    let filters = simp length-map at (ap (λ (fs : List (List ℕ)). length fs) c.filters.ensures.value) in (
      refl,
      λ right.
          (let none = not_both endings right.place.1 in
          let complete : c.if-self-filters.complete ≡ true = elim c.if-self-filters.branch [
            | then-self-filters w ↦ w.complete-is ∙ was_none (is_some endings.b) w.is_none-complete.result w.is_none-complete.ensures none
            | else-self-filters w ↦ absurd (omega (arith, w.if-self-filters.false, filters, right.place.0))
          ] in
          elim c.in_default.branch [
            | in_default-via-in-Some+else-complete w ↦ absurd (false≢true (sym w.if-complete.false ∙ complete))
            | in_default-via-in_default w ↦ (let never = rw w.in_default.is at c.in_ok-ending.ensures in
                never right.says.0
                (of_next (λ n count. IsTapLine n count right.says.0 c.args.line.now) lines endings c.if-is_none.network c.network.result.now.frames
                none network counts right.says.1))
          ]),
    ))
