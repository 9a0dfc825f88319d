use Rattle.std.proofs.Common.{◌≡◌, ◌≤◌, ◌∙◌, ℕ, ◌++◌, [], List, Ok, length, take, append-nil, sym, subst, ap, rules}
use Rattle.ordered_merge.specs.Merge.{safe_frames}
use Rattle.afdx_frame.specs.Frame.{Frame}
use Rattle.tap_queue.specs.Ring.{taken_items}
use Rattle.tap_merge.proofs.RingItems.{at_most, is_met, kept_fault, stops_with, taken_after_cut, takes_none, whatever_failed}
use Rattle.tap_merge.proofs.TwoTaps.{all_cut, none_safe}
use Rattle.tap_merge.specs.Rings.{HasTaken}
use Rattle.tap_merge.proofs.rings.Rings.next_round.Goals as goal

pub returns-in-Err-clause-stopped : goal.returns-in-Err-clause-stopped
returns-in-Err-clause-stopped g c = λ late cut h.
    (let rings = c.merge_more.new.self in
    stops_with late cut rings rings.a rings.b (c.in_ok-merged.ensures.merged late cut h) (takes_none rings.a) (takes_none rings.b))

pub returns-then-merged-clause-merged : goal.returns-then-merged-clause-merged
returns-then-merged-clause-merged g c = λ late cut h.
    taken_after_cut c.get-most.result late cut c.merge_more.new.self c.cut.new.self c.in-Ok.round (c.in_ok-merged.ensures.merged late cut h) (search rules) (search rules)

pub returns-then-merged-clause-size : goal.returns-then-merged-clause-size
returns-then-merged-clause-size g c =
    let most = c.get-most.result in
    let safe = safe_frames c.merge_more.new.self.merger in
    rw c.in-Ok.ensures.round (subst (λ (n : ℕ). length (take most safe) ≤ n) c.get-most.ensures.value (at_most most safe))

pub returns-in-None-clause-merged : goal.returns-in-None-clause-merged
returns-in-None-clause-merged g c = λ late cut h.
    (let none : c.in-Ok.round ≡ [] = c.is_empty.ensures.0 (search rules) in
    taken_after_cut c.get-most.result late cut c.merge_more.new.self c.cut.new.self [] (c.in_ok-merged.ensures.merged late cut h) c.in-Ok.ensures.rest (sym none ∙ c.in-Ok.ensures.round))

pub returns-in-None-clause-ended : goal.returns-in-None-clause-ended
returns-in-None-clause-ended g c = λ _.
    (let rings = c.merge_more.new.self in
    let h = c.in_ok-merged.ensures.merged c.requires.0 c.requires.1 c.requires.2 in
    let both = c.in_ok-merged.ensures.ended (ap Ok c.if-merged.false) c.in-None.is in
    let none : c.in-Ok.round ≡ [] = c.is_empty.ensures.0 (search rules) in (
      is_met rings.end_a rings.merger.a (taken_items rings.a) h.ended_a both.0,
      is_met rings.end_b rings.merger.b (taken_items rings.b) h.ended_b both.1,
      sym (ap (λ (l : List Frame). l ++ c.cut.new.self.pending) none) ∙ sym c.in-Ok.ensures.whole
          ∙ all_cut rings.merger c.get-most.result c.get-most.ensures.nonzero both.0 both.1 (sym c.in-Ok.ensures.round ∙ none),
    ))

pub returns-clause-stopped : goal.returns-clause-stopped
returns-clause-stopped g c = λ late cut h.
    (let rings = c.merge_more.new.self in
    stops_with late cut rings rings.a rings.b (c.in_ok-merged.ensures.merged late cut h) (takes_none rings.a) (takes_none rings.b))

pub returns-clause-none_safe : goal.returns-clause-none_safe
returns-clause-none_safe g c =
    let rings = c.merge_more.new.self in
    let none : c.in-Ok.round ≡ [] = c.is_empty.ensures.0 (search rules) in
    whatever_failed c.in-Some.fault (
      rw c.in-Ok.ensures.rest (none_safe rings.merger c.get-most.result c.get-most.ensures.nonzero (sym c.in-Ok.ensures.round ∙ none)),
      λ late cut h. subst (λ (l : List Frame). HasTaken late l (record rings { merger = c.cut.new.self })) (append-nil cut)
          (taken_after_cut c.get-most.result late cut rings c.cut.new.self [] (c.in_ok-merged.ensures.merged late cut h) c.in-Ok.ensures.rest (sym none ∙ c.in-Ok.ensures.round)),
    )

pub returns-clause-fault : goal.returns-clause-fault
returns-clause-fault g c =
    let h = c.in_ok-merged.ensures.merged c.requires.0 c.requires.1 c.requires.2 in
    kept_fault c.requires.0 c.requires.1 c.merge_more.new.self c.in-Some.fault h c.in-Some.is
