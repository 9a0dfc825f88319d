use Rattle.std.proofs.Common.{◌∙◌}
use Rattle.std.proofs.lemmas.Result.{err_from_is_err_and}
use Rattle.tap_merge.proofs.RingItems.{agrees_a, agrees_b, failed_a, failed_b, known_of, merged_of_a, merged_of_b, stops_with, takes_none}
use Rattle.tap_merge.proofs.rings.Rings.merge_one.Goals as goal

pub merge_item-requires : goal.merge_item-requires
merge_item-requires g c = agrees_a c.requires.taken.0 c.requires.taken.1 c.args.self.now c.requires.taken.2 (rw c.in-Some-A.field-0-is at c.in-Some-A.ensures).0

pub returns-in_err-self-in-Some-A-clause-stopped : goal.returns-in_err-self-in-Some-A-clause-stopped
returns-in_err-self-in-Some-A-clause-stopped g c =
    let p = err_from_is_err_and c.from_residual.result c.from_residual.ensures.1 in
    rw p.1 (λ late cut h. stops_with late cut c.args.self.now c.merge_item.new.end c.args.self.now.b h c.merge_item.ensures.takes (takes_none c.args.self.now.b))

pub merge_item-requires-in-Some-B : goal.merge_item-requires-in-Some-B
merge_item-requires-in-Some-B g c = agrees_b c.requires.taken.0 c.requires.taken.1 c.args.self.now c.requires.taken.2 (rw c.in-Some-B.field-0-is at c.in-Some-B.ensures).0

pub returns-in_err-self-in-Some-B-clause-stopped : goal.returns-in_err-self-in-Some-B-clause-stopped
returns-in_err-self-in-Some-B-clause-stopped g c =
    let p = err_from_is_err_and c.from_residual-in_err-self-in-Some-B.result c.from_residual-in_err-self-in-Some-B.ensures.1 in
    rw p.1 (λ late cut h. stops_with late cut c.args.self.now c.args.self.now.a c.merge_item-in-Some-B.new.end h (takes_none c.args.self.now.a) c.merge_item-in-Some-B.ensures.takes)

pub returns-in_ok-self-in-Some-A-clause-merged : goal.returns-in_ok-self-in-Some-A-clause-merged
returns-in_ok-self-in-Some-A-clause-merged g c = λ late cut h.
    (let rings = c.args.self.now in
    let k = merged_of_a late cut rings.merger c.merge_item.new.merger rings.a c.merge_item.new.end _ c.in_ok-self-in-Some-A.field-0 rings.end_a rings.end_b
    (rw c.in-Some-A.field-0-is at c.in-Some-A.ensures).0 (known_of late cut rings h) c.in_ok-self-in-Some-A.ensures.merged in
    record {
      late_is = k.late_is;
      network_a = c.merge_item.ensures.takes.same.1 ∙ h.network_a;
      network_b = h.network_b;
      late_a = c.merge_item.ensures.takes.same.2 ∙ h.late_a;
      late_b = h.late_b;
      few_a = c.in_ok-self-in-Some-A.ensures.few;
      few_b = h.few_b;
      follows = k.follows;
      ended_a = k.ended_a;
      ended_b = k.ended_b;
      failed = rw c.requires.none tt;
    })

pub returns-in_ok-self-in-Some-B-clause-merged : goal.returns-in_ok-self-in-Some-B-clause-merged
returns-in_ok-self-in-Some-B-clause-merged g c = λ late cut h.
    (let rings = c.args.self.now in
    let k = merged_of_b late cut rings.merger c.merge_item-in-Some-B.new.merger rings.b c.merge_item-in-Some-B.new.end _ c.in_ok-self-in-Some-B.field-0 rings.end_a rings.end_b
    (rw c.in-Some-B.field-0-is at c.in-Some-B.ensures).0 (known_of late cut rings h) c.in_ok-self-in-Some-B.ensures.merged in
    record {
      late_is = k.late_is;
      network_a = h.network_a;
      network_b = c.merge_item-in-Some-B.ensures.takes.same.1 ∙ h.network_b;
      late_a = h.late_a;
      late_b = c.merge_item-in-Some-B.ensures.takes.same.2 ∙ h.late_b;
      few_a = h.few_a;
      few_b = c.in_ok-self-in-Some-B.ensures.few;
      follows = k.follows;
      ended_a = k.ended_a;
      ended_b = k.ended_b;
      failed = rw c.requires.none tt;
    })

pub returns-in_err-self-in-Some-A-clause-failed : goal.returns-in_err-self-in-Some-A-clause-failed
returns-in_err-self-in-Some-A-clause-failed g c =
    let p = err_from_is_err_and c.from_residual.result c.from_residual.ensures.1 in
    rw (p.1, p.2) (failed_a c.in_err-self-in-Some-A.field-0.0 c.args.self.now c.merge_item.new.merger c.merge_item.new.end c.requires.none
    (rw c.in-Some-A.field-0-is at c.in-Some-A.ensures).0 c.in_err-self-in-Some-A.ensures.unchanged c.in_err-self-in-Some-A.ensures.takes c.in_err-self-in-Some-A.ensures.failed)

pub returns-in_err-self-in-Some-B-clause-failed : goal.returns-in_err-self-in-Some-B-clause-failed
returns-in_err-self-in-Some-B-clause-failed g c =
    let p = err_from_is_err_and c.from_residual-in_err-self-in-Some-B.result c.from_residual-in_err-self-in-Some-B.ensures.1 in
    rw (p.1, p.2) (failed_b c.in_err-self-in-Some-B.field-0.0 c.args.self.now c.merge_item-in-Some-B.new.merger c.merge_item-in-Some-B.new.end c.requires.none
    (rw c.in-Some-B.field-0-is at c.in-Some-B.ensures).0 c.in_err-self-in-Some-B.ensures.unchanged c.in_err-self-in-Some-B.ensures.takes c.in_err-self-in-Some-B.ensures.failed)
