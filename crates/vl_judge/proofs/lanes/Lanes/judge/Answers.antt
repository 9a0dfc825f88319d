-- The frame's lane, where it has one, says its verdict and then knows the frame; the other lanes stay.
use Rattle.std.proofs.Common.{◌≡◌, ◌<◌, ◌≤◌, length, Some, None, ap, sym, ◌∙◌, arith}
use Rattle.vl_judge.specs.Lanes.{LanesState, place_of}
use Rattle.vl_judge.proofs.Judging.{verdicts-append, last_key-append, item_none_later, lanes_kept, unmoved_kept, verdict_in_place, knows_in_place, verdict_without_lane, knows_without_lane}
use Rattle.vl_judge.proofs.lanes.Lanes.judge.Goals as goal

pub judge-verdict-requires : goal.judge-verdict-requires
judge-verdict-requires c =
    let at : c.place_of-place.result ≡ place_of c.self.inside.lanes.items c.args.frame.now =
    rw (ap (λ (s : LanesState). s.lanes) c.self.view_is) c.place_of-place.ensures in
    let within : c.place_of-place.result < length c.self.inside.lanes.items = omega (arith, c.len.ensures, c.if-place-len.true) in
    item_none_later c.self.inside.lanes.items c.self.inside.last c.args.frame.now c.place_of-place.result c.index_mut.result.now
    at within c.index_mut.ensures.value (rw (ap (λ (s : LanesState). s.last) c.self.view_is) c.requires) c.self.invariant.1

pub invariant_of-self : goal.invariant_of-self
invariant_of-self c =
    let at : c.place_of-place.result ≡ place_of c.self.inside.lanes.items c.args.frame.now =
    rw (ap (λ (s : LanesState). s.lanes) c.self.view_is) c.place_of-place.ensures in
    let within : c.place_of-place.result < length c.self.inside.lanes.items = omega (arith, c.len.ensures, c.if-place-len.true) in
    lanes_kept c.self.inside.index.items c.self.inside.lanes.items c.self.inside.last c.key.result c.args.frame.now
    c.place_of-place.result c.index_mut.result.now c.judge-verdict.new.self at within c.index_mut.ensures.value
    c.judge-verdict.ensures.id c.key.ensures (rw (ap (λ (s : LanesState). s.last) c.self.view_is) c.requires)
    c.judge-verdict.ensures.none_later c.self.invariant

pub invariant_of-self-else-place-len : goal.invariant_of-self-else-place-len
invariant_of-self-else-place-len c =
    unmoved_kept c.self.inside.index.items c.self.inside.lanes.items c.self.inside.last c.key-else-place-len.result c.args.frame.now
    c.key-else-place-len.ensures (rw (ap (λ (s : LanesState). s.last) c.self.view_is) c.requires) c.self.invariant

pub returns-then-place-len-clause-verdict : goal.returns-then-place-len-clause-verdict
returns-then-place-len-clause-verdict c = λ vl_table frames stands.
    let at : c.place_of-place.result ≡ place_of c.self.inside.lanes.items c.args.frame.now =
    rw (ap (λ (s : LanesState). s.lanes) c.self.view_is) c.place_of-place.ensures in
    let within : c.place_of-place.result < length c.self.inside.lanes.items = omega (arith, c.len.ensures, c.if-place-len.true) in
    verdicts-append vl_table frames c.args.frame.now c.judge-verdict.result
    (verdict_in_place vl_table frames c.args.frame.now c.self.inside.lanes.items c.self.inside.constant c.place_of-place.result
    c.index_mut.result.now c.judge-verdict.result (ap (λ (s : LanesState). s.constant) c.self.view_is ∙ stands.constant)
    at within c.index_mut.ensures.value (λ id. rw (ap (λ (s : LanesState). s.lanes) c.self.view_is) (stands.lanes id))
    c.judge-verdict.ensures.verdict)

pub returns-then-place-len-clause-after : goal.returns-then-place-len-clause-after
returns-then-place-len-clause-after c = λ vl_table frames stands.
    let at : c.place_of-place.result ≡ place_of c.self.inside.lanes.items c.args.frame.now =
    rw (ap (λ (s : LanesState). s.lanes) c.self.view_is) c.place_of-place.ensures in
    let within : c.place_of-place.result < length c.self.inside.lanes.items = omega (arith, c.len.ensures, c.if-place-len.true) in
    let said = verdict_in_place vl_table frames c.args.frame.now c.self.inside.lanes.items c.self.inside.constant c.place_of-place.result
    c.index_mut.result.now c.judge-verdict.result (ap (λ (s : LanesState). s.constant) c.self.view_is ∙ stands.constant)
    at within c.index_mut.ensures.value (λ id. rw (ap (λ (s : LanesState). s.lanes) c.self.view_is) (stands.lanes id))
    c.judge-verdict.ensures.verdict in
    record {
      constant = ap (λ (s : LanesState). s.constant) c.self.view_is ∙ stands.constant;
      last = ap Some c.key.ensures ∙ sym (last_key-append None frames c.args.frame.now);
      lanes = knows_in_place vl_table frames c.args.frame.now c.self.inside.lanes.items c.place_of-place.result
          c.index_mut.result.now c.judge-verdict.new.self c.judge-verdict.result at within c.index_mut.ensures.value
          c.judge-verdict.ensures.id (λ id. rw (ap (λ (s : LanesState). s.lanes) c.self.view_is) (stands.lanes id))
          c.judge-verdict.ensures.after said;
    }

pub returns-else-place-len-clause-verdict : goal.returns-else-place-len-clause-verdict
returns-else-place-len-clause-verdict c = λ vl_table frames stands.
    let past : length c.self.inside.lanes.items ≤ place_of c.self.inside.lanes.items c.args.frame.now =
    omega (
      arith,
      c.len.ensures,
      c.if-place-len.false,
      rw (← ap (λ (s : LanesState). s.lanes) c.self.view_is) at c.place_of-place.ensures,
    ) in
    verdicts-append vl_table frames c.args.frame.now c.stopped-verdict.result
    (rw (c.stopped-verdict.ensures, c.class_by.ensures)
    (verdict_without_lane vl_table frames c.args.frame.now c.self.inside.lanes.items c.self.inside.constant
    (ap (λ (s : LanesState). s.constant) c.self.view_is ∙ stands.constant) past
    (λ id. rw (ap (λ (s : LanesState). s.lanes) c.self.view_is) (stands.lanes id))))

pub returns-else-place-len-clause-after : goal.returns-else-place-len-clause-after
returns-else-place-len-clause-after c = λ vl_table frames stands.
    let past : length c.self.inside.lanes.items ≤ place_of c.self.inside.lanes.items c.args.frame.now =
    omega (
      arith,
      c.len.ensures,
      c.if-place-len.false,
      rw (← ap (λ (s : LanesState). s.lanes) c.self.view_is) at c.place_of-place.ensures,
    ) in
    record {
      constant = ap (λ (s : LanesState). s.constant) c.self.view_is ∙ stands.constant;
      last = ap Some c.key-else-place-len.ensures ∙ sym (last_key-append None frames c.args.frame.now);
      lanes = knows_without_lane vl_table frames c.args.frame.now c.self.inside.lanes.items
          _ (verdict_without_lane vl_table frames c.args.frame.now c.self.inside.lanes.items c.self.inside.constant
          (ap (λ (s : LanesState). s.constant) c.self.view_is ∙ stands.constant) past
          (λ id. rw (ap (λ (s : LanesState). s.lanes) c.self.view_is) (stands.lanes id)))
          (λ id. rw (ap (λ (s : LanesState). s.lanes) c.self.view_is) (stands.lanes id));
    }
