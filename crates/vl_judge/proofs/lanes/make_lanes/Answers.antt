use Rattle.std.proofs.lemmas.List.{take_more}
use Rattle.vl_judge.proofs.Places.{AllNew-append}
use Rattle.vl_judge.proofs.lanes.make_lanes.Goals as goal

pub loop-link-preserved : goal.loop-link-preserved
loop-link-preserved c =
    rw (c.in_ok-push.ensures.items, take_more c.args.links.now c.loop-link.link-index c.link-item.result c.loop-link-test.true, ← c.link-item.is)
    (AllNew-append _ _ c.in_ok-new.field-0 c.link-item.result c.loop-link.invariant c.in_ok-new.ensures.after c.in_ok-new.ensures.none_later)
