use Rattle.vl_judge.proofs.After.{lane_after_stopped}
use Rattle.vl_judge.proofs.lane.LaneBox.judge.Goals as goal

pub returns-then-ne-clause-after : goal.returns-then-ne-clause-after
returns-then-ne-clause-after c = λ link earlier of stands.
    rw c.stopped.ensures (lane_after_stopped c.args.self.now link earlier c.args.frame.now c.class_by-class.result stands)
