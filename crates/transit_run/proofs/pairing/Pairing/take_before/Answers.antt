use Rattle.std.proofs.Common.{refl, arith, ap, map, List}
use Rattle.transit_run.specs.Waits.{look, state_of}
use Rattle.transit_run.specs.declared.rows.GoneIn.{GoneIn}
use Rattle.transit_run.proofs.Waiting.{leads, queues_kept}
use Rattle.transit_run.proofs.pairing.Pairing.take_before.Goals.{in-Some, in_default}
use Rattle.transit_run.proofs.pairing.Pairing.take_before.Goals as goal

pub returns-clause-leads : goal.returns-clause-leads
returns-clause-leads c =
    let looks = ap (λ (l : List GoneIn). map look l) c.in_ok-row.ensures.items in
    elim c.match-get_mut.branch [
      | in-Some w ↦
          rw w.self-is
          (leads (state_of c.args.self.now) (look c.in_ok-row.row) (map look c.pop_front.new.self.items) _ _ _ looks c.saturating_add-self.ensures
          c.saturating_sub-self.ensures
          (queues_kept c.args.self.now.lanes.items c.in_ok-row.row.head.place w.in-Some.lane.now _
          (omega (arith, w.in-Some.ensures.variant.0 refl, c.args.self.now.lanes.ok.0)) w.in-Some.ensures.value refl))
      | in_default w ↦
          rw w.self-is
          (leads (state_of c.args.self.now) (look c.in_ok-row.row) (map look c.pop_front.new.self.items) _ _ _ looks c.saturating_add-self.ensures
          c.saturating_sub-self.ensures refl)
    ]
