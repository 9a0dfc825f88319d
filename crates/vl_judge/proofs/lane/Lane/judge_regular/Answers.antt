-- The side of the frame's network and the pair know the frame, and the other side stays.
use Rattle.std.proofs.Common.{◌≡◌, ap, sym, refl}
use Rattle.afdx_frame.specs.declared.key.Network.TheVariants.{A, B}
use Rattle.vl_judge.specs.declared.lane.Lane.{Lane}
use Rattle.vl_judge.specs.Verdicts.{checked_numbers, managed_entries, sequence_number}
use Rattle.vl_judge.proofs.After.{lane_after_a, lane_after_b}
use Rattle.vl_judge.proofs.lane.Lane.judge_regular.Goals as goal
use Rattle.vl_judge.proofs.lane.Lane.judge_regular.Goals.{in-A, in-B}

pub returns-clause-after : goal.returns-clause-after
returns-clause-after c = λ link earlier of stands.
    let number : c.unwrap_or-sn.result ≡ sequence_number c.args.frame.now =
    rw (c.unwrap_or-sn.ensures, c.sequence.ensures) refl in
    elim c.match-network.branch [
      | in-A w ↦ lane_after_a c.args.self.now _ link earlier _ of (sym w.in-A.ensures) stands
          (ap (λ (l : Lane). l.id) w.self-is) (ap (λ (l : Lane). l.smax) w.self-is) (ap (λ (l : Lane). l.skew) w.self-is)
          (ap (λ (l : Lane). l.integrity) w.self-is) (ap (λ (l : Lane). l.redundancy) w.self-is) (ap (λ (l : Lane). l.b) w.self-is)
          (rw (w.self-is, w.policing-is) (w.judge.ensures.account link _ stands.a.account))
          (rw (w.self-is, w.policing-is, ← number) (w.judge.ensures.check (checked_numbers link.id A earlier) stands.a.check))
          (rw (← number) (c.manage-redundancy.ensures.after (managed_entries link.id earlier) (rw w.self-is stands.pair)))
      | in-B w ↦ lane_after_b c.args.self.now _ link earlier _ of (sym w.in-B.ensures) stands
          (ap (λ (l : Lane). l.id) w.self-is) (ap (λ (l : Lane). l.smax) w.self-is) (ap (λ (l : Lane). l.skew) w.self-is)
          (ap (λ (l : Lane). l.integrity) w.self-is) (ap (λ (l : Lane). l.redundancy) w.self-is) (ap (λ (l : Lane). l.a) w.self-is)
          (rw (w.self-is, w.policing-is) (w.judge-in-B.ensures.account link _ stands.b.account))
          (rw (w.self-is, w.policing-is, ← number) (w.judge-in-B.ensures.check (checked_numbers link.id B earlier) stands.b.check))
          (rw (← number) (c.manage-redundancy.ensures.after (managed_entries link.id earlier) (rw w.self-is stands.pair)))
    ]
