use Rattle.std.proofs.Common.{None, replicate, subst, sym}
use Rattle.specified.specs.declared.model.round.Worker.TheVariants.{Idle}
use Rattle.specified.specs.Events.Sound.{IsSound}
use Rattle.specified.proofs.Events.Numbers.{all_idle}
use Rattle.specified.proofs.Events.Soundness.{new_is_of}
use Rattle.specified.proofs.model.engine.Core.new.Goals as goal

pub invariant_of-result : goal.invariant_of-result
invariant_of-result c =
    subst IsSound (sym c.in_ok-new.ensures) (
      c.args.late,
      c.args.a.items,
      c.args.b.items,
      new_is_of c.args.sizes c.args.late c.args.a.items c.args.b.items (replicate c.args.workers Idle) c.requires.recording_a c.requires.recording_b,
      all_idle None c.args.workers,
    )
