use Rattle.specified.specs.Events.Steps.{new_core}
use Rattle.specified.specs.Events.Sound.{core_run}
use Rattle.specified.proofs.Events.Soundness.{held_is, new_is_of, output_is_all, output_is_prefix, run_answers, run_sound}
use Rattle.specified.proofs.model.engine.every_run_is_in_order.Goals as goal

pub returns : goal.returns
returns c = λ answer sizes late a b workers events h k.
    let start = new_core sizes a b workers late in
    let end = core_run answer start events in
    let is = run_sound answer late a b start events (new_is_of sizes late a b workers h k) in
    (held_is late a b end is, output_is_prefix late a b end is, output_is_all late a b end is, run_answers answer start events record { output = tt; round = tt })
