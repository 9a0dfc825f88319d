use Rattle.std.proofs.Common.{[], ◌∷◌}
use Rattle.cut_run.proofs.Printed.{written_after}
use Rattle.cut_run.proofs.print.write_line.Goals as goal

pub returns : goal.returns
returns g c =
    written_after c.write_all-2.result _ _ _ _ _ _ c.args.line.now (10 ∷ []) c.in_ok-write_all.ensures.complete c.in_ok-write_all.ensures.no_failure c.write_all-2.ensures
