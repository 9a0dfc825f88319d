use Rattle.std.proofs.Common.{◌≡◌, None, [], arith}
use Rattle.std.proofs.lemmas.Grind.{common_steps}
use Rattle.vl_config.specs.Document.{twice_fault}
use Rattle.vl_config.proofs.Distinct.{links_distinct}
use Rattle.vl_config.proofs.read.check_twice.Goals as goal

pub returns-clause-distinct : goal.returns-clause-distinct
returns-clause-distinct c =
    let none : twice_fault 0 [] c.args.links.now ≡ None = grind (arith, common_steps) in
    links_distinct c.args.links.now none
