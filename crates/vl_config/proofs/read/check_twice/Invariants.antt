-- The links before the index have nothing twice: the first fault is that of the rest.
use Rattle.std.proofs.Common.{◌≡◌, [], take, drop}
use Rattle.vl_config.specs.Document.{twice_fault}
use Rattle.vl_config.proofs.read.check_twice.Given as goal

abbrev pub invariant-loop-index : goal.invariant-loop-index
invariant-loop-index l = twice_fault 0 [] l.links ≡ twice_fault l.index (take l.index l.links) (drop l.index l.links)
