-- The links before the index are read and have no fault: the first fault is that of the rest.
use Rattle.std.proofs.Common.{◌≡◌, map, take, drop}
use Rattle.toml.specs.View.{view}
use Rattle.vl_config.specs.Document.{link_in, links_fault}
use Rattle.vl_config.proofs.read.read_links.Given as goal

abbrev pub invariant-loop-index : goal.invariant-loop-index
invariant-loop-index l = record {
  read : l.links.items ≡ map link_in (map view (take l.index l.values));
  no_fault : links_fault 0 (map view l.values) ≡ links_fault l.index (map view (drop l.index l.values));
}
