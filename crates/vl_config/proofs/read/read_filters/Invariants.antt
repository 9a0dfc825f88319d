use Rattle.std.proofs.Common.{◌≡◌, map, take, string_bytes}
use Rattle.toml.specs.View.{view}
use Rattle.vl_config.specs.Document.{text_of}
use Rattle.vl_config.proofs.read.read_filters.Given as goal

abbrev pub invariant-loop-value : goal.invariant-loop-value
invariant-loop-value l = map string_bytes l.filters.items ≡ map text_of (map view (take l.value-index l.values))
