-- The rest of a list after its first elements, for the loops over it.
use Rattle.std.proofs.Common.{◌≡◌, ℕ, ◌+◌, ◌<◌, List, length, map, get_or, take, drop, refl}
use Rattle.std.proofs.lemmas.List.{take_more, drop_more}
use Rattle.std.specs.Option.{option_or}
use Rattle.toml.specs.View.{view}
use Rattle.toml.specs.declared.value.Value.{Value}
use Rattle.vl_config.specs.Link.{VirtualLink}
use Rattle.vl_config.specs.Document.{link_fault, links_fault, twice_in, twice_fault}

pub links_fault_more : (values : List Value) (i : ℕ) (value : Value) → i < length values → value ≡ get_or values i value →
    links_fault i (map view (drop i values)) ≡ option_or (link_fault i (view value)) (links_fault (i + 1) (map view (drop (i + 1) values)))
links_fault_more values i value h e = rw (drop_more values i value h, ← e) refl

pub twice_fault_more : (links : List VirtualLink) (i : ℕ) (link : VirtualLink) → i < length links → link ≡ get_or links i link →
    twice_fault i (take i links) (drop i links)
    ≡ option_or (twice_in i (take i links) link) (twice_fault (i + 1) (take (i + 1) links) (drop (i + 1) links))
twice_fault_more links i link h e = rw (drop_more links i link h, take_more links i link h, ← e) refl
