-- The bytes of a block.
use Rattle.std.specs.Prelude.{ℕ, List, [], ⊤}
use Rattle.std.specs.Arc.{arc_value}
use Rattle.pcap_io.specs.declared.memory.BlockMemory.{BlockMemory}
use Rattle.pcap_io.specs.declared.memory.BlockMemory.TheVariants.{Empty, Own, Shared}

abbrev pub items_of : BlockMemory → List ℕ
items_of Empty = []
items_of (Own block) = block.items
items_of (Shared block) = (arc_value block).items

-- no frame shares it
abbrev pub IsUnshared : BlockMemory → Type 0
IsUnshared Empty = ⊤
IsUnshared (Own block) = ⊤
IsUnshared (Shared block) = ⊥
