-- Sets of virtual links (ARINC 664 P7: an identifier has 16 bits).
use Rattle.std.specs.Prelude.{ℕ, Bool, false, slice_index_or}
use Rattle.ledger_text.specs.declared.link_set.LinkSet.{LinkSet}

-- the set holds the link with this identifier
abbrev pub has_link : LinkSet → ℕ → Bool
has_link set id = slice_index_or set.held.items id false
