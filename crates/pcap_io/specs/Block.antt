-- A source that is read a block at a time, as contracts see it.
use Rattle.std.specs.Prelude.{◌≡◌, ◌⊎◌, ℕ, ◌<◌, List, [], slice_range, Option}
use Rattle.std.specs.Io.KnownBytes.{prepend_known}
use Rattle.afdx_frame.specs.FrameBytes.{block_bytes}
use Rattle.pcap_io.specs.Device.{CountsFailure}
use Rattle.pcap_io.specs.Items.{items_of}
use Rattle.pcap_io.specs.declared.block.BlockSource.{BlockSource}
use Rattle.pcap_io.specs.declared.block.DrawnPart.{DrawnPart}
use Rattle.pcap_io.specs.declared.item.ReadFault.{ReadFault}
use Rattle.pcap_io.specs.declared.item.ReadFault.TheVariants as faults

-- the source that it reads from
abbrev pub block_source : {S : Type 0} → BlockSource S → S
block_source b = b.source

-- the bytes of its block
abbrev pub block_items : {S : Type 0} → BlockSource S → List ℕ
block_items b = items_of b.block

-- bytes that were drawn with a share of their block
abbrev pub part_bytes : DrawnPart → List ℕ
part_bytes part = slice_range (block_bytes part.block) part.from part.to

-- a share of a block of these bytes, or a block of none
abbrev pub IsShareOf : List ℕ → List ℕ → Type 0
IsShareOf items bytes = (bytes ≡ []) ⊎ (bytes ≡ items)

-- all that was read ahead
abbrev pub unread_bytes : {S : Type 0} → BlockSource S → List ℕ
unread_bytes b = slice_range (items_of b.block) b.start b.end

-- all that the last draw gave
abbrev pub drawn_bytes : {S : Type 0} → BlockSource S → List ℕ
drawn_bytes b = slice_range (items_of b.block) b.from b.start

-- all that is left of both, where the source exposes its bytes
abbrev pub block_remaining : {S : Type 0} → (S → Option (List ℕ)) → BlockSource S → Option (List ℕ)
block_remaining remaining b = prepend_known (unread_bytes b) (remaining b.source)

-- The fault of a draw of so many bytes, by how often the source failed before and after it. Memory is missing only
-- for at least one byte.
abbrev pub IsDrawFault : ℕ → ℕ → ℕ → ReadFault → Type 0
IsDrawFault len old new faults.Device = CountsFailure old new
IsDrawFault len old new faults.Memory = (new ≡ old) × (0 < len)
IsDrawFault len old new faults.Failed = ⊥
