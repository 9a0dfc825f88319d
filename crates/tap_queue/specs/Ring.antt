-- A ring's two ends, as contracts see them.
use Rattle.std.specs.Prelude.{◌≡◌, ◌<◌, ◌++◌, [], ◌∷◌, ℕ, Bool, false, List}
use Rattle.rtrb.specs.Ring.{IsPair, SameConsumer, SameProducer, known_free, received, sent}
use Rattle.afdx_frame.specs.declared.key.Network.{Network}
use Rattle.pcap_io.specs.declared.reader.TapReader.{TapReader}
use Rattle.pcap_io.specs.Position.{Reading}
use Rattle.tap_queue.specs.Batches.{items_in, rest_items, taken_of}
use Rattle.tap_queue.specs.Items.{Gives, is_over}
use Rattle.tap_queue.specs.declared.item.TapItem.{TapItem}
use Rattle.tap_queue.specs.declared.ring.TapPut.{TapPut}
use Rattle.tap_queue.specs.declared.end.TapEnd.{TapEnd}
use Rattle.tap_queue.specs.declared.feeding.Fed.{Fed}

-- all items that were put, the oldest first
abbrev pub put_items : TapPut → List TapItem
put_items put = items_in (sent put.producer)

-- all items that were taken, the oldest first
abbrev pub taken_items : TapEnd → List TapItem
taken_items end = taken_of (received end.consumer) (rest_items end.rest)

-- the network whose items are put
abbrev pub tap_of : TapPut → Network
tap_of put = put.network

-- the network whose items are taken
abbrev pub network_of : TapEnd → Network
network_of end = end.next.network

-- by how many nanoseconds a stamp may lie below the greatest one before it
abbrev pub late_of : TapEnd → ℕ
late_of end = end.next.late

-- an item was lost
abbrev pub has_lost : TapEnd → Bool
has_lost end = end.lost

-- the two ends of one ring
abbrev pub IsRing : TapPut → TapEnd → Type 0
IsRing put end = IsPair put.producer end.consumer

-- the same end of the same ring
abbrev pub SamePut : TapPut → TapPut → Type 0
SamePut a b = SameProducer a.producer b.producer × (tap_of b ≡ tap_of a)

abbrev pub SameEnd : TapEnd → TapEnd → Type 0
SameEnd a b = SameConsumer a.consumer b.consumer × (network_of b ≡ network_of a) × (late_of b ≡ late_of a)

-- The end was looked at: nothing was taken.
pub record Looks (old new : TapEnd) : Type 0 where
  pub same : SameEnd old new
  pub taken : taken_items new ≡ taken_items old
  pub lost : has_lost new ≡ has_lost old

-- More items were put, which a reader gave, that stood so before the first and so after the last of them.
pub record PutsMore (before after : Reading) (old new : TapPut) : Type 0 where
  pub ring : SamePut old new
  pub more : List TapItem
  pub put : put_items new ≡ put_items old ++ more
  pub gives : Gives before more after

-- there is room for a batch, as this end knows
abbrev pub KnowsRoom : TapPut → Type 0
KnowsRoom put = 0 < known_free put.producer

-- at least one more item was put
abbrev pub PutsSome : TapPut → TapPut → Type 0
PutsSome old new = (item : TapItem) × (items : List TapItem) × (put_items new ≡ put_items old ++ item ∷ items)

-- The ring was filled: this end knows of no room that is left, unless the ending or a fault was put; where it knew of room before, more
-- was put.
pub record Fills (old new : TapPut) : Type 0 where
  pub full : is_over (put_items new) ≡ false → KnowsRoom new → ⊥
  pub some : KnowsRoom old → PutsSome old new

-- a new ring for the recording of a network: nothing was put, taken or lost
pub record IsNewRing (network : Network) (late : ℕ) (ends : TapPut × TapEnd) : Type 0 where
  pub ring : IsRing ends.0 ends.1
  pub none_put : put_items ends.0 ≡ []
  pub none_taken : taken_items ends.1 ≡ []
  pub not_lost : has_lost ends.1 ≡ false
  pub tap : tap_of ends.0 ≡ network
  pub network_is : network_of ends.1 ≡ network
  pub late_is : late_of ends.1 ≡ late

-- ---- a reader and its ring's end

abbrev pub reader_of : {S : Type 0} → Fed S → TapReader S
reader_of fed = fed.reader

abbrev pub put_of : {S : Type 0} → Fed S → TapPut
put_of fed = fed.put
