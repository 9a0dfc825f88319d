-- Packets that are given as they stand in their file (this project's profile).
use Rattle.std.specs.Prelude.{◌≡◌, ℕ, ◌≤◌, List, [], ◌∷◌, length, take, flat_map}
use Rattle.pcap_io.specs.Layout.{nanoseconds_of}
use Rattle.pcap_io.specs.Recording.{IsGood, Packet, high_after, packet_bytes, stamp_of}
use Rattle.pcap_io.specs.declared.layout.ByteOrder.TheVariants.{Little}
use Rattle.pcap_io.specs.declared.layout.Layout.{Layout}

-- the layout of what is given: little-endian, in nanoseconds
pub record IsGivenLayout (layout : Layout) : Type 0 where
  pub order : layout.order ≡ Little
  pub unit : nanoseconds_of layout.precision ≡ 1

-- a good packet, whenever it came, whose length on the wire is no less than that of its bytes
pub record IsPassed (layout : Layout) (r : Packet) : Type 0 where
  pub good : IsGood layout 0 0 r
  pub whole : length r.bytes ≤ r.original_len

abbrev pub ArePassed : Layout → List Packet → Type 0
ArePassed layout [] = Unit {0}
ArePassed layout (r ∷ rs) = IsPassed layout r × ArePassed layout rs

-- the bytes begin with such a packet, of this length and timestamp
pub record BeginsPassed (layout : Layout) (bytes : List ℕ) (len stamp : ℕ) : Type 0 where
  pub packet : Packet
  pub passed : IsPassed layout packet
  pub within : len ≤ length bytes
  pub same : take len bytes ≡ packet_bytes layout packet
  pub time : stamp ≡ stamp_of layout packet

-- the bytes are so many of them, of which this is the greatest timestamp
pub record IsRun (layout : Layout) (bytes : List ℕ) (frames greatest : ℕ) : Type 0 where
  pub packets : List Packet
  pub passed : ArePassed layout packets
  pub same : bytes ≡ flat_map (packet_bytes layout) packets
  pub count : frames ≡ length packets
  pub time : greatest ≡ high_after layout 0 packets
