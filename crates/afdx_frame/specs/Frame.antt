-- A frame as its recording holds it, without where it lies in memory, and the order of both taps' frames.
use Rattle.std.specs.Prelude.{ℕ, ◌<◌, ◌≤◌, ◌*◌, ◌^◌, List, codes, length}
use Rattle.std.specs.Ordering.{nat_cmp, ordering_then}
use Rattle.std.specs.declared.cmp.Ordering.{Ordering}
use Rattle.std.specs.declared.cmp.Ordering.TheVariants.{Less, Equal, Greater}
use Rattle.afdx_frame.specs.declared.bounds.TheConstants.{MAX_SNAPLEN}
use Rattle.afdx_frame.specs.declared.key.Network.{Network}
use Rattle.afdx_frame.specs.declared.key.Network.TheVariants.{A, B}
use Rattle.afdx_frame.specs.declared.key.Key.{Key}

pub record Frame : Type 0 where
  pub network : Network
  pub number : ℕ
  -- in nanoseconds
  pub stamp : ℕ
  -- the length on the wire
  pub whole : ℕ
  -- the bytes that the recording holds of it
  pub bytes : List ℕ

-- a frame of these parts
abbrev pub frame_with : Network → ℕ → ℕ → ℕ → List ℕ → Frame
frame_with network number stamp whole bytes = record {
  network = network;
  number = number;
  stamp = stamp;
  whole = whole;
  bytes = bytes;
}

-- The bounds of each frame: 2^32 frames a tap, 2^32 seconds, libpcap's largest snapshot length, and no more bytes captured
-- than were on the wire.
pub record IsFrame (f : Frame) : Type 0 where
  pub number_fits : f.number < 2 ^ 32
  pub stamp_fits : f.stamp < 1000000000 * 2 ^ 32
  pub few_bytes : length f.bytes ≤ MAX_SNAPLEN
  pub within_whole : length f.bytes ≤ f.whole

-- the same bounds on a frame's parts, of which `captured` is the number of bytes
abbrev pub AreWithin : ℕ → ℕ → ℕ → ℕ → Type 0
AreWithin number stamp whole captured =
    (number < 2 ^ 32) × (stamp < 1000000000 * 2 ^ 32) × (captured ≤ MAX_SNAPLEN) × (captured ≤ whole)

-- the frame's place in the order of both taps
abbrev pub key_of : Frame → Key
key_of f = record { stamp = record { 0 = f.stamp }; network = f.network; number = f.number }

-- the letters of the networks, as tables, ledgers and reports write them (this project's format)
abbrev pub network_letter : Network → List ℕ
network_letter A = codes "A"
network_letter B = codes "B"

-- the other of the two networks
abbrev pub other_network : Network → Network
other_network A = B
other_network B = A

-- network A stands before B
abbrev pub network_cmp : Network → Network → Ordering
network_cmp A A = Equal
network_cmp A B = Less
network_cmp B A = Greater
network_cmp B B = Equal

-- the order of both taps' frames: by timestamp, then by network, then by number
abbrev pub key_cmp : Key → Key → Ordering
key_cmp k l = ordering_then (nat_cmp k.stamp.0 l.stamp.0) (ordering_then (network_cmp k.network l.network) (nat_cmp k.number l.number))
