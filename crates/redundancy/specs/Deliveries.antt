-- Redundancy management, over the list of the frames of one link that reached it on either network, in the order of time.
-- That the first of a frame's two copies is delivered, and that SkewMax bounds how much later the second may come, is ARINC 664
-- Part 7. That the bound is included, and that a number is delivered again on the same network, is this project's profile.
use Rattle.std.specs.Prelude.{◌≡◌, ℕ, ◌-◌, ◌<◌, ◌≤◌, Bool, true, false, ◌&&◌, List, reverse, find, Option, Some, None, ◌==◌, nat_le, if◌then◌else◌, slice_index_or}
use Rattle.std.specs.Option.{option_map, IfSome}
use Rattle.afdx_frame.specs.declared.key.Network.{Network}
use Rattle.afdx_frame.specs.declared.key.Network.TheVariants.{A, B}
use Rattle.redundancy.specs.declared.pair.Delivery.{Delivery}
use Rattle.redundancy.specs.declared.verdict.Redundancy.{Redundancy}
use Rattle.redundancy.specs.declared.verdict.Redundancy.TheVariants.{Deliver, Copy, Both}

-- a frame that reached redundancy management, with its verdict
pub record Entry : Type 0 where
  pub network : Network
  pub number : ℕ
  pub stamp : ℕ
  pub redundancy : Redundancy

abbrev pub is_delivered : Redundancy → Bool
is_delivered Deliver = true
is_delivered Copy = false
is_delivered Both = true

abbrev pub is_delivery_of : ℕ → Entry → Bool
is_delivery_of number entry = is_delivered entry.redundancy && (entry.number == number)

-- the latest delivery of a number: a search back from the end of the list
abbrev pub latest_delivery : List Entry → ℕ → Option Entry
latest_delivery entries number = find (is_delivery_of number) (reverse entries)

-- where and when a frame came
abbrev pub delivery_of : Entry → Delivery
delivery_of entry = record { network = entry.network; stamp = record { 0 = entry.stamp } }

abbrev pub is_other : Network → Network → Bool
is_other A A = false
is_other A B = true
is_other B A = true
is_other B B = false

-- the latest delivery was on the other network, at most the skew earlier
abbrev pub is_copy : Option Delivery → ℕ → Network → ℕ → Bool
is_copy None skew network stamp = false
is_copy (Some delivery) skew network stamp = is_other delivery.network network && nat_le (stamp - delivery.stamp.0) skew

-- the verdict of a frame after these, where the link has redundancy management on or off
abbrev pub verdict_of : Bool → ℕ → List Entry → Network → ℕ → ℕ → Redundancy
verdict_of on skew entries network number stamp =
    if on
    then (if is_copy (option_map delivery_of (latest_delivery entries number)) skew network stamp then Copy else Deliver)
    else Both

-- A pair stands so after these frames: of each sequence number it knows where and when its latest delivery came.
abbrev pub StandsAfter : List (Option Delivery) → List Entry → Type 0
StandsAfter latest entries =
    (number : ℕ) → number < 256 →
    slice_index_or latest number None ≡ option_map delivery_of (latest_delivery entries number)

-- a delivery came no later than the timestamp
abbrev pub IsNotLater : Option Delivery → ℕ → Type 0
IsNotLater latest stamp = IfSome latest (λ delivery. delivery.stamp.0 ≤ stamp)

-- no delivery that a pair keeps came later than the timestamp
abbrev pub NoneLater : List (Option Delivery) → ℕ → Type 0
NoneLater latest stamp = (number : ℕ) → number < 256 → IsNotLater (slice_index_or latest number None) stamp
