-- Where the frames of one network stand that lines of both have named.
use Rattle.std.proofs.Common.{◌≡◌, ◌<◌, ◌≤◌, Option, None, Some, refl, sym, arith}
use Rattle.std.proofs.lemmas.Cmp.{ranked}
use Rattle.std.specs.Ordering.{MatchOrdering, nat_cmp, ordering_then}
use Rattle.std.specs.declared.cmp.Ordering.{Ordering}
use Rattle.std.specs.declared.cmp.Ordering.TheVariants.{Less, Equal, Greater}
use Rattle.afdx_frame.specs.Frame.{key_cmp, network_cmp}
use Rattle.afdx_frame.specs.declared.key.Key.{Key}
use Rattle.afdx_frame.specs.declared.key.Network.{Network}
use Rattle.afdx_frame.specs.declared.key.Network.TheVariants.{A, B}
use Rattle.cut_run.specs.Places.{IsAbove, place_at}
use Rattle.cut_run.specs.declared.place.SearchPlace.{SearchPlace}
use Rattle.ledger_text.specs.declared.frame.FrameLine.{FrameLine}
use Rattle.cut_run.specs.Lines.{ComesLater, key_of_line}
use Rattle.cut_run.specs.Naming.{FloorWithin, rank}

ranked_networks : (m n : Network) → MatchOrdering (network_cmp m n) (rank m < rank n) (rank m ≡ rank n) (rank n < rank m)
ranked_networks A A = refl
ranked_networks A B = omega arith
ranked_networks B A = omega arith
ranked_networks B B = refl

-- the first key is below the second
record Below (k l : Key) : Type 0 where
  stamps : k.stamp.0 ≤ l.stamp.0
  networks : k.stamp.0 ≡ l.stamp.0 → rank k.network ≤ rank l.network
  numbers : k.stamp.0 ≡ l.stamp.0 → rank k.network ≡ rank l.network → k.number < l.number

means : (o n r : Ordering) (k l : Key) → MatchOrdering o (k.stamp.0 < l.stamp.0) (k.stamp.0 ≡ l.stamp.0) (l.stamp.0 < k.stamp.0)
    → MatchOrdering n (rank k.network < rank l.network) (rank k.network ≡ rank l.network) (rank l.network < rank k.network)
    → MatchOrdering r (k.number < l.number) (k.number ≡ l.number) (l.number < k.number)
    → ordering_then o (ordering_then n r) ≡ Less → Below k l
means Less n r k l a b c e = record { stamps = omega arith; networks = λ s. absurd (omega arith); numbers = λ s t. absurd (omega arith) }
means Greater n r k l a b c e = cc
means Equal Less r k l a b c e = record { stamps = omega arith; networks = λ s. omega arith; numbers = λ s t. absurd (omega arith) }
means Equal Greater r k l a b c e = cc
means Equal Equal Less k l a b c e = record { stamps = omega arith; networks = λ s. omega arith; numbers = λ s t. c }
means Equal Equal Equal k l a b c e = cc
means Equal Equal Greater k l a b c e = cc

below : (k l : Key) → key_cmp k l ≡ Less → Below k l
below k l e =
    means (nat_cmp k.stamp.0 l.stamp.0) (network_cmp k.network l.network) (nat_cmp k.number l.number) k l
    (ranked k.stamp.0 l.stamp.0 (nat_cmp k.stamp.0 l.stamp.0) refl) (ranked_networks k.network l.network)
    (ranked k.number l.number (nat_cmp k.number l.number) refl) e

-- a line that comes later names a frame above those that were named of its network
pub above : (floor : Option SearchPlace) (last : Option Key) (v : FrameLine) → FloorWithin v.network floor last → ComesLater last v
    → IsAbove floor (place_at v.stamp.0 v.number)
above None last v within later = tt
above (Some p) None v within later = absurd within
above (Some p) (Some k) v within later =
    let b = below k (key_of_line v) later in
    let first = b.stamps in (
      omega (arith, within.0, first),
      λ same. (let one : p.stamp.0 ≡ k.stamp.0 = omega (arith, within.0, first) in
          let two : k.stamp.0 ≡ v.stamp.0 = omega (arith, within.0, first) in
          let low = (within.1 one).0 in
          let high = b.networks two in
          let equal : rank v.network ≡ rank k.network = omega (arith, low, high) in
          let number = (within.1 one).1 equal in
          let more = b.numbers two (sym equal) in
          omega (arith, number, more)),
    )

-- a floor that was named stays within the lines
pub within_more : (network : Network) (floor : Option SearchPlace) (last : Option Key) (v : FrameLine) → FloorWithin network floor last → ComesLater last v
    → FloorWithin network floor (Some (key_of_line v))
within_more network None last v within later = tt
within_more network (Some p) None v within later = absurd within
within_more network (Some p) (Some k) v within later =
    let b = below k (key_of_line v) later in
    let first = b.stamps in (
      omega (arith, within.0, first),
      λ same. (let one : p.stamp.0 ≡ k.stamp.0 = omega (arith, within.0, first) in
          let two : k.stamp.0 ≡ v.stamp.0 = omega (arith, within.0, first) in
          let low = (within.1 one).0 in
          let high = b.networks two in (
            omega (arith, low, high),
            λ equal. (let left : rank network ≡ rank k.network = omega (arith, low, high) in
                let right : rank k.network ≡ rank v.network = omega (arith, low, high) in
                let number = (within.1 one).1 left in
                let more = b.numbers two right in
                omega (arith, number, more)),
          )),
    )

pub within_itself : (v : FrameLine) → FloorWithin v.network (Some (place_at v.stamp.0 v.number)) (Some (key_of_line v))
within_itself v = (omega arith, λ same. (omega arith, λ equal. omega arith))
