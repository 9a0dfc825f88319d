-- Laws of the pairing, which hold of its definition alone.
use Rattle.std.specs.Prelude.{◌≡◌, ℕ, ◌<◌, ◌≤◌, Bool, true, List, Some, ◌↔◌, length, slice_get}
use Rattle.transit_match.specs.Pairing.{Row, Arrival, IsPairing, may_be}

-- this frame that went in is paired with that one that came out
abbrev pub IsPairAt : {K : Type 0} → List (Row K) → ℕ → ℕ → Type 0
IsPairAt {K} rows in_place out_place = (row : Row K) × (slice_get rows in_place ≡ Some row) × (row.partner ≡ Some out_place)

-- both are in one window and have one key
abbrev pub MayPair : {K : Type 0} → (K → K → Bool) → ℕ → List (Row K) → List (Arrival K) → ℕ → ℕ → Type 0
MayPair {K} same window rows arrivals in_place out_place = (row : Row K) × (arrival : Arrival K) × (slice_get rows in_place ≡ Some row)
    × (slice_get arrivals out_place ≡ Some arrival) × (may_be same window row arrival ≡ true)

-- A frame that came out has one partner. (That one that went in has, its row says.)
abbrev pub OnePartner : {K : Type 0} → (K → K → Bool) → Type 0
OnePartner {K} same = (window : ℕ) (rows : List (Row K)) (arrivals : List (Arrival K)) → IsPairing same window rows arrivals →
    (i k j : ℕ) → IsPairAt rows i j → IsPairAt rows k j → i ≡ k

abbrev pub RowsRise : {K : Type 0} → List (Row K) → Type 0
RowsRise {K} rows = (i k : ℕ) (x y : Row K) → i < k → slice_get rows i ≡ Some x → slice_get rows k ≡ Some y → x.moment ≤ y.moment

abbrev pub ArrivalsRise : {K : Type 0} → List (Arrival K) → Type 0
ArrivalsRise {K} arrivals =
    (i k : ℕ) (x y : Arrival K) → i < k → slice_get arrivals i ≡ Some x → slice_get arrivals k ≡ Some y → x.moment ≤ y.moment

abbrev pub IsSymmetric : {K : Type 0} → (K → K → Bool) → Type 0
IsSymmetric {K} same = (a b : K) → same a b ≡ true → same b a ≡ true

abbrev pub IsTransitive : {K : Type 0} → (K → K → Bool) → Type 0
IsTransitive {K} same = (a b c : K) → same a b ≡ true → same b c ≡ true → same a c ≡ true

-- Frames of one key come out in the order in which they went in, where both recordings are in order.
abbrev pub OrderKept : {K : Type 0} → (K → K → Bool) → Type 0
OrderKept {K} same = IsSymmetric same → IsTransitive same →
    (window : ℕ) (rows : List (Row K)) (arrivals : List (Arrival K)) → IsPairing same window rows arrivals →
    RowsRise rows → ArrivalsRise arrivals → (i k j m : ℕ) (x y : Row K) → slice_get rows i ≡ Some x → slice_get rows k ≡ Some y →
    x.partner ≡ Some j → y.partner ≡ Some m → same x.key y.key ≡ true → j < m → i < k

-- Of a frame that came out without a partner, each that it may be has a partner that came out before it.
abbrev pub NoneMissedOut : {K : Type 0} → (K → K → Bool) → Type 0
NoneMissedOut {K} same = (window : ℕ) (rows : List (Row K)) (arrivals : List (Arrival K)) → IsPairing same window rows arrivals →
    (j : ℕ) → ((i : ℕ) → IsPairAt rows i j → ⊥) → (i : ℕ) → MayPair same window rows arrivals i j →
    (m : ℕ) × (m < j) × IsPairAt rows i m

-- Of a frame that went in without a partner, each that it may be has a partner that went in before it.
abbrev pub NoneMissedIn : {K : Type 0} → (K → K → Bool) → Type 0
NoneMissedIn {K} same = (window : ℕ) (rows : List (Row K)) (arrivals : List (Arrival K)) → IsPairing same window rows arrivals →
    (i : ℕ) → ((j : ℕ) → IsPairAt rows i j → ⊥) → (j : ℕ) → MayPair same window rows arrivals i j →
    (k : ℕ) × (k < i) × IsPairAt rows k j

-- Neither recording is favoured: a frame that went in is paired with the first that came out that it may be, of those without a
-- partner that went in before it.
abbrev pub Symmetry : {K : Type 0} → (K → K → Bool) → Type 0
Symmetry {K} same = (window : ℕ) (rows : List (Row K)) (arrivals : List (Arrival K)) → IsPairing same window rows arrivals →
    (i j : ℕ) → IsPairAt rows i j ↔ (MayPair same window rows arrivals i j × ((k : ℕ) → k < i → IsPairAt rows k j → ⊥)
    × ((m : ℕ) → m < j → MayPair same window rows arrivals i m → (k : ℕ) × (k < i) × IsPairAt rows k m))

-- both lists are of the same frames
abbrev pub SameFrames : {K : Type 0} → List (Row K) → List (Row K) → Type 0
SameFrames {K} rows others = (length rows ≡ length others) × ((i : ℕ) (x y : Row K) → slice_get rows i ≡ Some x → slice_get others i ≡ Some y →
    (x.moment ≡ y.moment) × (x.key ≡ y.key))

-- There is one pairing.
abbrev pub OnePairing : {K : Type 0} → (K → K → Bool) → Type 0
OnePairing {K} same = (window : ℕ) (rows others : List (Row K)) (arrivals : List (Arrival K)) → SameFrames rows others →
    IsPairing same window rows arrivals → IsPairing same window others arrivals →
    (i j : ℕ) → IsPairAt rows i j → IsPairAt others i j
