-- The pairing of the frames that went in with those that came out, by one key (this project's profile). A moment is in nanoseconds.
use Rattle.std.specs.Prelude.{◌≡◌, ℕ, ◌-◌, ◌<◌, Bool, true, false, ◌&&◌, List, Option, Some, None, ◌↔◌, nat_le, nat_lt, slice_get}

-- a frame that went in, and the place among those that came out of the one that it is paired with
pub record Row (K : Type 0) : Type 0 where
  pub moment : ℕ
  pub place : ℕ
  pub key : K
  pub partner : Option ℕ

-- a frame that came out
pub record Arrival (K : Type 0) : Type 0 where
  pub moment : ℕ
  pub key : K

-- the moment of coming out is in the window of that of going in
abbrev pub is_within : ℕ → ℕ → ℕ → Bool
is_within window in_moment out_moment = nat_le in_moment out_moment && nat_le (out_moment - in_moment) window

-- The key and the window allow that the frame that went in is the one that came out.
abbrev pub may_be : {K : Type 0} → (K → K → Bool) → ℕ → Row K → Arrival K → Bool
may_be same window row arrival = is_within window row.moment arrival.moment && same row.key arrival.key

-- the frame has a partner that came out before that place
abbrev pub came_before : Option ℕ → ℕ → Bool
came_before None place = false
came_before (Some partner) place = nat_lt partner place

-- Of the frames that went in, this one, at this place, is the first that may be that one that came out, of those that have no
-- partner that came out earlier.
pub record IsFirst {K : Type 0} (same : K → K → Bool) (window : ℕ) (rows : List (Row K)) (row : Row K) (in_place : ℕ)
    (arrival : Arrival K) (out_place : ℕ) : Type 0 where
  pub may : may_be same window row arrival ≡ true
  pub free : came_before row.partner out_place ≡ false
  pub first : (earlier : ℕ) (other : Row K) → earlier < in_place → slice_get rows earlier ≡ Some other →
      may_be same window other arrival ≡ true → came_before other.partner out_place ≡ true

-- The pairing: a frame that went in and one that came out are a pair exactly where the one is the first for the other.
abbrev pub IsPairing : {K : Type 0} → (K → K → Bool) → ℕ → List (Row K) → List (Arrival K) → Type 0
IsPairing {K} same window rows arrivals =
    (in_place out_place : ℕ) (row : Row K) → slice_get rows in_place ≡ Some row →
    (row.partner ≡ Some out_place) ↔
    ((arrival : Arrival K) × (slice_get arrivals out_place ≡ Some arrival) × IsFirst same window rows row in_place arrival out_place)
