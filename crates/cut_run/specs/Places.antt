-- The order in which frames of a recording are asked for: by timestamp, then by index (this project's profile).
use Rattle.std.specs.Prelude.{◌≡◌, ℕ, ◌<◌, ◌≤◌, Bool, Option, None, Some, ⊤}
use Rattle.std.specs.Ordering.{is_lt, nat_cmp, ordering_then}
use Rattle.std.specs.declared.cmp.Ordering.{Ordering}
use Rattle.afdx_frame.specs.Frame.{Frame}
use Rattle.cut_run.specs.declared.place.SearchPlace.{SearchPlace}

abbrev pub place_at : ℕ → ℕ → SearchPlace
place_at stamp number = record { stamp = record { 0 = stamp }; number = number }

abbrev pub place_of : Frame → SearchPlace
place_of f = place_at f.stamp f.number

abbrev pub place_cmp : SearchPlace → SearchPlace → Ordering
place_cmp p q = ordering_then (nat_cmp p.stamp.0 q.stamp.0) (nat_cmp p.number q.number)

abbrev pub is_below : SearchPlace → SearchPlace → Bool
is_below p q = is_lt (place_cmp p q)

-- no later timestamp, and at the same timestamp a lower index
abbrev pub IsBelow : SearchPlace → SearchPlace → Type 0
IsBelow p q = (p.stamp.0 ≤ q.stamp.0) × (p.stamp.0 ≡ q.stamp.0 → p.number < q.number)

-- the place is above the one that was asked for last, where there is one
abbrev pub IsAbove : Option SearchPlace → SearchPlace → Type 0
IsAbove None p = ⊤
IsAbove (Some floor) p = IsBelow floor p
