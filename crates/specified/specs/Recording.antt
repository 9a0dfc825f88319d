-- A recording, frame by frame (this project's profile).
use Rattle.std.specs.Prelude.{◌≡◌, ℕ, ◌+◌, ◌≤◌, false, Option}
use Rattle.std.specs.Option.{ForSome}
use Rattle.afdx_frame.specs.Frame.{Frame}
use Rattle.afdx_frame.specs.declared.key.Network.{Network}
use Rattle.ordered_merge.specs.Merge.{Tap}

-- after frames of which `next` is the number and `high` the greatest timestamp
abbrev pub tap_at : ℕ → Option ℕ → Tap
tap_at next high = record { ended = false; next = next; high = high }

abbrev pub IsNextFrame : Network → ℕ → ℕ → Option ℕ → Frame → Type 0
IsNextFrame network late next high f = (f.network ≡ network) × (f.number ≡ next) × ForSome high (λ h. h ≤ f.stamp + late)
