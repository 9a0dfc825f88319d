-- The effect of a call on a device: the bytes that it takes or gives, and the count of its failures.
use Rattle.std.specs.Prelude.{◌≡◌, ℕ, ◌+◌, ◌-◌, ◌^◌, ◌<◌, ◌≤◌, min, List, length, take, Option, Result, OnOk, OnErr}
use Rattle.std.specs.Io.KnownBytes.{Appends, Consumes}

-- The call failed. The count of failures rises by 1, and stays at 2^64 - 1 once there.
abbrev pub CountsFailure : ℕ → ℕ → Type 0
CountsFailure old new = new ≡ min (old + 1) (2 ^ 64 - 1)

-- the call didn't fail: the count stays, and is below its top
abbrev pub NoFailure : ℕ → ℕ → Type 0
NoFailure old new = (new ≡ old) × (old < 2 ^ 64 - 1)

-- at most so many bytes are gone
abbrev pub TakesAtMost : ℕ → Option (List ℕ) → Option (List ℕ) → Type 0
TakesAtMost n before after = (gone : List ℕ) × (length gone ≤ n) × Consumes before after gone

-- fewer bytes are gone
abbrev pub TakesFewer : ℕ → Option (List ℕ) → Option (List ℕ) → Type 0
TakesFewer n before after = (gone : List ℕ) × (length gone < n) × Consumes before after gone

-- known bytes grow by a prefix of the bytes
abbrev pub AppendsPrefix : Option (List ℕ) → Option (List ℕ) → List ℕ → Type 0
AppendsPrefix old new bytes = (n : ℕ) × (n < length bytes) × Appends old new (take n bytes)

-- A call of this result wrote all the bytes, or its device failed after a prefix of them.
pub record Writes {T E : Type 0} (result : Result T E) (old new : Option (List ℕ)) (before after : ℕ) (bytes : List ℕ) : Type 0 where
  pub complete : OnOk result (Appends old new bytes)
  pub prefix : OnErr result (AppendsPrefix old new bytes)
  pub no_failure : OnOk result (after ≡ before)
  pub fault : OnErr result (CountsFailure before after)
