-- The bytes of a decimal number of at most 19 digits.
use Rattle.std.specs.Prelude.{◌≡◌, ℕ, ◌<◌, ◌≤◌, List, length, slice_index}
use Rattle.std.specs.Str.Parse.{AllDigits}

-- digits alone, and no leading zero but that of 0
pub record IsPlain (ds : List ℕ) : Type 0 where
  pub digits : AllDigits 10 ds
  pub some : 0 < length ds
  pub few : length ds ≤ 19
  pub leading : slice_index ds 0 ≡ 48 → length ds ≡ 1
