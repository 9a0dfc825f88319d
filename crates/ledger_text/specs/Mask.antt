-- Masks of filters as a person writes them (this project's profile).
use Rattle.std.specs.Prelude.{◌≡◌, ◌≢◌, ℕ, ◌≤◌, ◌<◌, List, length}
use Rattle.std.specs.Str.Parse.{AllDigits, digits_value}

-- one or two hexadecimal digits, of either case, that write the mask, which is not 0
pub record IsMaskText (text : List ℕ) (mask : ℕ) : Type 0 where
  pub some : 0 < length text
  pub few : length text ≤ 2
  pub digits : AllDigits 16 text
  pub value : digits_value 16 text ≡ mask
  pub filters : mask ≢ 0
