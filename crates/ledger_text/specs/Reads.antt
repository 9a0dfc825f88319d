-- Reading a value from its text.
use Rattle.std.specs.Prelude.{◌≡◌, ℕ, ◌<◌, List, Bool, [], ◌∷◌, Option, Some, None, codes, IfSome, is_some}
use Rattle.std.specs.Option.{option_map_or}
use Rattle.verdict_ledger.specs.Text.{hex_digit}

-- Some x: the text is that of x, which fits. None: it is that of no value that fits.
abbrev pub Reads : {T : Type 0} → (T → Type 0) → (T → List ℕ) → List ℕ → Option T → Type 0
Reads {T = T} Fits text field None = (x : T) → Fits x → text x ≡ field → ⊥
Reads Fits text field (Some x) = Fits x × (text x ≡ field)

-- a value of any kind fits
abbrev pub Any : {T : Type 0} → T → Type 0
Any x = Unit {0}

-- the number is below a bound
abbrev pub Below : ℕ → ℕ → Type 0
Below bound n = n < bound

-- the text of a value, or a dash where there is none
abbrev pub dash_or : {T : Type 0} → (T → List ℕ) → Option T → List ℕ
dash_or text value = option_map_or text value (codes "-")

-- there is a value where one is wanted, and it fits
pub record Optional {T : Type 0} (Fits : T → Type 0) (wanted : Bool) (value : Option T) : Type 0 where
  pub present : is_some value ≡ wanted
  pub fits : IfSome value Fits

abbrev pub hex_text : ℕ → List ℕ
hex_text value = hex_digit value ∷ []
