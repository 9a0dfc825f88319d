-- Where the items of the numeric form begin.
use Rattle.std.proofs.Common.{◌≡◌, refl, ℕ, ◌-◌, List, ◌∷◌, false}
use Rattle.std.specs.Prelude.{◌==◌}
use Rattle.bpf_isa.specs.Numeric.{Item, offset_in}

pub further : (i : ℕ) (item : Item) (items rest : List Item) → items ≡ item ∷ rest → (i == 0) ≡ false → offset_in i items ≡ offset_in (i - 1) rest
further i item items rest e more = rw (e, more) refl
