-- Tables of one value.
use Rattle.std.proofs.Common.{◌≡◌, ℕ, zero, suc, Bool, false, List, get_or, refl, subst, sym}
use Rattle.std.specs.Prelude.{replicate}

replicated : (n id : ℕ) → get_or (replicate n false) id false ≡ false
replicated zero id = refl
replicated (suc n) zero = refl
replicated (suc n) (suc id) = replicated n id

pub all_false : (xs : List Bool) (n id : ℕ) → xs ≡ replicate n false → get_or xs id false ≡ false
all_false xs n id e = subst (λ (ys : List Bool). get_or ys id false ≡ false) (sym e) (replicated n id)
