-- Lists whose items are bytes, and why what a source exposes is one.
use Rattle.std.specs.Prelude.{◌≡◌, ℕ, zero, suc, ◌<◌, Bool, true, false, ◌&&◌, ◌⊎◌, List, [], ◌∷◌, slice_index, nat_lt, Option, Some, None, IfSome, if◌then◌else◌, refl}
use Rattle.std.proofs.Common.{inl, inr, lit<}
use Rattle.std.proofs.lemmas.Bool.{ltb-true}

-- each is a byte
abbrev pub IsBytes : List ℕ → Type 0
IsBytes bytes = (i : ℕ) → slice_index bytes i < 256

abbrev pub are_bytes : List ℕ → Bool
are_bytes [] = true
are_bytes (b ∷ bs) = nat_lt b 256 && are_bytes bs

-- the bytes, where each is one
abbrev pub bytes_of : List ℕ → Option (List ℕ)
bytes_of xs = if are_bytes xs then Some xs else None

-- the known bytes, where each is one
abbrev pub known_bytes : Option (List ℕ) → Option (List ℕ)
known_bytes None = None
known_bytes (Some xs) = bytes_of xs

both_true : (a b : Bool) → (a && b) ≡ true → (a ≡ true) × (b ≡ true)
both_true true b e = (refl, e)
both_true false b e = cc

which : (b : Bool) → (b ≡ true) ⊎ (b ≡ false)
which true = inl refl
which false = inr refl

pub are_bytes-true : (xs : List ℕ) → are_bytes xs ≡ true → IsBytes xs
are_bytes-true [] e i = lit< tt
are_bytes-true (x ∷ xs) e zero = ltb-true x 256 (both_true _ _ e).0
are_bytes-true (x ∷ xs) e (suc i) = are_bytes-true xs (both_true _ _ e).1 i

pub bytes_of-are_bytes : (xs : List ℕ) → IfSome (bytes_of xs) IsBytes
bytes_of-are_bytes xs = elim (which (are_bytes xs)) [
  | inl t ↦ rw t (are_bytes-true xs t)
  | inr f ↦ rw f tt
]

pub known_bytes-are_bytes : (known : Option (List ℕ)) → IfSome (known_bytes known) IsBytes
known_bytes-are_bytes None = tt
known_bytes-are_bytes (Some xs) = bytes_of-are_bytes xs
