-- A supply of files, and what it gives.
use Rattle.std.specs.Prelude.{◌≡◌, ℕ, ◌+◌, List, [], ◌∷◌, Option, Some, None, ⊤}
use Rattle.pcap_io.specs.declared.told.Told.{Told}
use Rattle.pcapng.specs.Given.{Given}

-- the files that are still to come stay as they were
abbrev pub KeepsFiles : Option (List Given) → Option (List Given) → Type 0
KeepsFiles None new = ⊤
KeepsFiles (Some xs) None = ⊥
KeepsFiles (Some xs) (Some ys) = ys ≡ xs

-- one of the files that were to come came, or there was none
abbrev pub CountsNext : {F : Type 0} → ℕ → ℕ → Option F → Type 0
CountsNext old new None = (old ≡ 0) × (new ≡ 0)
CountsNext old new (Some file) = old ≡ new + 1

-- the first of the files came, which holds and tells this, and the others are still to come
abbrev pub IsFirst : {F : Type 0} → (F → Option (List ℕ)) → (F → Told) → List Given → List Given → Option F → Type 0
IsFirst remaining told [] ys None = ys ≡ []
IsFirst remaining told [] ys (Some file) = ⊥
IsFirst remaining told (x ∷ xs) ys None = ⊥
IsFirst remaining told (x ∷ xs) ys (Some file) = (remaining file ≡ Some x.bytes) × (told file ≡ x.told) × (ys ≡ xs)

-- The next of the files came, or there is none. `remaining` is what is left of a file, and `told` what it tells at its end.
abbrev pub GivesNext : {F : Type 0} → (F → Option (List ℕ)) → (F → Told) → Option (List Given) → Option (List Given) → Option F → Type 0
GivesNext remaining told None new came = ⊤
GivesNext remaining told (Some xs) None came = ⊥
GivesNext remaining told (Some xs) (Some ys) came = IsFirst remaining told xs ys came
