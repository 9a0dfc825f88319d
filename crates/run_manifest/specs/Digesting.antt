-- The sum of bytes that pass one after the other (this project's profile): how many they are, up to 2^64 - 1, and their SHA-256
-- (FIPS 180-4).
use Rattle.std.specs.Prelude.{◌≡◌, ◌-◌, ◌^◌, ℕ, Bool, true, false, ⊤, List, [], take, length, min, Option, Some, None, Result, Ok, Err}
use Rattle.sha2.specs.Hashers.{Holds256}
use Rattle.sha2.specs.Sha256.{sha256}
use Rattle.sha2.specs.declared.Sha256.{Sha256}
use Rattle.run_manifest.specs.declared.digesting.Sum.{Sum}
use Rattle.run_manifest.specs.declared.digesting.Tally.{Tally}

-- how many there are, of which the count stays at 2^64 - 1
abbrev pub counted : List ℕ → ℕ
counted bytes = min (length bytes) (2 ^ 64 - 1)

-- the digest, where it is asked for
abbrev pub digest_if : Bool → List ℕ → Option (List ℕ)
digest_if true bytes = Some (sha256 bytes)
digest_if false bytes = None

-- the sum of these bytes, hashed or not
abbrev pub sum_of : Bool → List ℕ → Sum
sum_of hashed bytes = record { bytes = counted bytes; sha256 = digest_if hashed bytes }

-- a hasher that is there where bytes are hashed, and holds those that passed
abbrev pub HoldsIf : Bool → Option Sha256 → List ℕ → Type 0
HoldsIf true (Some hasher) bytes = Holds256 hasher bytes
HoldsIf false None bytes = ⊤
HoldsIf _ _ bytes = ⊥

-- exactly these bytes have passed, hashed or not
abbrev pub HasPassed : Bool → Tally → List ℕ → Type 0
HasPassed hashed tally bytes = (tally.bytes ≡ counted bytes) × HoldsIf hashed tally.hasher bytes

-- all that a read gave or a write took of the buffer
abbrev pub passed_bytes : {E : Type 0} → Result ℕ E → List ℕ → List ℕ
passed_bytes (Ok count) buffer = take count buffer
passed_bytes (Err e) buffer = []
