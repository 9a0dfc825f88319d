-- The effect of reads on known bytes.
use Rattle.std.proofs.Common.{◌≡◌, ℕ, suc, ◌<◌, Bool, true, false, ◌&&◌, List, [], ◌∷◌, ◌++◌, length, get_or, Option, Some, None, Result, Ok, Err, nat_lt, refl, sym, ap, ◌∙◌, subst, inl, inr, ◌⊎◌, lit<}
use Rattle.std.proofs.lemmas.Bool.{cases_lt, lt-ltb}
use Rattle.std.proofs.lemmas.List.{get_or_past}
use Rattle.std.specs.Io.KnownBytes.{Consumes, Keeps, IsAtEnd, ReadConsumes}
use Rattle.pcap_io.specs.Std.{read_answer}
use Rattle.pcap_io.specs.declared.device.DeviceFault.{DeviceFault}
use Rattle.pcap_io.specs.Bytes.{IsBytes, are_bytes, bytes_of, known_bytes}

both_true : (a b : Bool) → (a && b) ≡ true → (a ≡ true) × (b ≡ true)
both_true true b e = (refl, e)
both_true false b e = cc

which : (b : Bool) → (b ≡ true) ⊎ (b ≡ false)
which true = inl refl
which false = inr refl

pub are_bytes-within : (xs : List ℕ) → ((i : ℕ) → i < length xs → get_or xs i 0 < 256) → IsBytes xs
are_bytes-within xs fits i = elim (cases_lt i (length xs)) [
  | inl within ↦ fits i within
  | inr past ↦ subst (λ (x : ℕ). x < 256) (sym (get_or_past xs i 0 past)) (lit< tt)
]

pub are_bytes-from : (xs : List ℕ) → IsBytes xs → are_bytes xs ≡ true
are_bytes-from [] fits = refl
are_bytes-from (x ∷ xs) fits =
    let first : nat_lt x 256 ≡ true = lt-ltb x 256 (fits 0) in
    let more : are_bytes xs ≡ true = are_bytes-from xs (λ i. fits (suc i)) in
    rw (first, more) refl

pub bytes_of-from : (xs : List ℕ) → IsBytes xs → bytes_of xs ≡ Some xs
bytes_of-from xs fits =
    let all : are_bytes xs ≡ true = are_bytes-from xs fits in
    rw all refl

-- of bytes joined, those that follow are bytes
are_bytes-after : (gone ys : List ℕ) → are_bytes (gone ++ ys) ≡ true → are_bytes ys ≡ true
are_bytes-after [] ys e = e
are_bytes-after (x ∷ gone) ys e = are_bytes-after gone ys (both_true _ _ e).1

pub bytes_of-consumed : (xs ys gone : List ℕ) → xs ≡ gone ++ ys → Consumes (bytes_of xs) (bytes_of ys) gone
bytes_of-consumed xs ys gone e = elim (which (are_bytes xs)) [
  | inl t ↦
      let rest : are_bytes ys ≡ true = are_bytes-after gone ys (ap are_bytes (sym e) ∙ t) in
      rw (t, rest) e
  | inr f ↦ rw f tt
]

pub bytes_of-kept : (xs ys : List ℕ) → ys ≡ xs → Keeps (bytes_of xs) (bytes_of ys)
bytes_of-kept xs ys e = elim (which (are_bytes xs)) [
  | inl t ↦
      let rest : are_bytes ys ≡ true = ap are_bytes e ∙ t in
      rw (t, rest) e
  | inr f ↦ rw f tt
]

pub bytes_of-end : (xs : List ℕ) → xs ≡ [] → IsAtEnd (bytes_of xs)
bytes_of-end xs e = elim (which (are_bytes xs)) [
  | inl t ↦ rw t e
  | inr f ↦ rw f tt
]

pub known_bytes-consumed : (a b : Option (List ℕ)) (gone : List ℕ) → Consumes a b gone → Consumes (known_bytes a) (known_bytes b) gone
known_bytes-consumed None b gone p = tt
known_bytes-consumed (Some xs) None gone p = absurd p
known_bytes-consumed (Some xs) (Some ys) gone p = bytes_of-consumed xs ys gone p

pub known_bytes-kept : (a b : Option (List ℕ)) → Keeps a b → Keeps (known_bytes a) (known_bytes b)
known_bytes-kept None b p = tt
known_bytes-kept (Some xs) None p = absurd p
known_bytes-kept (Some xs) (Some ys) p = bytes_of-kept xs ys p

pub known_bytes-end : (a : Option (List ℕ)) → IsAtEnd a → IsAtEnd (known_bytes a)
known_bytes-end None p = tt
known_bytes-end (Some xs) p = bytes_of-end xs p

-- all that a source over a reader gives
pub read_known : {E : Type 0} (a b : Option (List ℕ)) (r : Result ℕ E) (answer : Result ℕ DeviceFault) (buf : List ℕ)
    → answer ≡ read_answer r → ReadConsumes a b r buf → ReadConsumes (known_bytes a) (known_bytes b) answer buf
read_known a b (Ok n) answer buf e p = rw e (known_bytes-consumed a b _ p.0, λ none room. known_bytes-end b (p.1 none room))
read_known a b (Err x) answer buf e p = rw e (known_bytes-kept a b p)
