-- The bytes that were written of texts that follow one another.
use Rattle.std.proofs.Common.{◌≡◌, ℕ, suc, ◌+◌, List, [], ◌∷◌, ◌++◌, length, take, Option, sym, subst, ap, ◌∙◌, arith}
use Rattle.std.proofs.lemmas.List.{length-append, take-append-le}
use Rattle.std.proofs.KnownBytes.{Appends-trans}
use Rattle.std.specs.Io.KnownBytes.{Appends}
use Rattle.pcap_io.specs.Device.{AppendsPrefix}

-- the bytes before, and as many more
pub take_past : (front rest : List ℕ) (n : ℕ) → take (length front + n) (front ++ rest) ≡ front ++ take n rest
take_past [] rest n = ap (λ m. take m rest) (omega arith)
take_past (x ∷ front) rest n = ap (λ m. take m (x ∷ front ++ rest)) (one_more (length front) n) ∙ ap (λ (l : List ℕ). x ∷ l) (take_past front rest n)
  where
    one_more : (m k : ℕ) → suc m + k ≡ suc (m + k)
    one_more m k = omega arith

-- a prefix after all that stands before it, of a longer text
pub prefix_after : (a b c : Option (List ℕ)) (front next rest all : List ℕ) → Appends a b front → AppendsPrefix b c next → all ≡ front ++ (next ++ rest) → AppendsPrefix a c all
prefix_after a b c front next rest all first (n, within, appended) e =
    let taken : take (length front + n) all ≡ front ++ take n next =
    ap (take (length front + n)) e ∙ take_past front (next ++ rest) n ∙ ap (λ (l : List ℕ). front ++ l) (take-append-le n next rest (omega arith)) in
    let size : length all ≡ length front + (length next + length rest) =
    ap length e ∙ length-append front (next ++ rest) ∙ ap (λ m. length front + m) (length-append next rest) in
    (length front + n, omega arith, subst (Appends a c) (sym taken) (Appends-trans a b c front (take n next) first appended))
