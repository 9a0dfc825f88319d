-- The number that digits write, from the left on.
use Rattle.std.proofs.Common.{◌≡◌, ℕ, ◌+◌, ◌-◌, ◌*◌, ◌<◌, ◌≤◌, List, [], ◌∷◌, length, get_or, take, drop, refl, sym, ap, ◌∙◌, arith}
use Rattle.std.specs.Prelude.{fold}
use Rattle.std.proofs.lemmas.List.{take-append-drop}
use Rattle.std.proofs.lemmas.List.Sums.{fold_more, fold-append}
use Rattle.bpf_isa.specs.Numeric.{value_of}

abbrev pub next_value : ℕ → ℕ → ℕ
next_value n digit = n * 10 + (digit - 48)

pub value_none : value_of [] ≡ 0
unfolding value_of
value_none = refl

pub value_more : (digits : List ℕ) (i : ℕ) → i < length digits → value_of (take (i + 1) digits) ≡ value_of (take i digits) * 10 + (get_or digits i 0 - 48)
unfolding value_of
value_more digits i lt = fold_more next_value 0 digits i 0 lt

grows : (n : ℕ) (digits : List ℕ) → n ≤ fold next_value n digits
grows n [] = omega arith
grows n (d ∷ digits) = omega (arith, grows (next_value n d) digits)

-- further digits make it no smaller
pub value_large : (digits : List ℕ) (i most : ℕ) → most < value_of (take i digits) → most < value_of digits
unfolding value_of
value_large digits i most lt =
    let whole : fold next_value 0 digits ≡ fold next_value (fold next_value 0 (take i digits)) (drop i digits) =
    ap (fold next_value 0) (sym (take-append-drop i digits)) ∙ fold-append next_value 0 (take i digits) (drop i digits) in
    omega (arith, whole, grows (fold next_value 0 (take i digits)) (drop i digits))
