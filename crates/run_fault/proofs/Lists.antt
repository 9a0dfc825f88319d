-- Lists by their prefixes.
use Rattle.std.proofs.Common.{◌≡◌, ℕ, ◌+◌, ◌<◌, List, [], ◌∷◌, ◌++◌, length, take, drop, get_or, suc, sym, ap, ◌∙◌, arith}
use Rattle.std.proofs.Math.Seq.{drop-cons, take-suc}

plus_one : (n : ℕ) → n + 1 ≡ suc n
plus_one n = grind arith

pub drop_next : {X : Type 0} (xs : List X) (n : ℕ) (d : X) → n < length xs → drop n xs ≡ get_or xs n d ∷ drop (n + 1) xs
drop_next xs n d less = drop-cons xs n d less ∙ ap (λ m. get_or xs n d ∷ drop m xs) (sym (plus_one n))

pub take_next : {X : Type 0} (xs : List X) (n : ℕ) (d : X) → n < length xs → take (n + 1) xs ≡ take n xs ++ get_or xs n d ∷ []
take_next xs n d less = ap (λ m. take m xs) (plus_one n) ∙ take-suc xs n d less
