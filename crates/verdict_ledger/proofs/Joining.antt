-- Texts put together piece by piece.
use Rattle.std.proofs.Common.{◌≡◌, ℕ, ◌+◌, ◌<◌, List, [], ◌∷◌, ◌++◌, length, take, get_or, sym, ap, ◌∙◌, arith, append_assoc, append-nil}
use Rattle.std.proofs.lemmas.List.{take_more, length-take-le}
use Rattle.verdict_ledger.specs.Text.{filter_line, filter_lines}

pub join : (a b c x y : List ℕ) → b ≡ a ++ x → c ≡ b ++ y → c ≡ a ++ (x ++ y)
join a b c x y first second = second ∙ ap (λ (l : List ℕ). l ++ y) first ∙ append_assoc a x y

filter_lines-append : (first : ℕ) (xs : List ℕ) (y : ℕ) → filter_lines first (xs ++ y ∷ []) ≡ filter_lines first xs ++ filter_line (first + length xs) y
filter_lines-append first [] y = append-nil (filter_line first y) ∙ ap (λ (n : ℕ). filter_line n y) (omega arith)
filter_lines-append first (x ∷ xs) y =
    let next : first + 1 + length xs ≡ first + length (x ∷ xs) = omega arith in
    ap (λ (l : List ℕ). filter_line first x ++ l) (filter_lines-append (first + 1) xs y)
    ∙ sym (append_assoc (filter_line first x) (filter_lines (first + 1) xs) (filter_line (first + 1 + length xs) y))
    ∙ ap (λ (n : ℕ). (filter_line first x ++ filter_lines (first + 1) xs) ++ filter_line n y) next

-- one more filter's line
pub filter_lines_more : (xs : List ℕ) (i : ℕ) → i < length xs →
    filter_lines 0 (take (i + 1) xs) ≡ filter_lines 0 (take i xs) ++ filter_line i (get_or xs i 0)
filter_lines_more xs i within =
    let size : 0 + length (take i xs) ≡ i = omega (arith, length-take-le i xs (omega arith)) in
    ap (filter_lines 0) (take_more xs i 0 within)
    ∙ filter_lines-append 0 (take i xs) (get_or xs i 0)
    ∙ ap (λ (n : ℕ). filter_lines 0 (take i xs) ++ filter_line n (get_or xs i 0)) size
