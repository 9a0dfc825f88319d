-- The added places hold no value.
use Rattle.std.proofs.Common.{◌≡◌, ◌∙◌, ◌≤◌, ◌++◌, ℕ, zero, suc, List, [], ◌∷◌, length, get_or, take, Option, None, refl, ap, arith}
use Rattle.std.proofs.Math.ListN.{replicate}
use Rattle.std.proofs.lemmas.List.{take_all}
use Rattle.ledger_report.proofs.per_number.PerNumber.widen.Goals as goal

replicate_none : {X : Type 0} (k n : ℕ) → get_or (replicate {A = Option X} k None) n None ≡ None
replicate_none zero n = refl
replicate_none (suc k) zero = refl
replicate_none {X = X} (suc k) (suc n) = replicate_none {X = X} k n

padded : {X : Type 0} (xs : List (Option X)) (k n : ℕ) → get_or (xs ++ replicate k None) n None ≡ get_or xs n None
padded {X = X} [] k n = replicate_none {X = X} k n
padded (x ∷ xs) k zero = refl
padded (x ∷ xs) k (suc n) = padded xs k n

pub returns-in_ok-resize-clause-same : goal.returns-in_ok-resize-clause-same
returns-in_ok-resize-clause-same g c = λ n.
    let old = c.args.self.now.held.items in
    let few : length old ≤ 256 = omega (arith, c.if-len-lt-NUMBERS.true, c.len.ensures) in
    rw c.in_ok-resize.ensures.items (padded (take 256 old) _ n ∙ ap (λ (xs : List (Option _)). get_or xs n None) (take_all 256 old few))
