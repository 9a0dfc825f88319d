-- Lists in which each number below n stands once.
use Rattle.std.proofs.Common.{◌≡◌, ℕ, zero, suc, ◌+◌, ◌<◌, ◌≤◌, ◌≢◌, ◌==◌, if◌then◌else◌, List, [], ◌∷◌, ◌++◌, refl, sym, subst, ap, ◌∙◌, arith, eq-eqb, ne_eqb}
use Rattle.std.specs.Prelude.{All, IsPermutation}
use Rattle.std.proofs.lemmas.Bool.Decides.{nat_tests}
use Rattle.std.proofs.lemmas.List.Elements.{All-nil, All-cons}
use Rattle.std.proofs.lemmas.List.Sorted.{IsPermutation-refl, IsPermutation-sym, IsPermutation-trans, IsPermutation-middle, IsPermutation-cons, IsPermutation-to_front}
use mathlib.Core.Logic.{dite}
use native.Mathlib.Decide.{ℕ_discrete, dec_le}
use Rattle.filter_workers.specs.Seats.{numbers_below}
use Rattle.filter_workers.specs.Claims.{times, once_below}
use Rattle.filter_workers.proofs.Sums.{total-append}

abbrev pub one_if : ℕ → ℕ → ℕ
one_if x k = if x == k then 1 else 0

pub one_if-same : (k : ℕ) → one_if k k ≡ 1
one_if-same k = ap (λ b. if b then 1 else 0) (eq-eqb k k refl)

pub one_if-other : (x k : ℕ) → x ≢ k → one_if x k ≡ 0
one_if-other x k n = ap (λ b. if b then 1 else 0) (ne_eqb x k n)

-- one more number
pub once_below-more : (n k : ℕ) → once_below (n + 1) k ≡ once_below n k + one_if n k
once_below-more n k = grind (arith, nat_tests)

pub once_below-past : (n k : ℕ) → n ≤ k → once_below n k ≡ 0
once_below-past n k h = grind (arith, nat_tests)

pub times-append : (k : ℕ) (xs ys : List ℕ) → times k (xs ++ ys) ≡ times k xs + times k ys
times-append k xs ys = total-append (λ x. one_if x k) xs ys

pub times-push : (k : ℕ) (xs : List ℕ) (x : ℕ) → times k (xs ++ x ∷ []) ≡ times k xs + one_if x k
times-push k xs x = omega (arith, times-append k xs (x ∷ []))

-- numbers of which none is n or more
pub all_below : (n : ℕ) (xs : List ℕ) → ((k : ℕ) → n ≤ k → times k xs ≡ 0) → All (λ x. x < n) xs
all_below n [] h = All-nil (λ x. x < n)
all_below n (x ∷ xs) h =
    All-cons (λ y. y < n) x xs
    (dite (dec_le n x) (λ past. absurd (omega (arith, h x past, one_if-same x))) (λ near. omega arith))
    (all_below n xs (λ k past. omega (arith, h k past)))

pub none_there : (xs : List ℕ) → ((k : ℕ) → times k xs ≡ 0) → xs ≡ []
none_there [] h = refl
none_there (x ∷ xs) h = absurd (omega (arith, h x, one_if-same x))

-- a number that stands in a list, with what stands before and after it
record Split (k : ℕ) (xs : List ℕ) : Type 0 where
  before : List ℕ
  after : List ℕ
  is : xs ≡ before ++ k ∷ after

split_at : (k : ℕ) (xs : List ℕ) → 0 < times k xs → Split k xs
split_at k [] h = absurd (omega arith)
split_at k (x ∷ xs) h =
    dite (ℕ_discrete x k)
    (λ e. record { before = []; after = xs; is = ap (λ y. y ∷ xs) e })
    (λ ne. let r = split_at k xs (omega (arith, one_if-other x k ne)) in
    record { before = x ∷ r.before; after = r.after; is = ap (λ ys. x ∷ ys) r.is })

one_more : (n : ℕ) → suc n ≡ n + 1
one_more n = omega arith

once_below-suc : (n k : ℕ) → once_below (suc n) k ≡ once_below n k + one_if n k
once_below-suc n k = ap (λ m. once_below m k) (one_more n) ∙ once_below-more n k

-- without the number n, the rest stands once below n
rest_once : (n : ℕ) (xs before after : List ℕ) → xs ≡ before ++ n ∷ after → ((k : ℕ) → times k xs ≡ once_below (suc n) k)
    → (k : ℕ) → times k (before ++ after) ≡ once_below n k
rest_once n xs before after is h k =
    omega (arith, h k, once_below-suc n k, ap (times k) is, times-append k before (n ∷ after), times-append k before after)

-- a number at its index, and the others
put_last : (n : ℕ) (xs before after : List ℕ) → xs ≡ before ++ n ∷ after → IsPermutation (before ++ after) (numbers_below n)
    → IsPermutation xs (numbers_below (suc n))
put_last n xs before after is rest =
    subst (λ ys. IsPermutation ys (numbers_below (suc n))) (sym is)
    (IsPermutation-trans _ _ _ (IsPermutation-middle before n after)
    (IsPermutation-trans _ _ _ (IsPermutation-cons n _ _ rest)
    (IsPermutation-sym _ _ (IsPermutation-to_front (numbers_below n) n))))

-- a list with each number below n once, and no other, is the numbers below n
pub each_once : (n : ℕ) (xs : List ℕ) → ((k : ℕ) → times k xs ≡ once_below n k) → IsPermutation xs (numbers_below n)
each_once zero xs h =
    subst (λ ys. IsPermutation ys []) (sym (none_there xs (λ k. h k ∙ once_below-past 0 k (omega arith)))) (IsPermutation-refl [])
each_once (suc n) xs h =
    let r = split_at n xs (omega (arith, h n, once_below-suc n n, one_if-same n)) in
    put_last n xs r.before r.after r.is (each_once n (r.before ++ r.after) (rest_once n xs r.before r.after r.is h))
