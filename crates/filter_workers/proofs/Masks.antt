-- The mask and the return value of filters, from the last filter to the first.
use Rattle.std.proofs.Common.{◌≡◌, ℕ, ◌+◌, ◌-◌, ◌*◌, ◌^◌, ◌<◌, ◌≤◌, max, List, ◌∷◌, length, drop, get_or, suc, sym, subst, ap, ◌∙◌, arith}
use Rattle.std.proofs.Math.Seq.{drop-cons}
use Rattle.std.proofs.Math.Nat.{pow-suc}
use Rattle.afdx_frame.specs.Frame.{Frame}
use Rattle.bpf_isa.specs.declared.packed.Packed.{Packed}
use Rattle.filter_workers.specs.Filters.{accepts_bit, answer_by, answer_for, mask_by}

drop_there : {X : Type 0} (xs : List X) (n : ℕ) (d : X) → n < length xs → drop n xs ≡ get_or xs n d ∷ drop (n + 1) xs
drop_there xs n d less = drop-cons xs n d less ∙ ap (λ m. get_or xs n d ∷ drop m xs) (one_more n)
  where
    one_more : (m : ℕ) → suc m ≡ m + 1
    one_more m = grind arith

pow_suc : (n : ℕ) → 2 ^ (n + 1) ≡ 2 ^ n * 2
pow_suc n = ap (λ m. 2 ^ m) (one_more n) ∙ pow-suc 2 n
  where
    one_more : (m : ℕ) → m + 1 ≡ suc m
    one_more m = grind arith

max_swap : (m n : ℕ) → max m n ≡ max n m
max_swap m n = grind arith

module _ (ps : List (List Packed)) (f : Frame) (index : ℕ) (d : List Packed) (some : 0 < index) (within : index ≤ length ps) where
  there : drop (index - 1) ps ≡ get_or ps (index - 1) d ∷ drop index ps
  there = drop_there ps (index - 1) d (grind (arith, some, within)) ∙ ap (λ n. get_or ps (index - 1) d ∷ drop n ps) (grind (arith, some))

  pub mask_step : (mask one bit : ℕ) → mask ≡ mask_by (drop index ps) f → one ≡ answer_for (get_or ps (index - 1) d) f → bit ≡ accepts_bit one →
      mask * 2 + bit ≡ mask_by (drop (index - 1) ps) f
  mask_step mask one bit is_mask is_one is_bit =
      ap (λ n. mask * 2 + n) (is_bit ∙ ap accepts_bit is_one) ∙ ap (λ n. n * 2 + accepts_bit (answer_for (get_or ps (index - 1) d) f)) is_mask
      ∙ ap (λ rest. mask_by rest f) (sym there)

  pub answer_step : (answer one : ℕ) → answer ≡ answer_by (drop index ps) f → one ≡ answer_for (get_or ps (index - 1) d) f →
      max answer one ≡ answer_by (drop (index - 1) ps) f
  answer_step answer one is_answer is_one =
      ap (λ n. max n one) is_answer ∙ ap (λ n. max (answer_by (drop index ps) f) n) is_one ∙ max_swap (answer_by (drop index ps) f) _ ∙ ap (λ rest. answer_by rest f) (sym there)

  pub small_step : (mask bit : ℕ) → bit ≤ 1 → mask < 2 ^ (length ps - index) →
      mask * 2 + bit < 2 ^ (length ps - (index - 1))
  small_step mask bit few small =
      subst (λ n. mask * 2 + bit < n) (sym (doubled (length ps - index) (length ps - (index - 1)) (grind (arith, some, within)))) (grind (arith, few, small))
    where
      doubled : (n m : ℕ) → m ≡ n + 1 → 2 ^ m ≡ 2 ^ n * 2
      doubled n m e = ap (λ k. 2 ^ k) e ∙ pow_suc n
