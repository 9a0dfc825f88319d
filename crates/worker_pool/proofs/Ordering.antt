-- The batches of a round in the order of their numbers are those of its chunks.
use Rattle.std.proofs.Common.{◌≡◌, ℕ, zero, suc, ◌+◌, ◌*◌, ◌<◌, ◌≤◌, min, List, [], ◌∷◌, ◌++◌, length, map, take, refl, sym, subst, ap, ◌∙◌, arith}
use Rattle.std.specs.Prelude.{All, IsPermutation}
use Rattle.std.specs.List.Sorted.{IsNonDecreasingBy}
use Rattle.std.proofs.lemmas.Bool.Decides.{nat_tests}
use Rattle.std.proofs.lemmas.Grind.{div_ceil_times}
use Rattle.std.proofs.lemmas.List.Elements.{All-head, All-tail}
use Rattle.std.proofs.lemmas.List.Recursion.{is_sum_by}
use Rattle.std.proofs.lemmas.List.Sorted.{All-permutation, IsPermutation-map, IsPermutation-sym, IsPermutation-trans, sum_by-IsPermutation}
use Rattle.std.proofs.Math.Seq.{take-append_seam}
use mathlib.Core.Logic.{dite}
use native.Mathlib.Decide.{dec_lt}
use Rattle.filter_workers.specs.Seats.{DeskId, DrewAll, numbers_below}
use Rattle.filter_workers.specs.Claims.{once_below, times}
use Rattle.filter_workers.proofs.Numbers.{once_below-more, once_below-past, one_if, one_if-other, one_if-same, times-push}
use Rattle.worker_pool.specs.Chunks.{AreBatches, Posted, chunk_count, chunk_end}
use Rattle.worker_pool.specs.Shares.{IsOfChunk, IsShare, numbers_of}
use Rattle.worker_pool.specs.declared.share.Numbered.{Numbered}
use Rattle.worker_pool.specs.declared.share.Share.{Share}
use Rattle.worker_pool.proofs.Chunking.{chunk_starts}

once_there : (n k : ℕ) → k < n → once_below n k ≡ 1
once_there n k less = grind (arith, nat_tests)

suc_is : (n : ℕ) → suc n ≡ n + 1
suc_is n = omega arith

one_more_chunk : (a size : ℕ) → (a + 1) * size ≡ a * size + size
one_more_chunk a size = grind arith

-- each number below n stands once among them
times-numbers_below : (n k : ℕ) → times k (numbers_below n) ≡ once_below n k
times-numbers_below zero k = sym (once_below-past 0 k (omega arith))
times-numbers_below (suc n) k =
    times-push k (numbers_below n) n ∙ (ap (λ m. m + one_if n k) (times-numbers_below n k)
    ∙ (sym (once_below-more n k) ∙ ap (λ m. once_below m k) (sym (suc_is n))))

times-permutation : (k : ℕ) (xs ys : List ℕ) → IsPermutation xs ys → times k ys ≡ times k xs
times-permutation k xs ys moved =
    is_sum_by (times k) (λ x. one_if x k) refl (λ x rest. refl) ys ∙ (sum_by-IsPermutation (λ x. one_if x k) xs ys moved
    ∙ sym (is_sum_by (times k) (λ x. one_if x k) refl (λ x rest. refl) xs))

-- a number below all others isn't among them
none_there : {B : Type 0} (a : ℕ) (ds : List (Numbered B)) → All (λ (d : Numbered B). a < d.number) ds → times a (numbers_of ds) ≡ 0
none_there a [] above = refl
none_there {B} a (d ∷ ds) above =
    let head = All-head (λ (e : Numbered B). a < e.number) d ds above in
    omega (
      arith,
      one_if-other d.number a (λ e. absurd (omega (arith, head, e))),
      none_there a ds (All-tail (λ (e : Numbered B). a < e.number) d ds above),
    )

-- Batches of chunks of this size, of a round of `items` items, which are n chunks.
module _ {B : Type 0} (is : ℕ → ℕ → B → Type 0) (size items n : ℕ) (ends : items ≤ n * size)
    (starts : (k : ℕ) → k < n → k * size < items) where
  abbrev OfChunk : Numbered B → Type 0
  OfChunk d = (d.number < n) × is (d.number * size) (chunk_end size items (d.number * size)) d.batch

  -- the numbers that stand among those from a on
  abbrev Once : ℕ → List (Numbered B) → Type 0
  Once a ds = (k : ℕ) → once_below n k ≡ once_below a k + times k (numbers_of ds)

  abbrev Rises : List (Numbered B) → Type 0
  Rises ds = IsNonDecreasingBy (λ (d : Numbered B). d.number) ds

  all_done : (a : ℕ) → a ≤ n → Once a [] → a ≡ n
  all_done a few once =
      dite (dec_lt a n) (λ less. absurd (omega (arith, once a, once_there n a less, once_below-past a a (omega arith))))
      (λ past. omega (arith, past, few))

  not_before : (a : ℕ) (d : Numbered B) (ds : List (Numbered B)) → Once a (d ∷ ds) → d.number < n → a ≤ d.number
  not_before a d ds once inside =
      dite (dec_lt d.number a)
      (λ less. absurd (omega (arith, once d.number, once_there n d.number inside, once_there a d.number less, one_if-same d.number)))
      (λ past. omega (arith, past))

  not_past : (a : ℕ) (d : Numbered B) (ds : List (Numbered B)) → Once a (d ∷ ds) → Rises (d ∷ ds) → d.number < n → d.number ≤ a
  not_past a d ds once rises inside =
      dite (dec_lt a d.number)
      (λ less. absurd (omega (
        arith,
        once a,
        once_there n a (omega (arith, less, inside)),
        once_below-past a a (omega arith),
        one_if-other d.number a (λ e. absurd (omega (arith, less, e))),
        none_there a ds (λ k e within. omega (arith, less, rises 0 (suc k) e (omega arith) (omega (arith, within)))),
      )))
      (λ past. omega (arith, past))

  -- the batches of all chunks from one on
  in_order : (ds : List (Numbered B)) (a : ℕ) → a ≤ n → Once a ds → Rises ds → All OfChunk ds
      → AreBatches is size items (min (a * size) items) (map (λ (d : Numbered B). d.batch) ds)
  in_order [] a few once rises all =
      let same = ap (λ m. m * size) (all_done a few once) in omega (arith, same, ends)
  in_order (d ∷ ds) a few once rises all =
      let one = All-head OfChunk d ds all in
      let first : d.number ≡ a = omega (arith, not_before a d ds once one.0, not_past a d ds once rises one.0) in
      let start = starts d.number one.0 in
      let from : d.number * size ≡ min (a * size) items = omega (arith, ap (λ m. m * size) first, start) in
      let next : min ((a + 1) * size) items ≡ chunk_end size items (min (a * size) items) = omega (arith, one_more_chunk a size, first, from, start) in (
        omega (arith, from, start),
        subst (λ f. is f (chunk_end size items f) d.batch) from one.1,
        subst (λ f. AreBatches is size items f (map (λ (e : Numbered B). e.batch) ds)) next
            (in_order ds (a + 1) (omega (arith, first, one.0))
            (λ k. omega (arith, once k, once_below-more a k, ap (λ m. one_if m k) first))
            (λ i j e le less. rises (suc i) (suc j) e (omega (arith, le)) (omega (arith, less)))
            (All-tail OfChunk d ds all)),
      )

-- the batches of a round whose desk is closed
pub whole_round : {T N B : Type 0} (len : T → N → ℕ) (is : T → N → ℕ → ℕ → B → Type 0) (p : Posted T N) (room drawn : ℕ) (s : Share B)
    (sorted : List (Numbered B)) (batches : List B) → 0 < p.size → p.desk.len ≡ chunk_count p.size (len p.task p.round) → IsShare len is p room s
    → DrewAll s.seat drawn → chunk_count p.size (len p.task p.round) ≤ drawn → IsPermutation s.done.items sorted
    → IsNonDecreasingBy (λ (d : Numbered B). d.number) sorted → batches ≡ map (λ (d : Numbered B). d.batch) sorted
    → AreBatches (is p.task p.round) p.size (len p.task p.round) 0 batches
whole_round {T} {N} {B} len is p room drawn s sorted batches some chunks share drew enough moved rises taken =
    subst (λ bs. AreBatches (is p.task p.round) p.size items 0 bs) (sym taken)
    (subst (λ from. AreBatches (is p.task p.round) p.size items from (map (λ (d : Numbered B). d.batch) sorted)) start
    (in_order (is p.task p.round) p.size items n (div_ceil_times items p.size some).0 (λ k less. chunk_starts k p.size items some less)
    sorted 0 (omega arith) once rises (All-permutation (IsOfChunk len is p) s.done.items sorted moved share.batches)))
  where
    items : ℕ
    items = len p.task p.round

    n : ℕ
    n = chunk_count p.size (len p.task p.round)

    start : min (0 * p.size) (len p.task p.round) ≡ 0
    start = omega arith

    all_drawn : drawn ≡ chunk_count p.size (len p.task p.round)
    all_drawn = omega (arith, enough, drew.within, ap (λ (d : DeskId). d.len) share.of_desk, chunks)

    numbers : IsPermutation (numbers_of sorted) (numbers_below drawn)
    numbers =
        IsPermutation-trans (numbers_of sorted) s.seat.numbers (numbers_below drawn)
        (subst (λ ns. IsPermutation (numbers_of sorted) ns) share.numbers
        (IsPermutation-sym (numbers_of s.done.items) (numbers_of sorted) (IsPermutation-map (λ (d : Numbered B). d.number) s.done.items sorted moved)))
        drew.each_once

    once : (k : ℕ) → once_below (chunk_count p.size (len p.task p.round)) k ≡ once_below 0 k + times k (numbers_of sorted)
    once k = omega (
      arith,
      ap (λ m. once_below m k) all_drawn,
      times-numbers_below drawn k,
      times-permutation k (numbers_of sorted) (numbers_below drawn) numbers,
      once_below-past 0 k (omega arith),
    )

-- a list that was put back into the memory that it came from
pub restored : {A : Type 0} (xs ys : List A) (n : ℕ) → length xs ≡ n → take n (xs ++ ys) ≡ xs
restored xs ys n e = subst (λ m. take m (xs ++ ys) ≡ xs) e (take-append_seam xs ys)
