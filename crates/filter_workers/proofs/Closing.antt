-- The one seat that is left, and what the rule says of it.
use Rattle.std.proofs.Common.{◌≡◌, ℕ, suc, ◌≢◌, min, List, [], ◌∷◌, get_or, set, refl, sym, subst, ap, ◌∙◌, ⊎_elim, arith}
use mathlib.Core.Option.{some, some-injective, some-ne-none}
use lib.ListN.{get_elem?}
use Rattle.atomic_table.specs.Table.{Final, Seen}
use Rattle.atomic_table.proofs.Lists.{at_set}
use Rattle.filter_workers.specs.declared.desk.TheConstants.{DESK_SEATS}
use Rattle.filter_workers.specs.declared.view.SeatView.{SeatView}
use Rattle.filter_workers.specs.Seats.{SeatState, DrewAll}
use Rattle.filter_workers.specs.Claims.{total, times, AreClaims, Keeps, spent}
use Rattle.filter_workers.proofs.Sums.{total-set}
use Rattle.filter_workers.proofs.Numbers.{each_once}

abbrev room_of : SeatView → ℕ
room_of v = v.room

abbrev numbers_in : ℕ → SeatView → ℕ
numbers_in k v = times k v.numbers

-- views without room have no numbers
no_numbers : (k : ℕ) (views : List SeatView) → ((j : ℕ) (u : SeatView) → get_elem? views j ≡ some u → u.room ≡ 0 → u.numbers ≡ [])
    → total room_of views ≡ 0 → total (numbers_in k) views ≡ 0
no_numbers k [] h none = refl
no_numbers k (v ∷ vs) h none =
    omega (arith, ap (times k) (h 0 v refl (omega arith)), no_numbers k vs (λ j. h (suc j)) (omega arith))

-- a seat with all room has all numbers
pub drew_all : (word : ℕ) (views : List SeatView) (id : ℕ) (v : SeatView) (s : SeatState)
    → AreClaims s.desk.len word views → get_elem? views id ≡ some v → v.room ≡ DESK_SEATS → v.numbers ≡ s.numbers → v.through ≡ s.through
    → DrewAll s (min word s.desk.len)
drew_all word views id v s is at full same through = record {
  within = omega arith;
  each_once = each_once (min word s.desk.len) s.numbers (λ k. ap (times k) (sym same) ∙ (alone k ∙ is.once k));
  none_left = λ yes. let h = (is.seats id v at).none_left (through ∙ yes) in omega arith;
}
  where
    empty : (j : ℕ) (u : SeatView) → get_elem? (set views id spent) j ≡ some u → u.room ≡ 0 → u.numbers ≡ []
    empty j u there none =
        ⊎_elim (λ (here : (j ≡ id) × (spent ≡ u)). sym (ap (λ (x : SeatView). x.numbers) here.1))
        (λ (other : (j ≢ id) × (get_elem? views j ≡ some u)). (is.seats j u other.1).empty none)
        (at_set views id j spent u there)

    alone : (k : ℕ) → times k v.numbers ≡ total (numbers_in k) views
    alone k = omega (
      arith,
      total-set (numbers_in k) views id v spent at,
      total-set room_of views id v spent at,
      is.rooms,
      no_numbers k (set views id spent) empty (omega (arith, total-set room_of views id v spent at, is.rooms)),
    )

-- all that a closed desk leaves
pub closes : (len id : ℕ) (v : SeatView) (s : SeatState) (words : List ℕ) (slots : List (Unit {0})) (next : ℕ)
    → Final (Seen (Keeps len) id v) words slots → get_elem? words 0 ≡ some next → len ≡ s.desk.len → v.room ≡ DESK_SEATS
    → v.numbers ≡ s.numbers → v.through ≡ s.through → DrewAll s (min next s.desk.len)
closes len id v s words slots next final at same_len full same through =
    let word : get_or final.0.words 0 0 ≡ next = ap (λ ws. get_or ws 0 0) final.2 ∙ first words next at in
    drew_all next final.0.views id v s
    (subst (λ n. AreClaims s.desk.len n final.0.views) word
    (subst (λ n. AreClaims n (get_or final.0.words 0 0) final.0.views) same_len final.1.0.claims))
    final.1.1 full same through
  where
    first : (ws : List ℕ) (n : ℕ) → get_elem? ws 0 ≡ some n → get_or ws 0 0 ≡ n
    first [] n e = absurd (some-ne-none n (sym e))
    first (w ∷ ws) n e = some-injective w n e

-- the same, however the count is written
pub counted : (s : SeatState) (n m : ℕ) → DrewAll s n → n ≡ m → DrewAll s m
counted s n m drew same = subst (λ k. DrewAll s k) same drew
