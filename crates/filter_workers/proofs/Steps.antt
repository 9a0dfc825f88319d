-- Each step of a desk's threads keeps the rule of its table.
use Rattle.std.proofs.Common.{◌≡◌, ℕ, ◌+◌, ◌-◌, ◌/◌, ◌%◌, ◌^◌, ◌<◌, ◌≤◌, ◌≢◌, min, Bool, true, false, ◌||◌, if◌then◌else◌, nat_lt, List, [], ◌∷◌, ◌++◌, get_or, set, refl, sym, subst, ap, ◌∙◌, ⊎_elim, arith, get_or-set_same, length-set}
use Rattle.std.specs.Prelude.{All}
use Rattle.std.proofs.lemmas.Bool.Decides.{nat_tests}
use mathlib.Core.Option.{none, some}
use lib.ListN.{get_elem?}
use lib.Seq.{set-get_or}
use Rattle.atomic_table.specs.Table.{Me, step, keeps, Allows, Splits, Joins}
use Rattle.atomic_table.proofs.Lists.{at_set, at_snoc, set_again, set_else}
use Rattle.filter_workers.specs.declared.desk.TheConstants.{DESK_SEATS}
use Rattle.filter_workers.specs.declared.view.SeatView.{SeatView}
use Rattle.filter_workers.specs.Claims.{times, once_below, through_room, IsSeat, AreClaims, Keeps}
use Rattle.filter_workers.specs.Claims.{seat_view, spent, after_draw, Draws, Looks, keeps_half, other_half, joined}
use Rattle.filter_workers.proofs.Sums.{total-append, total-set, term_le, total_le}
use Rattle.filter_workers.proofs.Numbers.{once_below-more, once_below-past, times-append, times-push, all_below}

abbrev numbers_in : ℕ → SeatView → ℕ
numbers_in k v = times k v.numbers

abbrev room_of : SeatView → ℕ
room_of v = v.room

abbrev past_room : Bool → ℕ → ℕ
past_room through room = if through then room else 0

-- a view changes to w, which is a seat's at the next word, and other views stay
seats_set : (len word next : ℕ) (views : List SeatView) (id : ℕ) (w : SeatView) → word ≤ next
    → ((j : ℕ) (u : SeatView) → get_elem? views j ≡ some u → IsSeat len word u) → IsSeat len next w
    → (j : ℕ) (u : SeatView) → get_elem? (set views id w) j ≡ some u → IsSeat len next u
seats_set len word next views id w up seats is j u at =
    ⊎_elim (λ (same : (j ≡ id) × (w ≡ u)). subst (λ x. IsSeat len next x) same.1 is)
    (λ (other : (j ≢ id) × (get_elem? views j ≡ some u)). let s = seats j u other.1 in
    record { of_desk = s.of_desk; none_left = λ through. let h = s.none_left through in omega arith; empty = s.empty })
    (at_set views id j w u at)

module _ (len word : ℕ) (views : List SeatView) (is : AreClaims len word views) (id : ℕ) (v : SeatView) (at : get_elem? views id ≡ some v) where
  -- the numbers that a seat drew are below the word
  pub drawn_below : word < len → All (λ x. x < word) v.numbers
  drawn_below more = all_below word v.numbers (λ k past.
      omega (arith, term_le (numbers_in k) views id v at, is.once k, once_below-past (min word len) k (omega arith)))

  -- the word is past len by no more than there are seats
  pub word_le : word ≤ len + DESK_SEATS
  word_le = omega (arith, is.past, is.rooms, total_le through_room room_of (λ u. at_most u.through u.room) views)
    where
      at_most : (b : Bool) (room : ℕ) → past_room b room ≤ room
      at_most true room = omega arith
      at_most false room = omega arith

  -- a seat that isn't through draws the word, or finds that none is left
  pub drawn : 0 < v.room → v.through ≡ false → AreClaims len (word + 1) (set views id (after_draw v word))
  drawn roomy fresh = by_test (nat_lt word v.len) refl
    where
      same_len : v.len ≡ len
      same_len = (is.seats id v at).of_desk roomy

      by_test : (b : Bool) → nat_lt word v.len ≡ b → AreClaims len (word + 1)
          (set views id (if b then seat_view (v.numbers ++ word ∷ []) v.room v.through v.len else seat_view v.numbers v.room true v.len))
      by_test true test =
          let near : word < v.len = grind (arith, nat_tests) in
          let w : SeatView = seat_view (v.numbers ++ word ∷ []) v.room v.through v.len in
          record {
            once = λ k. omega (
              arith,
              total-set (numbers_in k) views id v w at,
              times-push k v.numbers word,
              is.once k,
              ap (λ n. once_below n k) (low near),
              ap (λ n. once_below n k) (high near),
              once_below-more word k,
            );
            rooms = omega (arith, total-set room_of views id v w at, is.rooms);
            past = omega (arith, near, same_len);
            seats = seats_set len word (word + 1) views id w (omega arith) is.seats record {
              of_desk = λ _. same_len;
              none_left = λ through. absurd (differ (sym fresh ∙ through));
              empty = λ none_left. absurd (omega arith);
            };
          }
        where
          differ : false ≡ true → ⊥
          differ e = cc

          low : word < v.len → min word len ≡ word
          low near = omega (arith, same_len)

          high : word < v.len → min (word + 1) len ≡ word + 1
          high near = omega (arith, same_len)
      by_test false test =
          let far : v.len ≤ word = grind (arith, nat_tests) in
          let w : SeatView = seat_view v.numbers v.room true v.len in
          record {
            once = λ k. omega (
              arith,
              total-set (numbers_in k) views id v w at,
              is.once k,
              ap (λ n. once_below n k) (stays far),
            );
            rooms = omega (arith, total-set room_of views id v w at, is.rooms);
            past = omega (arith, total-set through_room views id v w at, is.past, ap (λ b. past_room b v.room) fresh);
            seats = seats_set len word (word + 1) views id w (omega arith) is.seats record {
              of_desk = λ _. same_len;
              none_left = λ _. omega (arith, same_len);
              empty = λ none_left. absurd (omega arith);
            };
          }
        where
          stays : v.len ≤ word → min (word + 1) len ≡ min word len
          stays far = omega (arith, same_len)

-- a number that a seat draws, or that it finds none left
pub draws : (len slots id : ℕ) (me : Me (Unit {0}) SeatView) → 0 < me.0.room → me.0.through ≡ false
    → Allows (Keeps len) slots id me 0 (λ n. (n + 1) % 2 ^ 64) (Draws (step slots 0 1 0 none) me)
draws len slots id me roomy fresh s is wide at small =
    let word : ℕ = get_or s.words 0 0 in
    let v : SeatView = me.0 in
    let le = word_le len word s.views is.claims id v at in
    let fits : (word + 1) % 2 ^ 64 ≡ word + 1 = omega (arith, is.small) in
    let same : v.len ≡ len = (is.claims.seats id v at).of_desk roomy in (
      after_draw v word,
      keeps,
      tt,
      record {
        small = is.small;
        one_word = length-set s.words 0 ((word + 1) % 2 ^ 64) ∙ is.one_word;
        claims = subst (λ n. AreClaims len n (set s.views id (after_draw v word)))
            (sym (get_or-set_same s.words 0 ((word + 1) % 2 ^ 64) 0 (omega (arith, is.one_word)) ∙ fits))
            (drawn len word s.views is.claims id v at roomy fresh);
      },
      (refl, λ near. drawn_below len word s.views is.claims id v at (omega (arith, same, near))),
    )

-- a load
pub looks : (len slots id : ℕ) (me : Me (Unit {0}) SeatView)
    → Allows (Keeps len) slots id me 0 (λ n. n) (Looks (step slots 0 0 0 none) me)
looks len slots id me s is wide at small = (
  me.0,
  keeps,
  tt,
  record {
    small = is.small;
    one_word = length-set s.words 0 (get_or s.words 0 0) ∙ is.one_word;
    claims = subst (λ ws. AreClaims len (get_or ws 0 0) (set s.views id me.0)) (sym (set-get_or s.words 0 0))
        (subst (λ vs. AreClaims len (get_or s.words 0 0) vs) (sym (set_again s.views id me.0 at)) is.claims);
  },
  (refl, omega (arith, term_le room_of s.views id me.0 at, is.claims.rooms)),
)

-- a seat gives half of its room to a new one
pub splits : (len id : ℕ) (v : SeatView) → 1 < v.room → Splits (Keeps len) id v (keeps_half v) (other_half v)
splits len id v roomy s is at = record {
  small = is.small;
  one_word = is.one_word;
  claims = record {
    once = λ k. omega (arith, is.claims.once k, total-set (numbers_in k) s.views id v l at, total-append (numbers_in k) (set s.views id l) (r ∷ []));
    rooms = omega (arith, is.claims.rooms, total-set room_of s.views id v l at, total-append room_of (set s.views id l) (r ∷ []));
    past = omega (arith, is.claims.past, total-set through_room s.views id v l at, total-append through_room (set s.views id l) (r ∷ []), halves v.through);
    seats = λ j u there. ⊎_elim (λ front. seats_set len word word s.views id l (omega arith) is.claims.seats of_l j u front)
        (λ (last : r ≡ u). subst (λ x. IsSeat len word x) last of_r) (at_snoc (set s.views id l) r u j there);
  };
}
  where
    word : ℕ
    word = get_or s.words 0 0

    l : SeatView
    l = keeps_half v

    r : SeatView
    r = other_half v

    old : IsSeat len word v
    old = is.claims.seats id v at

    of_l : IsSeat len word l
    of_l = record { of_desk = λ _. old.of_desk (omega arith); none_left = old.none_left; empty = λ none. absurd (omega arith) }

    of_r : IsSeat len word r
    of_r = record { of_desk = λ _. old.of_desk (omega arith); none_left = old.none_left; empty = λ _. refl }

    halves : (b : Bool) → past_room b (v.room - v.room / 2) + past_room b (v.room / 2) ≡ past_room b v.room
    halves true = omega arith
    halves false = omega arith

-- a seat takes another in
pub joins : (len id : ℕ) (v : SeatView) (other : ℕ) (w : SeatView) → 0 < v.room → Joins (Keeps len) id v other w (joined v w) spent
joins len id v other w roomy s is at apart there = record {
  small = is.small;
  one_word = is.one_word;
  claims = record {
    once = λ k. omega (
      arith,
      is.claims.once k,
      total-set (numbers_in k) s.views id v both at,
      total-set (numbers_in k) (set s.views id both) other w spent there,
      times-append k v.numbers w.numbers,
    );
    rooms = omega (arith, is.claims.rooms, total-set room_of s.views id v both at, total-set room_of (set s.views id both) other w spent there);
    past = omega (
      arith,
      is.claims.past,
      total-set through_room s.views id v both at,
      total-set through_room (set s.views id both) other w spent there,
      no_less v.through w.through,
    );
    seats = seats_set len word word (set s.views id both) other spent (omega arith)
        (seats_set len word word s.views id both (omega arith) is.claims.seats of_both) of_spent;
  };
}
  where
    word : ℕ
    word = get_or s.words 0 0

    both : SeatView
    both = joined v w

    first : IsSeat len word v
    first = is.claims.seats id v at

    second : IsSeat len word w
    second = is.claims.seats other w (sym (set_else s.views id other both apart) ∙ there)

    either_through : (a b : Bool) → (a ≡ true → len ≤ word) → (b ≡ true → len ≤ word) → (a || b) ≡ true → len ≤ word
    either_through true b h i e = h refl
    either_through false b h i e = i e

    of_both : IsSeat len word both
    of_both = record {
      of_desk = λ _. first.of_desk roomy;
      none_left = either_through v.through w.through first.none_left second.none_left;
      empty = λ none. absurd (omega arith);
    }

    of_spent : IsSeat len word spent
    of_spent = record { of_desk = λ more. absurd (omega arith); none_left = λ e. cc; empty = λ _. refl }

    no_less : (a b : Bool) → past_room a v.room + past_room b w.room ≤ past_room (a || b) (v.room + w.room)
    no_less true true = omega arith
    no_less true false = omega arith
    no_less false true = omega arith
    no_less false false = omega arith
