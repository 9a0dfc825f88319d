-- Cutting a line into its words.
use Rattle.std.proofs.Common.{◌≡◌, ℕ, suc, ◌+◌, ◌<◌, ◌≤◌, true, false, not, ltb, List, [], ◌∷◌, length, get_or, take, drop, refl, sym, ap, ◌∙◌, arith, inl, inr}
use Rattle.std.specs.List.{slice_split, prefix_len, position_or_len, filter}
use Rattle.std.proofs.Math.Numerals.{one-add}
use Rattle.std.proofs.Math.Nat.{add-zero}
use Rattle.std.proofs.lemmas.Bool.{cases_lt, cases_Bool, lt-ltb}
use Rattle.std.proofs.lemmas.List.Splits.{slice_split-cons_yes, slice_split_none, slice_split_first}
use Rattle.std.proofs.lemmas.List.Sums.{prefix_len-le-length, prefix_len_stops, fails_before_first, passes_at_first}
use Rattle.std.proofs.lemmas.List.{take_all, drop_all, drop_more, length-take, length-drop, get_or-drop, nil_from_length}
use Rattle.bpf_debugger.specs.Lines.{is_space, words_of}

abbrev not_empty : List (List ℕ) → List (List ℕ)
not_empty pieces = filter (λ word. ltb 0 (length word)) pieces

keeps : (word : List ℕ) (pieces : List (List ℕ)) → 0 < length word → not_empty (word ∷ pieces) ≡ word ∷ not_empty pieces
keeps word pieces lt = rw (lt-ltb 0 (length word) lt) refl

no_words : words_of [] ≡ []
unfolding words_of
no_words = refl

skips_space : (c : ℕ) (cs : List ℕ) → is_space c ≡ true → words_of (c ∷ cs) ≡ words_of cs
unfolding words_of
skips_space c cs h = ap not_empty (slice_split-cons_yes is_space c cs h)

skips_spaces : (bs : List ℕ) → words_of bs ≡ words_of (drop (prefix_len is_space bs) bs)
skips_spaces [] = refl
skips_spaces (c ∷ cs) =
    elim (cases_Bool (is_space c)) [
      | inl space ↦
          let m : prefix_len is_space (c ∷ cs) ≡ suc (prefix_len is_space cs) = rw space (one-add (prefix_len is_space cs)) in
          skips_space c cs space ∙ skips_spaces cs ∙ ap (λ n. words_of (drop n (c ∷ cs))) (sym m)
      | inr other ↦
          let m : prefix_len is_space (c ∷ cs) ≡ 0 = rw other refl in
          ap (λ n. words_of (drop n (c ∷ cs))) (sym m)
    ]

-- all that follows a word, from the space on that ended it
from_end : (bs : List ℕ) → position_or_len is_space bs < length bs → words_of (drop (position_or_len is_space bs + 1) bs) ≡ words_of (drop (position_or_len is_space bs) bs)
from_end bs lt =
    let n = position_or_len is_space bs in
    sym (skips_space (get_or bs n 0) (drop (n + 1) bs) (passes_at_first is_space bs 0 lt)) ∙ ap words_of (sym (drop_more bs n 0 lt))

first_within : (bs : List ℕ) → 0 < length bs → is_space (get_or bs 0 0) ≡ false → 0 < position_or_len is_space bs
first_within [] lt h = absurd (omega arith)
first_within (c ∷ cs) lt h = rw h (omega arith)

takes_word : (bs : List ℕ) → 0 < length bs → is_space (get_or bs 0 0) ≡ false → words_of bs ≡ take (position_or_len is_space bs) bs ∷ words_of (drop (position_or_len is_space bs) bs)
unfolding words_of
takes_word bs some first =
    let n = position_or_len is_space bs in
    let pos : 0 < n = first_within bs some first in
    let le : n ≤ length bs = prefix_len-le-length (λ x. not (is_space x)) bs in
    let long : 0 < length (take n bs) = omega (arith, length-take n bs) in
    elim (cases_lt n (length bs)) [
      | inl lt ↦
          ap not_empty (slice_split_first is_space bs 0 lt) ∙ keeps (take n bs) (slice_split is_space (drop (n + 1) bs)) long
          ∙ ap (λ (ws : List (List ℕ)). take n bs ∷ ws) (from_end bs lt)
      | inr ge ↦
          let whole : take n bs ≡ bs = take_all n bs ge in
          let none : drop n bs ≡ [] = drop_all n bs ge in
          ap not_empty (slice_split_none is_space bs (λ k d lt. fails_before_first is_space bs k d (omega arith))) ∙ keeps bs [] some
          ∙ ap (λ (x : List ℕ). x ∷ []) (sym whole)
          ∙ ap (λ (ws : List (List ℕ)). take n bs ∷ ws) (sym (ap words_of none ∙ no_words))
    ]

-- the rest after the leading spaces begins with no space
stops : (bs rest : List ℕ) → rest ≡ drop (prefix_len is_space bs) bs → 0 < length rest → is_space (get_or rest 0 0) ≡ false
stops bs rest e lt =
    let n = prefix_len is_space bs in
    let within : n < length bs = omega (arith, length-drop n bs, ap length e) in
    let at : get_or rest 0 0 ≡ get_or bs n 0 = ap (λ (x : List ℕ). get_or x 0 0) e ∙ get_or-drop n bs 0 0 ∙ ap (λ (i : ℕ). get_or bs i 0) (add-zero n) in
    ap is_space at ∙ prefix_len_stops is_space bs 0 within

pub words_end : (bs rest : List ℕ) → rest ≡ drop (prefix_len is_space bs) bs → length rest ≡ 0 → words_of bs ≡ []
words_end bs rest e none = skips_spaces bs ∙ ap words_of (sym e ∙ nil_from_length rest none) ∙ no_words

pub words_next : (bs rest : List ℕ) → rest ≡ drop (prefix_len is_space bs) bs → 0 < length rest
    → words_of bs ≡ take (position_or_len is_space rest) rest ∷ words_of (drop (position_or_len is_space rest) rest)
words_next bs rest e some = skips_spaces bs ∙ ap words_of (sym e) ∙ takes_word rest some (stops bs rest e some)
