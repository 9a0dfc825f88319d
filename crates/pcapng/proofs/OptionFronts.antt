-- The options of a block, one after another.
use Rattle.std.proofs.Common.{◌≡◌, ℕ, zero, suc, ◌+◌, ◌<◌, ◌≤◌, true, false, eqb, ltb, List, length, take, drop, None, Some, inl, inr, refl, sym, ap, ◌∙◌, arith}
use Rattle.std.proofs.lemmas.Bool.{cases_eq, cases_lt, eq-eqb, ne_eqb, le-ltb, lt-ltb}
use Rattle.std.proofs.lemmas.List.{drop-drop, length-drop}
use Rattle.pcap_io.specs.Layout.{number_in}
use Rattle.pcap_io.specs.declared.layout.ByteOrder.{ByteOrder}
use Rattle.pcapng.specs.Options.{ended, beyond, option, fit, option_len, options_from, options_of, options_within, value_len, value_of}

-- any number of options that is large enough gives them all
fuel : (n m : ℕ) (order : ByteOrder) (bytes : List ℕ) → length bytes ≤ n → length bytes ≤ m
    → options_within n order bytes ≡ options_within m order bytes
unfolding options_within
fuel zero zero order bytes a b = refl
fuel zero (suc m) order bytes a b = rw (eq-eqb (length bytes) 0 (omega arith)) refl
fuel (suc n) zero order bytes a b = rw (eq-eqb (length bytes) 0 (omega arith)) refl
fuel (suc n) (suc m) order bytes a b =
    let rest : List ℕ = drop (option_len order bytes) bytes in
    ap (options_from order bytes)
    (fuel n m order rest (omega (arith, length-drop (option_len order bytes) bytes)) (omega (arith, length-drop (option_len order bytes) bytes)))

more : (n : ℕ) (order : ByteOrder) (bytes : List ℕ)
    → options_within (suc n) order bytes ≡ options_from order bytes (options_within n order (drop (option_len order bytes) bytes))
unfolding options_within
more n order bytes = refl

pub step : (order : ByteOrder) (bytes : List ℕ)
    → options_of order bytes ≡ options_from order bytes (options_of order (drop (option_len order bytes) bytes))
unfolding options_of
step order bytes =
    let rest : List ℕ = drop (option_len order bytes) bytes in
    fuel (length bytes) (suc (length bytes)) order bytes (omega arith) (omega arith)
    ∙ (more (length bytes) order bytes
    ∙ ap (options_from order bytes) (fuel (length bytes) (length rest) order rest (omega (arith, length-drop (option_len order bytes) bytes)) (omega arith)))

-- ---- all that stands at the front

pub none_left : (order : ByteOrder) (bytes : List ℕ) → length bytes ≡ 0 → options_of order bytes ≡ ended
none_left order bytes e = step order bytes ∙ rw (eq-eqb (length bytes) 0 e) refl

pub ends_there : (order : ByteOrder) (bytes : List ℕ) → 4 ≤ length bytes → number_in order 2 bytes ≡ 0 → options_of order bytes ≡ ended
ends_there order bytes long code =
    let some : eqb (length bytes) 0 ≡ false = ne_eqb (length bytes) 0 (λ e. omega (arith, e)) in
    let four : ltb (length bytes) 4 ≡ false = le-ltb (length bytes) 4 long in
    let end : eqb (number_in order 2 bytes) 0 ≡ true = eq-eqb _ 0 code in
    step order bytes ∙ rw (some, four, end) refl

pub beyond_there : (order : ByteOrder) (bytes : List ℕ) → 0 < length bytes → (4 ≤ length bytes → number_in order 2 bytes ≡ 0 → ⊥)
    → length bytes < option_len order bytes → options_of order bytes ≡ beyond
beyond_there order bytes some code short =
    let one : eqb (length bytes) 0 ≡ false = ne_eqb (length bytes) 0 (λ e. omega (arith, e)) in
    let three : ltb (length bytes) (option_len order bytes) ≡ true = lt-ltb _ _ short in
    elim (cases_lt (length bytes) 4) [
      | inl less ↦
          let two : ltb (length bytes) 4 ≡ true = lt-ltb (length bytes) 4 less in
          step order bytes ∙ rw (one, two) refl
      | inr long ↦
          let two : ltb (length bytes) 4 ≡ false = le-ltb (length bytes) 4 long in
          let end : eqb (number_in order 2 bytes) 0 ≡ false = ne_eqb _ 0 (code long) in
          step order bytes ∙ rw (one, two, end, three) refl
    ]

pub more_there : (order : ByteOrder) (bytes : List ℕ) → (number_in order 2 bytes ≡ 0 → ⊥) → option_len order bytes ≤ length bytes
    → options_of order bytes
    ≡ option (number_in order 2 bytes) (take (value_len order bytes) (drop 4 bytes)) (options_of order (drop (option_len order bytes) bytes))
more_there order bytes code long =
    let one : eqb (length bytes) 0 ≡ false = ne_eqb (length bytes) 0 (λ e. omega (arith, e)) in
    let two : ltb (length bytes) 4 ≡ false = le-ltb (length bytes) 4 (omega arith) in
    let end : eqb (number_in order 2 bytes) 0 ≡ false = ne_eqb _ 0 code in
    let three : ltb (length bytes) (option_len order bytes) ≡ false = le-ltb _ _ long in
    step order bytes ∙ rw (one, two, end, three) refl

-- ---- from a place on

pub fits_on : (order : ByteOrder) (xs rest : List ℕ) (at next : ℕ) → rest ≡ drop at xs → next ≡ option_len order rest
    → (number_in order 2 rest ≡ 0 → ⊥) → option_len order rest ≤ length rest
    → fit (options_of order (drop (at + next) xs)) ≡ fit (options_of order (drop at xs))
fits_on order xs rest at next e n code long =
    let after : drop (at + next) xs ≡ drop (option_len order rest) rest =
    ap (λ (k : ℕ). drop (at + k) xs) n ∙ (sym (drop-drop (option_len order rest) at xs) ∙ ap (drop (option_len order rest)) (sym e)) in
    ap (λ (l : List ℕ). fit (options_of order l)) after
    ∙ (sym (ap fit (more_there order rest code long)) ∙ ap (λ (l : List ℕ). fit (options_of order l)) e)

-- no option of the code is found
pub none_found : (wanted : ℕ) (order : ByteOrder) (bytes : List ℕ) → 0 < length bytes → length bytes < option_len order bytes
    → value_of wanted (options_of order bytes) ≡ None
none_found wanted order bytes some short = elim (cases_lt (length bytes) 4) [
  | inl less ↦ ap (value_of wanted) (beyond_there order bytes some (λ l e. omega (arith, l)) short)
  | inr long ↦ elim (cases_eq (number_in order 2 bytes) 0) [
    | inl end ↦ ap (value_of wanted) (ends_there order bytes long end)
    | inr other ↦ ap (value_of wanted) (beyond_there order bytes some (λ l. other) short)
  ]
]

found_here : (wanted : ℕ) (order : ByteOrder) (bytes : List ℕ) → (number_in order 2 bytes ≡ 0 → ⊥) → option_len order bytes ≤ length bytes
    → number_in order 2 bytes ≡ wanted → value_of wanted (options_of order bytes) ≡ Some (take (value_len order bytes) (drop 4 bytes))
found_here wanted order bytes code long same =
    let this : eqb (number_in order 2 bytes) wanted ≡ true = eq-eqb _ _ same in
    ap (value_of wanted) (more_there order bytes code long) ∙ rw this refl

pub found_at : (wanted : ℕ) (order : ByteOrder) (bytes value : List ℕ) (code : ℕ) → code ≡ number_in order 2 bytes → (code ≡ 0 → ⊥)
    → option_len order bytes ≤ length bytes → code ≡ wanted → value ≡ take (value_len order bytes) (drop 4 bytes)
    → Some value ≡ value_of wanted (options_of order bytes)
found_at wanted order bytes value code is other long same v =
    ap Some v ∙ sym (found_here wanted order bytes (λ e. other (is ∙ e)) long (sym is ∙ same))

pub finds_on : (wanted : ℕ) (order : ByteOrder) (xs rest : List ℕ) (at next code : ℕ) → rest ≡ drop at xs → next ≡ option_len order rest
    → code ≡ number_in order 2 rest → (code ≡ 0 → ⊥) → (code ≡ wanted → ⊥) → option_len order rest ≤ length rest
    → value_of wanted (options_of order (drop (at + next) xs)) ≡ value_of wanted (options_of order (drop at xs))
finds_on wanted order xs rest at next code e n is other differs long =
    let after : drop (at + next) xs ≡ drop (option_len order rest) rest =
    ap (λ (k : ℕ). drop (at + k) xs) n ∙ (sym (drop-drop (option_len order rest) at xs) ∙ ap (drop (option_len order rest)) (sym e)) in
    let not_this : eqb (number_in order 2 rest) wanted ≡ false = ne_eqb _ _ (λ q. differs (is ∙ q)) in
    let here : value_of wanted (options_of order rest) ≡ value_of wanted (options_of order (drop (option_len order rest) rest)) =
    ap (value_of wanted) (more_there order rest (λ q. other (is ∙ q)) long) ∙ rw not_this refl in
    ap (λ (l : List ℕ). value_of wanted (options_of order l)) after ∙ (sym here ∙ ap (λ (l : List ℕ). value_of wanted (options_of order l)) e)

-- where no options are, they fit
pub none_fit : (order : ByteOrder) (bytes : List ℕ) → length bytes ≡ 0 → fit (options_of order bytes) ≡ true
none_fit order bytes e = ap fit (none_left order bytes e)
