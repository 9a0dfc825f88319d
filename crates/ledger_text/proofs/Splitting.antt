-- The first field of a line, and the rest.
use Rattle.std.proofs.Common.{◌≡◌, ◌≢◌, ℕ, ◌+◌, ◌<◌, ◌≤◌, List, [], ◌∷◌, length, take, drop, ap, arith, false}
use Rattle.std.specs.List.{position_or_len, All}
use Rattle.std.proofs.lemmas.List.Splits.{slice_split_first, slice_split_none, length-slice_split}
use Rattle.std.proofs.lemmas.List.Sums.{fails_before_first}
use Rattle.ledger_text.specs.Fields.{is_space, fields_of}

pub split_some : (line : List ℕ) (n : ℕ) → n ≡ position_or_len is_space line → n < length line
    → fields_of line ≡ take n line ∷ fields_of (drop (n + 1) line)
split_some line n e l = rw e (slice_split_first is_space line 0 (rw e at l))

pub split_none : (line : List ℕ) (n : ℕ) → n ≡ position_or_len is_space line → length line ≤ n → fields_of line ≡ line ∷ []
split_none line n e l =
    let front : All (λ x. is_space x ≡ false) line = λ k x m. let k2 = fails_before_first is_space line k x (omega arith) in k2 in
    slice_split_none is_space line front

pub has_fields : (line : List ℕ) → fields_of line ≢ []
has_fields line e = absurd (omega (arith, length-slice_split is_space line, ap length e))
