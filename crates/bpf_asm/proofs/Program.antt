-- The instructions of the first statements, as they grow by one.
use Rattle.std.proofs.Common.{◌≡◌, ◌⊎◌, inl, inr, ℕ, ◌+◌, ◌<◌, true, List, [], ◌∷◌, ◌++◌, length, map, get_or, slice_get, Some, None, sym, subst, ap, ◌∙◌, arith}
use Rattle.std.proofs.Math.Nat.{eq-or-lt_of_le}
use Rattle.std.proofs.Math.Seq.{get_or-append_seam}
use Rattle.std.proofs.Math.ListN.{get_or-append}
use Rattle.std.proofs.lemmas.List.{length-append}
use Rattle.std.proofs.lemmas.Option.{slice_get_within, slice_get-get_or, get_or_from_slice_get}
use Rattle.std.specs.Option.{option_and_then}
use Rattle.bpf_isa.specs.declared.packed.Packed.{Packed}
use Rattle.bpf_text.specs.Grammar.{Statement}
use Rattle.bpf_text.specs.Meaning.{statement_of, operand_of}
use Rattle.bpf_text.specs.declared.statement.Statement as text
use Rattle.bpf_asm.specs.Rows.{takes}
use Rattle.bpf_asm.specs.Assembly.{IsRow, IsFirstTargetFault, operand_fault, fault_at}
use Rattle.bpf_asm.specs.Typed.{AllTake, AreRows}
use Rattle.bpf_asm.specs.declared.fault.AsmFault.{AsmFault}
use Rattle.bpf_asm.proofs.Indices.{at_statement, slice_get_unique}

-- an element of a list that grew by one
push_cases : {X : Type 0} (xs : List X) (y : X) (at : ℕ) (x : X) → slice_get (xs ++ y ∷ []) at ≡ Some x →
    (slice_get xs at ≡ Some x) ⊎ ((at ≡ length xs) × (x ≡ y))
push_cases xs y at x e = by (eq-or-lt_of_le (grind (arith, slice_get_within (xs ++ y ∷ []) at x e, length-append xs (y ∷ []))))
  where
    is : get_or (xs ++ y ∷ []) at x ≡ x
    is = get_or_from_slice_get (xs ++ y ∷ []) at x x e

    by : (at ≡ length xs) ⊎ (at < length xs) → (slice_get xs at ≡ Some x) ⊎ ((at ≡ length xs) × (x ≡ y))
    by (inr less) = inl (slice_get-get_or xs at x less ∙ ap Some (sym (get_or-append xs (y ∷ []) x at less) ∙ is))
    by (inl same) = inr (same, sym is ∙ ap (λ n. get_or (xs ++ y ∷ []) n x) same ∙ get_or-append_seam xs y [] x)

rows_push : (ss : List Statement) (p : List Packed) (at : ℕ) (s : Statement) (w : Packed) → slice_get ss at ≡ Some s →
    IsRow ss at s.mnemonic s.operand w → operand_fault ss at s.operand ≡ None → AreRows ss at p → AreRows ss (at + 1) (p ++ w ∷ [])
rows_push ss p at s w here row none known = record {
  len = length-append p (w ∷ []) ∙ ap (λ n. n + 1) known.len;
  rows = λ n t v there in_p. by n t v there (push_cases p w n v in_p);
  no_fault = λ n less. fault_by n (eq-or-lt_of_le (grind (arith, less)));
}
  where
    by : (n : ℕ) (t : Statement) (v : Packed) → slice_get ss n ≡ Some t → (slice_get p n ≡ Some v) ⊎ ((n ≡ length p) × (v ≡ w)) → IsRow ss n t.mnemonic t.operand v
    by n t v there (inl before) = known.rows n t v there before
    by n t v there (inr last) =
        let n_is : n ≡ at = last.0 ∙ known.len in
        let t_is : t ≡ s = slice_get_unique ss at t s (ap (slice_get ss) (sym n_is) ∙ there) here in
        subst (λ m. IsRow ss m t.mnemonic t.operand v) (sym n_is)
        (subst (λ u. IsRow ss at u.mnemonic u.operand v) (sym t_is) (subst (IsRow ss at s.mnemonic s.operand) (sym last.1) row))

    fault_by : (n : ℕ) → (n ≡ at) ⊎ (n < at) → fault_at ss n ≡ None
    fault_by n (inl same) = ap (fault_at ss) same ∙ ap (option_and_then (λ t. operand_fault ss at t.operand)) here ∙ none
    fault_by n (inr less) = known.no_fault n less

-- ---- the same over the statements as the reader gives them

pub statement_takes : (xs : List text.Statement) (at : ℕ) (d : text.Statement) → AllTake (map statement_of xs) → at < length xs →
    takes (get_or xs at d).mnemonic (operand_of (get_or xs at d).operand) ≡ true
statement_takes xs at d all less = all at (statement_of (get_or xs at d)) (at_statement xs at d less)

pub rows_more : (xs : List text.Statement) (p : List Packed) (at : ℕ) (d : text.Statement) (w : Packed) → at < length xs →
    IsRow (map statement_of xs) at (get_or xs at d).mnemonic (operand_of (get_or xs at d).operand) w →
    operand_fault (map statement_of xs) at (operand_of (get_or xs at d).operand) ≡ None →
    AreRows (map statement_of xs) at p → AreRows (map statement_of xs) (at + 1) (p ++ w ∷ [])
rows_more xs p at d w less row none known =
    rows_push (map statement_of xs) p at (statement_of (get_or xs at d)) w (at_statement xs at d less) row none known

pub first_fault : (xs : List text.Statement) (p : List Packed) (at : ℕ) (d : text.Statement) (fault : AsmFault) → at < length xs →
    operand_fault (map statement_of xs) at (operand_of (get_or xs at d).operand) ≡ Some fault →
    AreRows (map statement_of xs) at p → IsFirstTargetFault (map statement_of xs) fault
first_fault xs p at d fault less is known = (
  at,
  ap (option_and_then (λ t. operand_fault (map statement_of xs) at t.operand)) (at_statement xs at d less) ∙ is,
  known.no_fault,
)
