-- A text is source of one program at most.
use Rattle.std.proofs.Common.{suc, ap₂, ◌≡◌, ◌⊎◌, inl, inr, ℕ, ◌+◌, ◌<◌, ◌≤◌, List, [], ◌∷◌, length, get_or, slice_get, Some, None, refl, sym, subst, ap, ◌∙◌, arith}
use Rattle.std.proofs.lemmas.Option.{slice_get_cases, slice_get_within}
use Rattle.bpf_isa.specs.declared.packed.Packed.{Packed}
use Rattle.bpf_isa.specs.Families.{packed_k}
use Rattle.bpf_text.specs.declared.keyword.Mnemonic.{Mnemonic}
use Rattle.bpf_text.specs.Grammar.{Statement, Operand, Target, Branch}
use Rattle.bpf_text.proofs.Texts.{one_reading}
use Rattle.bpf_asm.specs.Assembly.{Assembles, IsAtDistance, IsRow}
use Rattle.bpf_asm.specs.Laws.{OneProgram}
use Rattle.bpf_asm.specs.Rows.{one_way_packed, two_way_packed}
use Rattle.bpf_asm.proofs.Indices.{some_is}

-- a label is at one distance
one_distance : (ss : List Statement) (at : ℕ) (name : List ℕ) (d e : ℕ) → IsAtDistance ss at name d → IsAtDistance ss at name e → d ≡ e
one_distance ss at name d e here there =
    let same : at + 1 + d ≡ at + 1 + e = some_is (at + 1 + d) (at + 1 + e) (sym here ∙ there) in
    omega (arith, same)

-- a statement has one instruction
one_row : (ss : List Statement) (at : ℕ) (m : Mnemonic) (operand : Operand) (v w : Packed) → IsRow ss at m operand v → IsRow ss at m operand w → v ≡ w
one_row ss at m (Target name) v w (d, c, index, code, is) (d', c', index', code', is') =
    is ∙ ap₂ packed_k (some_is c c' (sym code ∙ code')) (one_distance ss at name d d' index index') ∙ sym is'
one_row ss at m (Branch source first None) v w (d, near, is) (d', near', is') =
    some_is v w (sym is ∙ ap (one_way_packed m source) (one_distance ss at first d d' near.0 near'.0) ∙ is')
one_row ss at m (Branch source first (Some second)) v w (d, o, near, also, is) (d', o', near', also', is') =
    some_is v w (sym is ∙ ap₂ (two_way_packed m source) (one_distance ss at first d d' near.0 near'.0) (one_distance ss at second o o' also.0 also'.0) ∙ is')
one_row ss at m operand v w is is' = some_is v w (sym is ∙ is')

same_insns : (p q : List Packed) → length p ≡ length q → ((at : ℕ) (v w : Packed) → slice_get p at ≡ Some v → slice_get q at ≡ Some w → v ≡ w) → p ≡ q
same_insns [] [] len each = refl
same_insns [] (w ∷ ws) len each = absurd (omega (arith, len))
same_insns (v ∷ vs) [] len each = absurd (omega (arith, len))
same_insns (v ∷ vs) (w ∷ ws) len each =
    ap₂ (λ x xs. x ∷ xs) (each 0 v w refl refl) (same_insns vs ws (omega (arith, len)) (λ at x y in_p in_q. each (suc at) x y in_p in_q))

-- statements are one program
one_assembly : (ss : List Statement) (p q : List Packed) → Assembles ss p → Assembles ss q → p ≡ q
one_assembly ss p q a b = same_insns p q (a.len ∙ sym b.len) (λ at v w in_p in_q. by at v w in_p in_q (slice_get_cases ss at).1)
  where
    by : (at : ℕ) (v w : Packed) → slice_get p at ≡ Some v → slice_get q at ≡ Some w →
        ((s : Statement) × (at < length ss) × (slice_get ss at ≡ Some s) × (get_or ss at s ≡ s)) ⊎ ((length ss ≤ at) × (slice_get ss at ≡ None)) → v ≡ w
    by at v w in_p in_q (inl (s, less, there, is)) = one_row ss at s.mnemonic s.operand v w (a.rows at s v there in_p) (b.rows at s w there in_q)
    by at v w in_p in_q (inr (past, none)) = absurd (omega (arith, past, slice_get_within p at v in_p, a.len))

pub one_program : OneProgram
one_program text p q (ss, sources, a) (ts, also, b) =
    one_assembly ss p q a (subst (λ l. Assembles l q) ((one_reading text).0 ts ss also sources) b)
