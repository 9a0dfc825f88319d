-- A step changes the pc, A, X and at most the slot that its instruction stores.
use Rattle.std.specs.Prelude.{◌≡◌, ℕ, zero, suc, ◌+◌, ◌%◌, ◌^◌, Bool, true, false, List, [], ◌∷◌, Option, Some, None, slice_get, slice_set}
use Rattle.std.specs.Option.{option_map}
use Rattle.std.proofs.Common.{refl, ap, subst, set, get_or}
use Rattle.std.proofs.lemmas.List.{set-get_or}
use Rattle.std.proofs.lemmas.Option.{same_Some}
use Rattle.afdx_frame.specs.Number.{number_at}
use Rattle.bpf_isa.specs.declared.packed.Packed.{Packed}
use Rattle.bpf_isa.specs.declared.state.State.{State}
use Rattle.bpf_isa.specs.declared.state.Outcome.{Outcome}
use Rattle.bpf_isa.specs.declared.state.Outcome.TheVariants.{On, Done}
use Rattle.bpf_isa.proofs.Entries.{EachRow, ◌⟫◌, row_has}
use Rattle.bpf_isa.specs.Table.{Row, row, table, step_of, or_reject, a_becomes, x_becomes, header_length, sum32, difference32, product32, quotient, remainder, either_bits, common_bits, differing_bits, left_shift, right_shift, stores_scratch}
use Rattle.bpf_machine.specs.Run.{program_step}
use Rattle.bpf_debugger.specs.Records.{slot_of, record_of, scratch_before, state_before}

-- the old value, put back, gives the scratch memory of s
abbrev Reverts : Packed → State → Outcome → Type 0
Reverts w s (On t) = scratch_before (slot_of s (Some w)) t.scratch ≡ s.scratch
Reverts w s (Done answer) = Unit {0}

abbrev RowReverts : ℕ → Row → Type 0
RowReverts code r = (w : Packed) (s : State) (frame : List ℕ) (whole : ℕ) → w.code ≡ code → Reverts w s (r.effect w s frame whole)

no_slot : (w : Packed) (s : State) (code : ℕ) → w.code ≡ code → stores_scratch code ≡ false → scratch_before (slot_of s (Some w)) s.scratch ≡ s.scratch
no_slot w s code e plain = let h : stores_scratch w.code ≡ false = rw e plain in rw h refl

keeps_a : (w : Packed) (s : State) (code : ℕ) (o : Option ℕ) → w.code ≡ code → stores_scratch code ≡ false → Reverts w s (or_reject o (a_becomes s))
keeps_a w s code None e p = tt
keeps_a w s code (Some v) e p = no_slot w s code e p

keeps_x : (w : Packed) (s : State) (code : ℕ) (o : Option ℕ) → w.code ≡ code → stores_scratch code ≡ false → Reverts w s (or_reject o (x_becomes s))
keeps_x w s code None e p = tt
keeps_x w s code (Some v) e p = no_slot w s code e p

set-set : (xs : List ℕ) (k v : ℕ) → set (set xs k v) k (get_or xs k 0) ≡ xs
set-set [] k v = refl
set-set (x ∷ xs) zero v = refl
set-set (x ∷ xs) (suc k) v = ap (λ (ys : List ℕ). x ∷ ys) (set-set xs k v)

stores : (w : Packed) (s : State) (code v : ℕ) → w.code ≡ code → stores_scratch code ≡ true → scratch_before (slot_of s (Some w)) (slice_set s.scratch w.k v) ≡ s.scratch
stores w s code v e p = let h : stores_scratch w.code ≡ true = rw e p in rw h (set-set s.scratch w.k v)

each_row : EachRow RowReverts table
unfolding table
each_row =
    (λ w s frame whole e. no_slot w s 0x00 e refl)
    ⟫ (λ w s frame whole e. keeps_a w s 0x20 (number_at w.k 4 frame) e refl)
    ⟫ (λ w s frame whole e. keeps_a w s 0x28 (number_at w.k 2 frame) e refl)
    ⟫ (λ w s frame whole e. keeps_a w s 0x30 (number_at w.k 1 frame) e refl)
    ⟫ (λ w s frame whole e. keeps_a w s 0x40 (number_at ((s.x + w.k) % 2 ^ 32) 4 frame) e refl)
    ⟫ (λ w s frame whole e. keeps_a w s 0x48 (number_at ((s.x + w.k) % 2 ^ 32) 2 frame) e refl)
    ⟫ (λ w s frame whole e. keeps_a w s 0x50 (number_at ((s.x + w.k) % 2 ^ 32) 1 frame) e refl)
    ⟫ (λ w s frame whole e. no_slot w s 0x60 e refl)
    ⟫ (λ w s frame whole e. no_slot w s 0x80 e refl)
    ⟫ (λ w s frame whole e. no_slot w s 0x01 e refl)
    ⟫ (λ w s frame whole e. no_slot w s 0x61 e refl)
    ⟫ (λ w s frame whole e. no_slot w s 0x81 e refl)
    ⟫ (λ w s frame whole e. keeps_x w s 0xb1 (option_map header_length (number_at w.k 1 frame)) e refl)
    ⟫ (λ w s frame whole e. stores w s 0x02 s.a e refl)
    ⟫ (λ w s frame whole e. stores w s 0x03 s.x e refl)
    ⟫ (λ w s frame whole e. keeps_a w s 0x04 (sum32 s.a w.k) e refl)
    ⟫ (λ w s frame whole e. keeps_a w s 0x0c (sum32 s.a s.x) e refl)
    ⟫ (λ w s frame whole e. keeps_a w s 0x14 (difference32 s.a w.k) e refl)
    ⟫ (λ w s frame whole e. keeps_a w s 0x1c (difference32 s.a s.x) e refl)
    ⟫ (λ w s frame whole e. keeps_a w s 0x24 (product32 s.a w.k) e refl)
    ⟫ (λ w s frame whole e. keeps_a w s 0x2c (product32 s.a s.x) e refl)
    ⟫ (λ w s frame whole e. keeps_a w s 0x34 (quotient s.a w.k) e refl)
    ⟫ (λ w s frame whole e. keeps_a w s 0x3c (quotient s.a s.x) e refl)
    ⟫ (λ w s frame whole e. keeps_a w s 0x44 (either_bits s.a w.k) e refl)
    ⟫ (λ w s frame whole e. keeps_a w s 0x4c (either_bits s.a s.x) e refl)
    ⟫ (λ w s frame whole e. keeps_a w s 0x54 (common_bits s.a w.k) e refl)
    ⟫ (λ w s frame whole e. keeps_a w s 0x5c (common_bits s.a s.x) e refl)
    ⟫ (λ w s frame whole e. keeps_a w s 0x64 (left_shift s.a w.k) e refl)
    ⟫ (λ w s frame whole e. keeps_a w s 0x6c (left_shift s.a s.x) e refl)
    ⟫ (λ w s frame whole e. keeps_a w s 0x74 (right_shift s.a w.k) e refl)
    ⟫ (λ w s frame whole e. keeps_a w s 0x7c (right_shift s.a s.x) e refl)
    ⟫ (λ w s frame whole e. no_slot w s 0x84 e refl)
    ⟫ (λ w s frame whole e. keeps_a w s 0x94 (remainder s.a w.k) e refl)
    ⟫ (λ w s frame whole e. keeps_a w s 0x9c (remainder s.a s.x) e refl)
    ⟫ (λ w s frame whole e. keeps_a w s 0xa4 (differing_bits s.a w.k) e refl)
    ⟫ (λ w s frame whole e. keeps_a w s 0xac (differing_bits s.a s.x) e refl)
    ⟫ (λ w s frame whole e. no_slot w s 0x05 e refl)
    ⟫ (λ w s frame whole e. no_slot w s 0x15 e refl)
    ⟫ (λ w s frame whole e. no_slot w s 0x1d e refl)
    ⟫ (λ w s frame whole e. no_slot w s 0x25 e refl)
    ⟫ (λ w s frame whole e. no_slot w s 0x2d e refl)
    ⟫ (λ w s frame whole e. no_slot w s 0x35 e refl)
    ⟫ (λ w s frame whole e. no_slot w s 0x3d e refl)
    ⟫ (λ w s frame whole e. no_slot w s 0x45 e refl)
    ⟫ (λ w s frame whole e. no_slot w s 0x4d e refl)
    ⟫ (λ w s frame whole e. tt)
    ⟫ (λ w s frame whole e. tt)
    ⟫ (λ w s frame whole e. no_slot w s 0x07 e refl)
    ⟫ (λ w s frame whole e. no_slot w s 0x87 e refl)
    ⟫ tt

reverts_by : (w : Packed) (s t : State) (frame : List ℕ) (whole : ℕ) (found : Option Row) → row w.code ≡ found → option_map (λ r. r.effect w s frame whole) found ≡ Some (On t) → Reverts w s (On t)
unfolding row
reverts_by w s t frame whole None is e = cc
reverts_by w s t frame whole (Some r) is e =
    let reverts : Reverts w s (r.effect w s frame whole) = row_has RowReverts table w.code r each_row is w s frame whole refl in
    let on : r.effect w s frame whole ≡ On t = same_Some (r.effect w s frame whole) (On t) e in
    subst (λ (o : Outcome). Reverts w s o) on reverts

-- the state before, of a state with other scratch memory
rebuilt : (p : List Packed) (s t : State) → scratch_before (slot_of s (slice_get p s.place)) t.scratch ≡ s.scratch → state_before (record_of p s) t ≡ s
rebuilt p s t e = ap (λ (scratch : List ℕ). record { place = s.place; a = s.a; x = s.x; scratch = scratch }) e

step_by_insn : (p : List Packed) (s t : State) (frame : List ℕ) (whole : ℕ) (insn : Option Packed) → slice_get p s.place ≡ insn → program_step p frame whole s ≡ Some (On t) → scratch_before (slot_of s insn) t.scratch ≡ s.scratch
step_by_insn p s t frame whole None is e = let h : None ≡ Some (On t) = subst (λ (o : Option Packed). Rattle.std.specs.Option.option_and_then (λ w. step_of w s frame whole) o ≡ Some (On t)) is e in cc
step_by_insn p s t frame whole (Some w) is e =
    let h : step_of w s frame whole ≡ Some (On t) = subst (λ (o : Option Packed). Rattle.std.specs.Option.option_and_then (λ w. step_of w s frame whole) o ≡ Some (On t)) is e in
    reverts_by w s t frame whole (row w.code) refl h

-- a step is undone by the record of the state before it
pub step_reverts : (p : List Packed) (s t : State) (frame : List ℕ) (whole : ℕ) → program_step p frame whole s ≡ Some (On t) → state_before (record_of p s) t ≡ s
step_reverts p s t frame whole e = rebuilt p s t (step_by_insn p s t frame whole (slice_get p s.place) refl e)

same_by : (s : State) (w : Packed) (b : Bool) → stores_scratch w.code ≡ b → scratch_before (slot_of s (Some w)) s.scratch ≡ s.scratch
same_by s w true e = rw e (set-get_or s.scratch w.k 0)
same_by s w false e = rw e refl

same_slot : (s : State) (insn : Option Packed) → scratch_before (slot_of s insn) s.scratch ≡ s.scratch
same_slot s None = refl
same_slot s (Some w) = same_by s w (stores_scratch w.code) refl

-- the record of a state leaves the state itself as it is
pub record_stays : (p : List Packed) (s : State) → state_before (record_of p s) s ≡ s
record_stays p s = rebuilt p s s (same_slot s (slice_get p s.place))
