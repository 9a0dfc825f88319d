-- The pass of masks: what the masks say of all paths, as far as the pass has come.
use Rattle.std.proofs.Common.{◌≡◌, ℕ, ◌+◌, ◌<◌, ◌≤◌, ◌⊎◌, Bool, true, false, List, [], ◌∷◌, Option, Some, None, length, suc, zero, inl, inr, min, slice_index, slice_set, refl, sym, ap, subst, ◌∙◌, arith}
use Rattle.std.specs.Prelude.{slice_get, Contains, All, is_some, IfSome, bit_and, ◌==◌}
use Rattle.std.specs.Option.{option_map_or}
use Rattle.std.specs.List.{slice_index_or}
use Rattle.std.specs.Int.{bit_at, w16}
use Rattle.std.proofs.lemmas.List.{get_or-set_other, get_or-set_same, get_or_past, length-set}
use Rattle.std.proofs.lemmas.List.Elements.{Contains-get_or}
use Rattle.std.proofs.lemmas.Option.{slice_get_past, slice_get_within, slice_get-get_or}
use Rattle.std.proofs.lemmas.Nat.Bits.{bit_at_and, bit_at-zero, bit_at_set_same, bit_at_set_other, bit_at_ones}
use Rattle.std.proofs.lemmas.Bool.{cases_eq, cases_lt, eqb-true, eqb-false, eq-eqb, ne_eqb, or_parts, or_from, true≢false, true_from_ne_false}
use Rattle.bpf_isa.specs.declared.packed.Packed.{Packed}
use Rattle.bpf_isa.specs.declared.insn.Insn.{Insn}
use Rattle.bpf_isa.specs.Insns.{packed_insn}
use Rattle.bpf_isa.specs.Table.{Row, row, canonical_form}
use Rattle.bpf_loader.specs.Paths.{successors, loads_slot, stores_slot, successors_at, reads_at, stores_at, IsPath, is_stored_on, IsUnstored}
use Rattle.bpf_loader.specs.Faults.{ReadsUnstored, IsFirstUnstored, StoresBeforeReads, HasLength, HasNoInsnFault, ends_in_return, IsFirstFault}
use Rattle.bpf_loader.proofs.Laws.{successor_behind_at, IsFaultlessInsn, faultless_at, successor_within, read_below, stored_below}
use Rattle.bpf_loader.specs.Masks.{mask_after, intersect_masks, CanCarry, Carries, Lacks}
use Rattle.bpf_loader.specs.Typed.{successors_of, loaded_slot, stored_slot}
use Rattle.bpf_loader.specs.declared.fault.LoadFault.{LoadFault}
use Rattle.bpf_loader.specs.declared.fault.LoadFault.TheVariants.{Unstored}
use Rattle.bpf_loader.proofs.ByInsn.{successors_by_insn, reads_by_insn, stores_by_insn}

-- ---- one mask intersect_masks

mask_at : List ℕ → ℕ → ℕ → ℕ
mask_at masks pc slot = bit_at (slice_index masks pc) slot

abbrev one_narrowed : List ℕ → ℕ → ℕ → List ℕ
one_narrowed masks pc mask = slice_set masks pc (bit_and (slice_index masks pc) mask)

-- a bit of the mask that is intersect_masks, and of the others
one_same : (masks : List ℕ) (pc mask slot : ℕ) → pc < length masks → bit_at (slice_index (one_narrowed masks pc mask) pc) slot ≡ min (bit_at (slice_index masks pc) slot) (bit_at mask slot)
one_same masks pc mask slot below =
    ap (λ n. bit_at n slot) (get_or-set_same masks pc (bit_and (slice_index masks pc) mask) 0 below) ∙ bit_at_and (slice_index masks pc) mask slot

past_bit : (masks : List ℕ) (pc slot : ℕ) → length masks ≤ pc → bit_at (slice_index masks pc) slot ≡ 0
past_bit masks pc slot past = ap (λ n. bit_at n slot) (get_or_past masks pc 0 past) ∙ bit_at-zero slot

-- a bit that is 0 stays 0
one_keeps : (masks : List ℕ) (pc mask j slot : ℕ) → bit_at (slice_index masks j) slot ≡ 0 → bit_at (slice_index (one_narrowed masks pc mask) j) slot ≡ 0
one_keeps masks pc mask j slot e =
    elim (cases_eq j pc) [
      | inl same ↦
          elim (cases_lt j (length masks)) [
            | inl below ↦
                let e' : bit_at (slice_index masks pc) slot ≡ 0 = rw same at e in
                let bound : pc < length masks = omega arith in
                let bit = one_same masks pc mask slot bound in
                rw same (omega arith)
            | inr past ↦ past_bit (one_narrowed masks pc mask) j slot (omega (arith, length-set masks pc (bit_and (slice_index masks pc) mask)))
          ]
      | inr differs ↦ ap (λ n. bit_at n slot) (get_or-set_other masks pc j (bit_and (slice_index masks pc) mask) 0 differs) ∙ e
    ]

-- a bit that the mask lacks is 0 in the mask that is intersect_masks
one_hits : (masks : List ℕ) (pc mask slot : ℕ) → bit_at mask slot ≡ 0 → bit_at (slice_index (one_narrowed masks pc mask) pc) slot ≡ 0
one_hits masks pc mask slot e =
    elim (cases_lt pc (length masks)) [
      | inl below ↦ let bit = one_same masks pc mask slot below in omega arith
      | inr past ↦ past_bit (one_narrowed masks pc mask) pc slot (omega (arith, length-set masks pc (bit_and (slice_index masks pc) mask)))
    ]

-- where a bit that is 0 comes from
one_from : (masks : List ℕ) (pc mask j slot : ℕ) → bit_at (slice_index (one_narrowed masks pc mask) j) slot ≡ 0 → (bit_at (slice_index masks j) slot ≡ 0) ⊎ ((bit_at mask slot ≡ 0) × (pc ≡ j))
one_from masks pc mask j slot e =
    elim (cases_eq j pc) [
      | inl same ↦
          elim (cases_lt j (length masks)) [
            | inl below ↦
                let e' : bit_at (slice_index (one_narrowed masks pc mask) pc) slot ≡ 0 = rw same at e in
                let bound : pc < length masks = omega arith in
                let bit = one_same masks pc mask slot bound in
                elim (cases_eq (bit_at mask slot) 0) [
                  | inl none ↦ inr (none, sym same)
                  | inr some ↦ inl (rw same (omega arith))
                ]
            | inr past ↦ inl (past_bit masks j slot past)
          ]
      | inr differs ↦ inl (sym (ap (λ n. bit_at n slot) (get_or-set_other masks pc j (bit_and (slice_index masks pc) mask) 0 differs)) ∙ e)
    ]

-- ---- the masks of some pcs intersect_masks

Contains-here : (x : ℕ) (xs : List ℕ) → Contains (x ∷ xs) x
Contains-here x xs = (0, omega arith, refl)

Contains-later : (x y : ℕ) (xs : List ℕ) → Contains xs y → Contains (x ∷ xs) y
Contains-later x y xs c = (suc c.0, omega (arith, c.1), c.2)

Contains-cases : (x y : ℕ) (xs : List ℕ) → Contains (x ∷ xs) y → (x ≡ y) ⊎ Contains xs y
Contains-cases x y xs (zero, below, is) = inl is
Contains-cases x y xs (suc k, below, is) = inr (k, omega arith, is)

keeps : (pcs masks : List ℕ) (mask j slot : ℕ) → bit_at (slice_index masks j) slot ≡ 0 → bit_at (slice_index (intersect_masks masks pcs mask) j) slot ≡ 0
keeps [] masks mask j slot e = e
keeps (pc ∷ pcs) masks mask j slot e =
    keeps pcs (one_narrowed masks pc mask) mask j slot (one_keeps masks pc mask j slot e)

hits : (pcs masks : List ℕ) (mask j slot : ℕ) → Contains pcs j → bit_at mask slot ≡ 0 → bit_at (slice_index (intersect_masks masks pcs mask) j) slot ≡ 0
hits [] masks mask j slot c e = absurd (omega (arith, c.1))
hits (pc ∷ pcs) masks mask j slot c e =
    elim (Contains-cases pc j pcs c) [
      | inl same ↦
          let one : bit_at (slice_index (one_narrowed masks pc mask) j) slot ≡ 0 = subst (λ (n : ℕ). bit_at (slice_index (one_narrowed masks pc mask) n) slot ≡ 0) same (one_hits masks pc mask slot e) in
          keeps pcs (one_narrowed masks pc mask) mask j slot one
      | inr later ↦ hits pcs (one_narrowed masks pc mask) mask j slot later e
    ]

comes_from : (pcs masks : List ℕ) (mask j slot : ℕ) → bit_at (slice_index (intersect_masks masks pcs mask) j) slot ≡ 0 → (bit_at (slice_index masks j) slot ≡ 0) ⊎ ((bit_at mask slot ≡ 0) × Contains pcs j)
comes_from [] masks mask j slot e = inl e
comes_from (pc ∷ pcs) masks mask j slot e =
    elim (comes_from pcs (one_narrowed masks pc mask) mask j slot e) [
      | inl before ↦ elim (one_from masks pc mask j slot before) [ inl first ↦ inl first | inr here ↦ inr (here.0, subst (λ (n : ℕ). Contains (n ∷ pcs) j) (sym here.1) (Contains-here j pcs)) ]
      | inr later ↦ inr (later.0, Contains-later pc j pcs later.1)
    ]

length-intersect_masks : (pcs masks : List ℕ) (mask : ℕ) → length (intersect_masks masks pcs mask) ≡ length masks
length-intersect_masks [] masks mask = refl
length-intersect_masks (pc ∷ pcs) masks mask =
    length-intersect_masks pcs (one_narrowed masks pc mask) mask ∙ length-set masks pc (bit_and (slice_index masks pc) mask)

-- ---- the mask after an instruction

-- true if this is the slot that is stored
abbrev stores_this : Option ℕ → ℕ → Bool
stores_this stored slot = option_map_or (λ k. k == slot) stored false

after_lacks : (stored : Option ℕ) (before slot : ℕ) → IfSome stored (λ k. k < 16) → bit_at (mask_after stored before) slot ≡ 0 → (bit_at before slot ≡ 0) × (stores_this stored slot ≡ false)
after_lacks None before slot below e = (e, refl)
after_lacks (Some k) before slot below e =
    elim (cases_eq slot k) [
      | inl same ↦ let set = bit_at_set_same w16 before k below in let e' : bit_at (mask_after (Some k) before) k ≡ 0 = rw same at e in absurd (omega arith)
      | inr differs ↦ (sym (bit_at_set_other w16 before k below slot differs) ∙ e, ne_eqb k slot (λ h. differs (sym h)))
    ]

lacks_after : (stored : Option ℕ) (before slot : ℕ) → IfSome stored (λ k. k < 16) → bit_at before slot ≡ 0 → stores_this stored slot ≡ false → bit_at (mask_after stored before) slot ≡ 0
lacks_after None before slot below e other = e
lacks_after (Some k) before slot below e other =
    bit_at_set_other w16 before k below slot (λ h. eqb-false k slot other (sym h)) ∙ e

-- ---- all that the masks say

-- The masks before the instruction at a pc is passed. A bit is 0 only where some path has not stored the slot; it is 0
-- wherever such a path has come through the pcs passed; and no read passed was of a slot that some path had not stored.
pub record Tracks (p : List Packed) (masks : List ℕ) (pc : ℕ) : Type 0 where
  pub size : length masks ≡ 4096
  pub first : (slot : ℕ) → bit_at (slice_index masks 0) slot ≡ 0
  pub sound : (j slot : ℕ) → j < 4096 → slot < 16 → bit_at (slice_index masks j) slot ≡ 0 → IsUnstored p slot j
  pub complete : (last j slot : ℕ) → last < pc → slot < 16 → IsUnstored p slot last → stores_at p slot last ≡ false → Contains (successors_at p last) j → bit_at (slice_index masks j) slot ≡ 0
  pub checked : (earlier slot : ℕ) → earlier < pc → ReadsUnstored p slot earlier → ⊥

-- a path goes on to a successor
goes_on : (p : List Packed) (slot pc next : ℕ) → IsUnstored p slot pc → stores_at p slot pc ≡ false → Contains (successors_at p pc) next → IsUnstored p slot next
goes_on p slot pc next h other c =
    (pc ∷ h.0, (h.1, c), or_from (stores_at p slot pc) (is_stored_on p slot h.0) other h.2)

lacks_by : (p : List Packed) (masks : List ℕ) (pc slot : ℕ) → Tracks p masks pc → slot < 16 → (way : List ℕ) → IsPath p way pc → is_stored_on p slot way ≡ false → bit_at (slice_index masks pc) slot ≡ 0
lacks_by p masks pc slot t below [] path none = rw path (t.first slot)
lacks_by p masks pc slot t below (last ∷ earlier) path none =
    let parts = or_parts (stores_at p slot last) (is_stored_on p slot earlier) none in
    t.complete last pc slot (successor_behind_at p last pc path.1) below (earlier, path.0, parts.1) parts.0 path.1

-- where some path to the pc has not stored the slot, the mask of the pc lacks it
unstored_lacks : (p : List Packed) (masks : List ℕ) (pc slot : ℕ) → Tracks p masks pc → slot < 16 → IsUnstored p slot pc → bit_at (slice_index masks pc) slot ≡ 0
unstored_lacks p masks pc slot t below h = lacks_by p masks pc slot t below h.0 h.1 h.2

-- ---- before the pass

start_sound : (p : List Packed) (masks : List ℕ) → ((pc : ℕ) → 1 ≤ pc → pc < 4096 → slice_index masks pc ≡ 65535) → (j slot : ℕ) → j < 4096 → slot < 16 → bit_at (slice_index masks j) slot ≡ 0 → IsUnstored p slot j
start_sound p masks others zero slot below in16 e = ([], refl, refl)
start_sound p masks others (suc j) slot below in16 e =
    let is : slice_index masks (suc j) ≡ 65535 = others (suc j) (omega arith) below in
    let one : bit_at 65535 slot ≡ 1 = bit_at_ones 16 slot in16 in
    let none : bit_at 65535 slot ≡ 0 = rw is at e in
    absurd (omega arith)

pub start_tracks : (p : List Packed) (masks : List ℕ) → length masks ≡ 4096 → slice_index masks 0 ≡ 0 → ((pc : ℕ) → 1 ≤ pc → pc < 4096 → slice_index masks pc ≡ 65535) → Tracks p masks 0
start_tracks p masks size first others = record {
  size = size;
  first = λ slot. ap (λ n. bit_at n slot) first ∙ bit_at-zero slot;
  sound = λ j slot below in16 e. start_sound p masks others j slot below in16 e;
  complete = λ last j slot before. absurd (omega arith);
  checked = λ earlier slot before. absurd (omega arith);
}

-- ---- over one instruction

module _ (p : List Packed) (masks : List ℕ) (pc : ℕ) (successors : List ℕ) (read stored : Option ℕ) (t : Tracks p masks pc) (at : pc < 4096) (is_successors : successors_at p pc ≡ successors) (is_read : (slot : ℕ) → reads_at p slot pc ≡ option_map_or (λ k. k == slot) read false) (is_stored : (slot : ℕ) → stores_at p slot pc ≡ stores_this stored slot) (in_read : IfSome read (λ k. k < 16)) (in_stored : IfSome stored (λ k. k < 16)) where
  step_sound : (j slot : ℕ) → j < 4096 → slot < 16 → bit_at (slice_index (intersect_masks masks successors (mask_after stored (slice_index masks pc))) j) slot ≡ 0 → IsUnstored p slot j
  step_sound j slot below in16 e =
      elim (comes_from successors masks (mask_after stored (slice_index masks pc)) j slot e) [
        | inl before ↦ t.sound j slot below in16 before
        | inr here ↦
            let lacks = after_lacks stored (slice_index masks pc) slot in_stored here.0 in
            goes_on p slot pc j (t.sound pc slot at in16 lacks.0) (is_stored slot ∙ lacks.1) (subst (λ (ss : List ℕ). Contains ss j) (sym is_successors) here.1)
      ]

  step_complete : (last j slot : ℕ) → last < pc + 1 → slot < 16 → IsUnstored p slot last → stores_at p slot last ≡ false → Contains (successors_at p last) j → bit_at (slice_index (intersect_masks masks successors (mask_after stored (slice_index masks pc))) j) slot ≡ 0
  step_complete last j slot before in16 h other c =
      elim (cases_lt last pc) [
        | inl earlier ↦ keeps successors masks (mask_after stored (slice_index masks pc)) j slot (t.complete last j slot earlier in16 h other c)
        | inr later ↦
            let same : last ≡ pc = omega arith in
            let unstored : IsUnstored p slot pc = subst (IsUnstored p slot) same h in
            let other_here : stores_at p slot pc ≡ false = subst (λ (n : ℕ). stores_at p slot n ≡ false) same other in
            let follows : Contains (successors_at p pc) j = subst (λ (n : ℕ). Contains (successors_at p n) j) same c in
            let lacks = lacks_after stored (slice_index masks pc) slot in_stored (unstored_lacks p masks pc slot t in16 unstored) (sym (is_stored slot) ∙ other_here) in
            hits successors masks (mask_after stored (slice_index masks pc)) j slot (subst (λ (ss : List ℕ). Contains ss j) is_successors follows) lacks
      ]

  read_contradicts : (slot : ℕ) (r : Option ℕ) → option_map_or (λ k. k == slot) r false ≡ true → IfSome r (λ k. k < 16) → IfSome r (λ k. bit_at (slice_index masks pc) k ≡ 1) → IsUnstored p slot pc → ⊥
  read_contradicts slot None e below set h = cc
  read_contradicts slot (Some k) e below set h =
      let same : k ≡ slot = eqb-true k slot e in
      let in16 : slot < 16 = subst (λ n. n < 16) same below in
      let is_set : bit_at (slice_index masks pc) slot ≡ 1 = subst (λ n. bit_at (slice_index masks pc) n ≡ 1) same set in
      let lacks = unstored_lacks p masks pc slot t in16 h in
      omega arith

  step_checked : IfSome read (λ k. bit_at (slice_index masks pc) k ≡ 1) → (earlier slot : ℕ) → earlier < pc + 1 → ReadsUnstored p slot earlier → ⊥
  step_checked set earlier slot before h =
      elim (cases_lt earlier pc) [
        | inl passed ↦ t.checked earlier slot passed h
        | inr later ↦
            let same : earlier ≡ pc = omega arith in
            let here : ReadsUnstored p slot pc = subst (ReadsUnstored p slot) same h in
            read_contradicts slot read (sym (is_read slot) ∙ here.0) in_read set here.1
      ]

  pub step_tracks : IfSome read (λ k. bit_at (slice_index masks pc) k ≡ 1) → Tracks p (intersect_masks masks successors (mask_after stored (slice_index masks pc))) (pc + 1)
  step_tracks set = record {
    size = length-intersect_masks successors masks (mask_after stored (slice_index masks pc)) ∙ t.size;
    first = λ slot. keeps successors masks (mask_after stored (slice_index masks pc)) 0 slot (t.first slot);
    sound = step_sound;
    complete = step_complete;
    checked = step_checked set;
  }

  found_first : (slot : ℕ) (r : Option ℕ) → r ≡ Some slot → IfSome r (λ k. k < 16) → ((other : ℕ) → reads_at p other pc ≡ option_map_or (λ k. k == other) r false) → bit_at (slice_index masks pc) slot ≡ 0 → IsFirstUnstored p pc slot
  found_first slot None e below reads unset = cc
  found_first slot (Some k) e below reads unset =
      let same : k ≡ slot = cc in
      let in16 : slot < 16 = subst (λ n. n < 16) same below in
      let here : reads_at p slot pc ≡ true = reads slot ∙ eq-eqb k slot same in
      ((here, t.sound pc slot at in16 unset), λ earlier other before h. t.checked earlier other before h)

  -- a read of a slot that the mask lacks is the first such read
  pub step_finds : (slot : ℕ) → read ≡ Some slot → bit_at (slice_index masks pc) slot ≡ 0 → IsFirstUnstored p pc slot
  step_finds slot e unset = found_first slot read e in_read is_read unset

-- ---- after the pass

read_within : (p : List Packed) (slot pc : ℕ) → reads_at p slot pc ≡ true → pc < length p
read_within p slot pc e =
    elim (cases_lt pc (length p)) [
      | inl below ↦ below
      | inr past ↦
          let none : reads_at p slot pc ≡ false = ap (λ (o : Option Packed). option_map_or (loads_slot slot) o false) (slice_get_past p pc past) in
          absurd (true≢false (sym e ∙ none))
    ]

-- where every instruction was passed, every path to a read has stored
pub passed_all : (p : List Packed) (masks : List ℕ) → Tracks p masks (length p) → StoresBeforeReads p
passed_all p masks t pc slot reads way path =
    true_from_ne_false (is_stored_on p slot way)
    (λ none. t.checked pc slot (read_within p slot pc reads) (reads, (way, path, none)))

-- ---- by the typed instruction at a pc

below_by : (r : Option ℕ) (t : ℕ → Bool) → ((slot : ℕ) → t slot ≡ option_map_or (λ k. k == slot) r false) → ((slot : ℕ) → t slot ≡ true → slot < 16) → IfSome r (λ k. k < 16)
below_by None t is below = tt
below_by (Some k) t is below = below k (is k ∙ eq-eqb k k refl)

-- the typed instruction at a pc, in a program whose instructions are sound
pub record Unpacked (p : List Packed) (pc : ℕ) (i : Insn) : Type 0 where
  pub w : Packed
  pub at : slice_get p pc ≡ Some w
  pub is : packed_insn i ≡ canonical_form w

pub unpacked : (p : List Packed) (pc : ℕ) (d : Packed) (i : Insn) → pc < length p → packed_insn i ≡ canonical_form (slice_index_or p pc d) → Unpacked p pc i
unpacked p pc d i below e = record { w = slice_index_or p pc d; at = slice_get-get_or p pc d below; is = e }

module _ (p : List Packed) (masks : List ℕ) (pc : ℕ) (i : Insn) (long : HasLength p) (sound : HasNoInsnFault p) (ends : ends_in_return p ≡ true) (u : Unpacked p pc i) (t : Tracks p masks pc) where
  word_is_sound : IsFaultlessInsn (length p) pc u.w
  word_is_sound = faultless_at p pc u.w sound u.at

  reads_is : (slot : ℕ) → reads_at p slot pc ≡ loads_slot slot u.w
  reads_is slot = ap (λ (o : Option Packed). option_map_or (loads_slot slot) o false) u.at

  stores_is : (slot : ℕ) → stores_at p slot pc ≡ stores_slot slot u.w
  stores_is slot = ap (λ (o : Option Packed). option_map_or (stores_slot slot) o false) u.at

  read_in : IfSome (loaded_slot i) (λ k. k < 16)
  read_in =
      below_by (loaded_slot i) (λ slot. reads_at p slot pc) (λ slot. reads_by_insn p slot pc u.w i u.at u.is)
      (λ slot e. read_below u.w (length p) pc slot word_is_sound (sym (reads_is slot) ∙ e))

  stored_in : IfSome (stored_slot i) (λ k. k < 16)
  stored_in =
      below_by (stored_slot i) (λ slot. stores_at p slot pc) (λ slot. stores_by_insn p slot pc u.w i u.at u.is)
      (λ slot e. stored_below u.w (length p) pc slot word_is_sound (sym (stores_is slot) ∙ e))

  within : pc < 4096
  within = let below = slice_get_within p pc u.w u.at in let most = long.1 in omega arith

  follows_within : All (λ next. next < length masks) (successors_of pc i)
  follows_within k d below =
      let contained : Contains (successors_of pc i) (slice_index_or (successors_of pc i) k d) = Contains-get_or (successors_of pc i) k d below in
      let at_place : Contains (successors_at p pc) (slice_index_or (successors_of pc i) k d) = subst (λ (ss : List ℕ). Contains ss (slice_index_or (successors_of pc i) k d)) (sym (successors_by_insn p pc u.w i u.at u.is)) contained in
      let of_word : Contains (successors pc u.w) (slice_index_or (successors_of pc i) k d) = subst (λ (ss : List ℕ). Contains ss (slice_index_or (successors_of pc i) k d)) (ap (λ (o : Option Packed). option_map_or (successors pc) o []) u.at) at_place in
      let inside = successor_within p pc u.w (slice_index_or (successors_of pc i) k d) sound ends u.at of_word in
      let most = long.1 in let size = t.size in omega arith

  pub can_carry : CanCarry masks pc i
  can_carry = record {
    here = let at = within in let size = t.size in omega arith;
    successors = follows_within;
    read = read_in;
    stored = stored_in;
  }

  pub carry_tracks : (new : List ℕ) → Carries masks new pc i → Tracks p new (pc + 1)
  carry_tracks new c =
      subst (λ (ms : List ℕ). Tracks p ms (pc + 1)) (sym c.masks)
      (step_tracks p masks pc (successors_of pc i) (loaded_slot i) (stored_slot i) t within (successors_by_insn p pc u.w i u.at u.is)
      (λ slot. reads_by_insn p slot pc u.w i u.at u.is) (λ slot. stores_by_insn p slot pc u.w i u.at u.is) read_in stored_in c.read)

  pub carry_finds : (fault : LoadFault) → Lacks masks pc i fault → IsFirstFault p fault
  carry_finds fault l =
      let first : IsFirstUnstored p pc l.slot =
      step_finds p masks pc (successors_of pc i) (loaded_slot i) (stored_slot i) t within (successors_by_insn p pc u.w i u.at u.is)
      (λ slot. reads_by_insn p slot pc u.w i u.at u.is) (λ slot. stores_by_insn p slot pc u.w i u.at u.is) read_in stored_in l.slot l.read l.unset in
      let found : IsFirstFault p (Unstored pc l.slot) = (long, sound, ends, first) in
      subst (IsFirstFault p) (sym l.fault_is) found

-- the instruction at a pc is listed
pub not_unlisted : (p : List Packed) (pc : ℕ) (d : Packed) → HasNoInsnFault p → pc < length p → row (slice_index_or p pc d).code ≡ None → ⊥
not_unlisted p pc d sound below none =
    let listed : is_some (row (slice_index_or p pc d).code) ≡ true = (faultless_at p pc (slice_index_or p pc d) sound (slice_get-get_or p pc d below)).listed in
    let unlisted : is_some (row (slice_index_or p pc d).code) ≡ false = ap (λ (r : Option Row). is_some r) none in
    true≢false (sym listed ∙ unlisted)
