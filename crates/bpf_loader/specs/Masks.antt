-- The pass of masks: for each pc the scratch memory slots that every path to it has stored, a bit
-- for each.
use Rattle.std.specs.Prelude.{◌≡◌, ℕ, ◌*◌, ◌%◌, ◌^◌, ◌<◌, List, [], ◌∷◌, Option, Some, None, IfSome, length, bit_and, bit_or, slice_index, slice_set, All}
use Rattle.std.specs.Int.{bit_at}
use Rattle.bpf_isa.specs.declared.insn.Insn.{Insn}
use Rattle.bpf_isa.specs.declared.state.TheConstants.{SCRATCH_SLOTS}
use Rattle.bpf_loader.specs.declared.fault.LoadFault.{LoadFault}
use Rattle.bpf_loader.specs.declared.fault.LoadFault.TheVariants.{Unstored}
use Rattle.bpf_loader.specs.Typed.{successors_of, loaded_slot, stored_slot}

-- the mask after an instruction, by the slot that it stores
abbrev pub mask_after : Option ℕ → ℕ → ℕ
mask_after None before = before
mask_after (Some k) before = bit_or before (1 * 2 ^ k % 2 ^ 16)

-- without the slots that the mask lacks, in the masks at these pcs
abbrev pub intersect_masks : List ℕ → List ℕ → ℕ → List ℕ
intersect_masks masks [] mask = masks
intersect_masks masks (pc ∷ pcs) mask = intersect_masks (slice_set masks pc (bit_and (slice_index masks pc) mask)) pcs mask

-- the masks after the instruction at a pc
abbrev pub masks_after : List ℕ → ℕ → Insn → List ℕ
masks_after masks pc i = intersect_masks masks (successors_of pc i) (mask_after (stored_slot i) (slice_index masks pc))

-- the slots exist, and the successors have masks
pub record CanCarry (masks : List ℕ) (pc : ℕ) (i : Insn) : Type 0 where
  pub here : pc < length masks
  pub successors : All (λ next. next < length masks) (successors_of pc i)
  pub read : IfSome (loaded_slot i) (λ slot. slot < SCRATCH_SLOTS)
  pub stored : IfSome (stored_slot i) (λ slot. slot < SCRATCH_SLOTS)

-- the instruction loads no slot that its mask lacks, and the masks are carried over it
pub record Carries (old new : List ℕ) (pc : ℕ) (i : Insn) : Type 0 where
  pub masks : new ≡ masks_after old pc i
  pub read : IfSome (loaded_slot i) (λ slot. bit_at (slice_index old pc) slot ≡ 1)

-- the instruction loads a slot that its mask lacks
pub record Lacks (masks : List ℕ) (pc : ℕ) (i : Insn) (fault : LoadFault) : Type 0 where
  pub slot : ℕ
  pub read : loaded_slot i ≡ Some slot
  pub unset : bit_at (slice_index masks pc) slot ≡ 0
  pub fault_is : fault ≡ Unstored pc slot
