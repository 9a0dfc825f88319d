-- Which instructions are stores.
use Rattle.std.specs.Prelude.{◌≡◌, ◌≢◌, ℕ, ◌<◌, Bool, true, false, ◌||◌, Some, None, slice_get, List}
use Rattle.std.specs.Option.{option_map}
use Rattle.std.proofs.Common.{refl, sym, ap, ◌∙◌, inl, inr}
use Rattle.std.proofs.lemmas.Option.{same_Some, slice_get-map}
use Rattle.std.proofs.lemmas.Bool.Decides.{eqb_tells}
use Rattle.bpf_isa.specs.declared.packed.Packed.{Packed}
use Rattle.bpf_isa.specs.declared.state.State.{State}
use Rattle.bpf_isa.specs.declared.store.Store.{Store}
use Rattle.bpf_isa.specs.declared.store.Store.TheVariants as store
use Rattle.bpf_isa.specs.declared.state.TheConstants.{SCRATCH_SLOTS}
use Rattle.bpf_isa.specs.Families.{packed_store}
use Rattle.bpf_isa.specs.Table.{row, table, canonical_form, reads_scratch, stores_scratch}
use Rattle.bpf_isa.proofs.Decode.{canonical_at}
use Rattle.bpf_loader.specs.Faults.{IsLoaded}
use Rattle.bpf_loader.proofs.Laws.{can_step}
use Rattle.bpf_debugger.specs.Records.{slot_of}

store_row_a : (jt jf k : ℕ) → packed_store (store.A k) ≡ canonical_form (record { code = 0x02; jt = jt; jf = jf; k = k })
unfolding row table
store_row_a jt jf k = refl

store_row_x : (jt jf k : ℕ) → packed_store (store.X k) ≡ canonical_form (record { code = 0x03; jt = jt; jf = jf; k = k })
unfolding row table
store_row_x jt jf k = refl

-- an instruction that is none
pub no_store : (s : State) (w : Packed) → ((i : Store) → packed_store i ≢ canonical_form w) → stores_scratch w.code ≡ false
no_store s w none =
    elim (eqb_tells w.code 0x02) [
      | inl same ↦ absurd (none (store.A w.k) (store_row_a w.jt w.jf w.k ∙ canonical_at w 0x02 same.1))
      | inr differs ↦
          elim (eqb_tells w.code 0x03) [
            | inl same ↦ absurd (none (store.X w.k) (store_row_x w.jt w.jf w.k ∙ canonical_at w 0x03 same.1))
            | inr unequal ↦ rw (differs.0, unequal.0) refl
          ]
    ]

pub no_slot_of : (s : State) (w : Packed) → ((i : Store) → packed_store i ≢ canonical_form w) → None ≡ slot_of s (Some w)
no_slot_of s w none = rw (no_store s w none) refl

-- the instructions of a loaded program
pub canonical_in : (p : List Packed) (i : ℕ) (w : Packed) → IsLoaded p → slice_get p i ≡ Some w → canonical_form w ≡ w
canonical_in p i w loaded there =
    let e : option_map canonical_form (slice_get p i) ≡ Some w = sym (slice_get-map canonical_form p i) ∙ ap (λ (ws : List Packed). slice_get ws i) loaded.canonical ∙ there in
    let same : Some (canonical_form w) ≡ Some w = ap (option_map canonical_form) (sym there) ∙ e in
    same_Some (canonical_form w) w same

or_right : (a b : Bool) → b ≡ true → (a || b) ≡ true
or_right true b e = refl
or_right false b e = e

pub stored_in_range : (p : List Packed) (i : ℕ) (w : Packed) → IsLoaded p → slice_get p i ≡ Some w → stores_scratch w.code ≡ true → w.k < SCRATCH_SLOTS
stored_in_range p i w loaded there e = (can_step p i w loaded.loadable there).scratch (or_right (reads_scratch w.code) (stores_scratch w.code) e)
