-- The lines of the first instructions, as they grow by one.
use Rattle.std.proofs.Common.{◌≡◌, ◌≢◌, ℕ, ◌+◌, ◌<◌, List, [], ◌∷◌, ◌++◌, length, map, take, slice_get, Option, Some, None, sym, subst, ap, ◌∙◌, arith}
use Rattle.std.proofs.Common.{cond, get_or, is_none, suc}
use Rattle.std.proofs.Math.Seq.{take-length}
use Rattle.std.proofs.lemmas.List.{append_assoc, append-nil, map-append, length-map}
use Rattle.std.proofs.lemmas.Option.{slice_get-get_or, slice_get-map, slice_get_within, get_or_from_slice_get}
use Rattle.std.proofs.lemmas.List.Elements.{All-more}
use Rattle.std.specs.List.{All}
use Rattle.bpf_isa.specs.Numeric.{IsPacked}
use Rattle.bpf_asm.specs.Assembly.{IsSourceOf}
use Rattle.bpf_asm.specs.Laws.{ArePacked}
use Rattle.bpf_asm.proofs.Relisted.{assembles_again}
use Rattle.std.specs.Option.{option_map, option_and_then}
use Rattle.bpf_isa.specs.declared.packed.Packed.{Packed}
use Rattle.bpf_isa.specs.declared.insn.Insn.{Insn}
use Rattle.bpf_isa.specs.Insns.{packed_insn}
use Rattle.bpf_isa.specs.Table.{Row, canonical_form, row}
use Rattle.bpf_loader.specs.Faults.{IsLoaded, fault_of_packed, fault_of_operands}
use Rattle.bpf_loader.specs.declared.fault.LoadFault.{LoadFault}
use Rattle.bpf_loader.specs.declared.fault.LoadFault.TheVariants.{UnknownCode}
use Rattle.bpf_asm.specs.Listing.{IsListing, line_text, lines_text}
use Rattle.bpf_asm.proofs.Indices.{take_push, take_len, some_is}

lines_push : (n : ℕ) (is : List Insn) (i : Insn) → lines_text n (is ++ i ∷ []) ≡ lines_text n is ++ line_text (n + length is) i
lines_push n [] i = append-nil (line_text n i) ∙ ap (λ m. line_text m i) (plus_zero n)
  where
    plus_zero : (m : ℕ) → m ≡ m + 0
    plus_zero m = grind arith
lines_push n (j ∷ js) i =
    ap (λ rest. line_text n j ++ rest) (lines_push (n + 1) js i)
    ∙ sym (append_assoc (line_text n j) (lines_text (n + 1) js) (line_text (n + 1 + length js) i))
    ∙ ap (λ m. line_text n j ++ lines_text (n + 1) js ++ line_text m i) (next n (length js))
  where
    next : (m k : ℕ) → m + 1 + k ≡ m + suc k
    next m k = grind arith

-- the text is the listing of the first instructions
pub record Listed (p : List Packed) (at : ℕ) (text : List ℕ) : Type 0 where
  pub insns : List Insn
  pub packed_are : map packed_insn insns ≡ take at p
  pub lines : text ≡ lines_text 0 insns
  pub packed : All IsPacked (take at p)

length_insns : (is : List Insn) (ws : List Packed) → map packed_insn is ≡ ws → length is ≡ length ws
length_insns is ws e = sym (length-map is packed_insn) ∙ ap length e

pub listed_more : (p : List Packed) (at : ℕ) (w : Packed) (i : Insn) (text : List ℕ) → slice_get p at ≡ Some w → packed_insn i ≡ w → IsPacked w →
    Listed p at text → Listed p (at + 1) (text ++ line_text at i)
listed_more p at w i text there word fits listed = record {
  insns = listed.insns ++ i ∷ [];
  packed_are = map-append packed_insn listed.insns (i ∷ []) ∙ ap (λ ws. ws ++ packed_insn i ∷ []) listed.packed_are ∙ ap (λ v. take at p ++ v ∷ []) word ∙ sym (take_push p at w there);
  lines = ap (λ t. t ++ line_text at i) listed.lines ∙ ap (λ n. lines_text 0 listed.insns ++ line_text n i) (sym (index listed)) ∙ sym (lines_push 0 listed.insns i);
  packed = All-more IsPacked p at w (slice_get_within p at w there) listed.packed (subst IsPacked (sym (get_or_from_slice_get p at w w there)) fits);
}
  where
    zero_plus : (n : ℕ) → 0 + n ≡ n
    zero_plus n = grind arith

    index : Listed p at text → 0 + length listed.insns ≡ at
    index l = zero_plus (length listed.insns) ∙ length_insns listed.insns (take at p) listed.packed_are ∙ take_len p at w there

-- an instruction of a loaded program is in canonical form
pub loaded_insn : (p : List Packed) (at : ℕ) (w : Packed) → IsLoaded p → slice_get p at ≡ Some w → canonical_form w ≡ w
loaded_insn p at w loaded there =
    some_is (canonical_form w) w (sym (ap (option_map canonical_form) there) ∙ sym (slice_get-map canonical_form p at) ∙ ap (λ ws. slice_get ws at) loaded.canonical ∙ there)

-- and its code is listed
pub loaded_row : (p : List Packed) (at : ℕ) (w : Packed) → IsLoaded p → slice_get p at ≡ Some w → row w.code ≢ None
loaded_row p at w loaded there none = by (row w.code) none (sym (ap (option_and_then (fault_of_packed (length p) at)) there) ∙ loaded.loadable.no_insn_fault at)
  where
    unlisted : (f : Option LoadFault) → f ≡ Some (UnknownCode at) → f ≡ None → ⊥
    unlisted f some nothing = cc

    by : (found : Option Row) → row w.code ≡ None → fault_of_packed (length p) at w ≡ None → ⊥
    by found e fault = unlisted (fault_of_packed (length p) at w) (ap (λ r. cond (is_none r) (Some (UnknownCode at)) (fault_of_operands (length p) at w)) e) fault

pub all_listed : (p : List Packed) (text : List ℕ) → Listed p (length p) text → IsListing p text
all_listed p text listed = (listed.insns, listed.packed_are ∙ take-length p, listed.lines)

pub all_source : (p : List Packed) (text : List ℕ) → IsLoaded p → Listed p (length p) text → IsSourceOf text p
all_source p text loaded listed = assembles_again p text loaded fits (all_listed p text listed)
  where
    fits : ArePacked p
    fits at w there = subst IsPacked (get_or_from_slice_get p at w w there) (subst (All IsPacked) (take-length p) listed.packed at w (slice_get_within p at w there))

-- ---- the same at an index of the instructions as the program gives them

there_in : (p ws : List Packed) (at : ℕ) (d : Packed) → ws ≡ p → at < length ws → slice_get p at ≡ Some (get_or ws at d)
there_in p ws at d same less = subst (λ l. slice_get l at ≡ Some (get_or ws at d)) same (slice_get-get_or ws at d less)

pub listed_next : (p ws : List Packed) (at : ℕ) (d : Packed) (i : Insn) (text : List ℕ) → ws ≡ p → IsLoaded p → at < length ws →
    packed_insn i ≡ canonical_form (get_or ws at d) → IsPacked (get_or ws at d) → Listed p at text → Listed p (at + 1) (text ++ line_text at i)
listed_next p ws at d i text same loaded less is fits listed =
    listed_more p at (get_or ws at d) i text (there_in p ws at d same less) (is ∙ loaded_insn p at (get_or ws at d) loaded (there_in p ws at d same less)) fits listed

pub always_listed : (p ws : List Packed) (at : ℕ) (d : Packed) → ws ≡ p → IsLoaded p → at < length ws → row (get_or ws at d).code ≢ None
always_listed p ws at d same loaded less = loaded_row p at (get_or ws at d) loaded (there_in p ws at d same less)
