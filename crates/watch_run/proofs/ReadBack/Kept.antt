-- The word of filters on frames, and what is kept of them.
use Rattle.std.proofs.Common.{◌≡◌, ◌∙◌, ℕ, zero, suc, ◌+◌, ◌*◌, ◌^◌, ◌<◌, ◌≤◌, min, max, Bool, false, cond, nat_lt, lt-ltb, ne_eqb, ◌==◌, List, [], ◌∷◌, length, map, Option, None, Some, is_some, IfSome, refl, sym, ap, arith, pow-suc, pow_mono}
use Rattle.std.specs.List.{AllByRecursion}
use Rattle.afdx_frame.specs.Frame.{Frame, IsFrame}
use Rattle.bpf_isa.specs.declared.packed.Packed.{Packed}
use Rattle.filter_workers.specs.Filters.{accepts_bit, answer_by, answer_for, mask_by}
use Rattle.ledger_text.specs.Ledger.{ReadLine, ReadsLines}
use Rattle.ledger_text.specs.Reads.{Below}
use Rattle.ledger_text.specs.declared.order.Counts.TheVariants as counts
use Rattle.ledger_text.specs.declared.order.LedgerStage.TheVariants as stages
use Rattle.pcap_io.specs.declared.recording.Ending.{Ending}
use Rattle.watch_run.specs.Filters.{Making, entries_by, keep_by, keep_of, ledger_by}
use Rattle.verdict_ledger.specs.Entry.{entries_of, entry_with}
use Rattle.vl_config.specs.Document.{VlTable}
use Rattle.vl_judge.specs.Judgement.{Judgement}
use Rattle.vl_judge.specs.Verdicts.{verdicts}
use Rattle.watch_run.proofs.ReadBack.Shown.{shown_lines}
use Rattle.watch_run.proofs.ReadBack.Written.{written}
use Rattle.watch_run.specs.ReadBack.{IsHeld, IsKept, written_lines}
use Rattle.watch_run.specs.RunLedger.{IsRun}

-- ---- one frame

not_zero : (n : ℕ) → (suc n == 0) ≡ false
not_zero n = ne_eqb (suc n) 0 (omega arith)

bit_is : (n : ℕ) → accepts_bit (suc n) ≡ 1
bit_is n = ap (λ (b : Bool). cond b 0 1) (not_zero n)

keep_is : (n : ℕ) (f : Frame) → keep_of (suc n) f ≡ Some (min (suc n) (length f.bytes))
keep_is n f = ap (λ (b : Bool). cond b None (Some (min (suc n) (length f.bytes)))) (not_zero n)

small_bit : (answer : ℕ) → accepts_bit answer ≤ 1
small_bit zero = omega arith
small_bit (suc n) = omega (arith, bit_is n)

mask_small : (ps : List (List Packed)) (f : Frame) → mask_by ps f < 2 ^ length ps
mask_small [] f = omega arith
mask_small (p ∷ ps) f =
    let power : 2 ^ suc (length ps) ≡ 2 ^ length ps * 2 = pow-suc 2 (length ps) in
    omega (arith, power, mask_small ps f, small_bit (answer_for p f))

-- both are 0, or neither
abbrev Alike : ℕ → ℕ → Type 0
Alike mask answer = (mask ≡ 0 → answer ≡ 0) × (answer ≡ 0 → mask ≡ 0)

alike_more : (a mask answer : ℕ) → Alike mask answer → Alike (mask * 2 + accepts_bit a) (max a answer)
alike_more zero mask answer (there, back) = (λ e. (let none = there (omega (arith, e)) in omega (arith, none)), λ e. (let none = back (omega (arith, e)) in omega (arith, none)))
alike_more (suc a) mask answer (there, back) = (λ e. absurd (omega (arith, e, bit_is a)), λ e. absurd (omega (arith, e)))

alike : (ps : List (List Packed)) (f : Frame) → Alike (mask_by ps f) (answer_by ps f)
alike [] f = (λ e. refl, λ e. refl)
alike (p ∷ ps) f = alike_more (answer_for p f) (mask_by ps f) (answer_by ps f) (alike ps f)

names_kept : (mask answer : ℕ) (f : Frame) → Alike mask answer → nat_lt 0 mask ≡ is_some (keep_of answer f)
names_kept zero zero f h = refl
names_kept zero (suc a) f h = absurd (omega (arith, h.0 refl))
names_kept (suc m) zero f h = absurd (omega (arith, h.1 refl))
names_kept (suc m) (suc a) f h = lt-ltb 0 (suc m) (omega arith) ∙ sym (ap is_some (keep_is a f))

few_kept : (answer : ℕ) (f : Frame) → IsFrame f → IfSome (keep_of answer f) (Below (2 ^ 32))
few_kept zero f h = tt
few_kept (suc a) f h = rw (keep_is a f) (omega (arith, h.few_bytes))

-- ---- all frames

all_kept : (ps : List (List Packed)) (frames : List Frame) (said : List Judgement) → length ps ≤ 8 → AllByRecursion IsHeld frames
    → AllByRecursion IsKept (entries_of frames said (map (keep_by ps) frames) (map (mask_by ps) frames))
all_kept ps [] said few h = tt
all_kept ps (f ∷ frames) [] few h = tt
all_kept ps (f ∷ frames) (j ∷ said) few h =
    let small : mask_by ps f < 2 ^ 8 = omega (arith, mask_small ps f, pow_mono few) in
    let here : IsKept (entry_with f j (keep_by ps f) (mask_by ps f)) = record {
      held = h.0;
      kept = few_kept (answer_by ps f) f h.0.frame;
      mask = record { small = small; names = names_kept (mask_by ps f) (answer_by ps f) f (alike ps f) };
    } in
    (here, all_kept ps frames said few h.1)

few_entries : (frames : List Frame) (said : List Judgement) (keeps : List (Option ℕ)) (masks : List ℕ) → length (entries_of frames said keeps masks) ≤ length frames
few_entries [] said keeps masks = omega arith
few_entries (f ∷ frames) [] keeps masks = omega arith
few_entries (f ∷ frames) (j ∷ said) [] masks = omega arith
few_entries (f ∷ frames) (j ∷ said) (k ∷ keeps) [] = omega arith
few_entries (f ∷ frames) (j ∷ said) (k ∷ keeps) (m ∷ masks) = omega (arith, few_entries frames said keeps masks)

pub run_read : (ps : Making) (vl_table : VlTable) (frames : List Frame) (a b : Ending) → IsRun ps vl_table frames a b
    → (rs : List ReadLine) × (map (λ r. r.line) rs ≡ written_lines ps.version vl_table (length ps.filters) (entries_by ps vl_table frames))
    × ReadsLines stages.Head (Some (ledger_by ps vl_table frames a b)) rs (stages.Counts counts.Total) (Some [])
run_read ps vl_table frames a b h =
    let keeps = map (keep_by ps.filters) frames in
    let masks = map (mask_by ps.filters) frames in
    let said = verdicts vl_table frames in
    written ps.version vl_table (length ps.filters) (entries_by ps vl_table frames) a b (record {
      shown = shown_lines ps.version vl_table frames keeps masks (all_kept ps.filters frames said h.filters h.held);
      named = h.named;
      few = omega (arith, few_entries frames said keeps masks, h.few);
      few_a = h.few_a;
      few_b = h.few_b;
    })
