-- The chain of a loaded program on a frame: it is the program's one run there.
use Rattle.std.specs.Prelude.{◌≡◌, ℕ, zero, suc, ◌+◌, ◌<◌, ◌≤◌, List, [], ◌∷◌, ◌++◌, length, map, Option, Some, None, slice_get}
use Rattle.std.specs.Option.{option_and_then}
use Rattle.std.proofs.Common.{refl, sym, ap, ◌∙◌, subst, arith, length-append, add-one}
use Rattle.std.proofs.lemmas.List.{length-map}
use Rattle.std.proofs.lemmas.Option.{slice_get_within}
use Rattle.afdx_frame.specs.Frame.{Frame}
use Rattle.bpf_isa.specs.declared.packed.Packed.{Packed}
use Rattle.bpf_isa.specs.declared.state.State.{State}
use Rattle.bpf_isa.specs.declared.state.Outcome.{Outcome}
use Rattle.bpf_isa.specs.declared.state.Outcome.TheVariants.{On, Done}
use Rattle.bpf_isa.specs.Machine.{start}
use Rattle.bpf_isa.specs.Table.{step_of}
use Rattle.bpf_loader.specs.Faults.{IsLoaded}
use Rattle.bpf_machine.specs.Run.{program_step, RunsFrom, Runs}
use Rattle.bpf_machine.proofs.OneRun.{has_one_run}
use Rattle.bpf_debugger.specs.Chain.{chain_from, chain_of, last_of, entries_of, EachChainIsItsRun}

-- the entries from a state on
abbrev entries_from : State → List State → ℕ → List Outcome
entries_from s ts a = On s ∷ (map (λ u. On u) ts ++ Done a ∷ [])

module _ (p : List Packed) (frame : Frame) where
  chain_done : (n a : ℕ) → chain_from n p frame (Some (Done a)) ≡ Done a ∷ []
  chain_done zero a = refl
  chain_done (suc n) a = refl

  chain_entries : (n : ℕ) (s : State) (ts : List State) (a : ℕ) → RunsFrom p frame.bytes frame.whole s ts a → length ts < n → chain_from n p frame (Some (On s)) ≡ entries_from s ts a
  chain_entries zero s ts a h lt = absurd (omega arith)
  chain_entries (suc n) s [] a h lt = rw h (ap (λ (os : List Outcome). On s ∷ os) (chain_done n a))
  chain_entries (suc n) s (t ∷ ts) a h lt = rw h.0 (ap (λ (os : List Outcome). On s ∷ os) (chain_entries n t ts a h.1 (omega arith)))

  chain_is : IsLoaded p → (states : List State) (answer : ℕ) → Runs p frame.bytes frame.whole states answer → chain_of p frame ≡ entries_of states answer
  unfolding chain_of
  chain_is loaded states answer runs =
      let run = has_one_run p loaded frame.bytes frame.whole in
      let same = run.only states answer runs in
      let count : length run.states ≡ length states = ap length same.0 in
      chain_entries (length p) start states answer runs (omega (arith, run.bounded, count))

  goes_on_in : (s : State) (ts : List State) (a m : ℕ) (u : State) → RunsFrom p frame.bytes frame.whole s ts a → slice_get (entries_from s ts a) m ≡ Some (On u)
      → (o : Outcome) × (program_step p frame.bytes frame.whole u ≡ Some o) × (slice_get (entries_from s ts a) (suc m) ≡ Some o)
  goes_on_in s [] a zero u h e = let same : s ≡ u = cc in (Done a, subst (λ (v : State). program_step p frame.bytes frame.whole v ≡ Some (Done a)) same h, refl)
  goes_on_in s [] a (suc zero) u h e = cc
  goes_on_in s [] a (suc (suc m)) u h e = cc
  goes_on_in s (t ∷ ts) a zero u h e = let same : s ≡ u = cc in (On t, subst (λ (v : State). program_step p frame.bytes frame.whole v ≡ Some (On t)) same h.0, refl)
  goes_on_in s (t ∷ ts) a (suc m) u h e = goes_on_in t ts a m u h.1 e

  ends_in : (s : State) (ts : List State) (a m b : ℕ) → slice_get (entries_from s ts a) m ≡ Some (Done b) → length ts + 1 ≡ m
  ends_in s [] a zero b e = cc
  ends_in s [] a (suc zero) b e = refl
  ends_in s [] a (suc (suc m)) b e = cc
  ends_in s (t ∷ ts) a zero b e = cc
  ends_in s (t ∷ ts) a (suc m) b e = let h : length ts + 1 ≡ m = ends_in t ts a m b e in omega arith

  length_in : (s : State) (ts : List State) (a : ℕ) → length (entries_from s ts a) ≡ length ts + 2
  length_in s ts a = simp (length-append, length-map) (omega arith)

-- the run, with the chain that it is
pub record IsChain (p : List Packed) (frame : Frame) (chain : List Outcome) : Type 0 where
  pub states : List State
  pub answer : ℕ
  pub runs : RunsFrom p frame.bytes frame.whole start states answer
  pub bounded : length states < length p
  pub entries : chain ≡ On start ∷ (map (λ u. On u) states ++ Done answer ∷ [])

pub chain_run : (p : List Packed) (frame : Frame) → IsLoaded p → IsChain p frame (chain_of p frame)
chain_run p frame loaded =
    let run = has_one_run p loaded frame.bytes frame.whole in
    record { states = run.states; answer = run.answer; runs = run.runs; bounded = run.bounded; entries = chain_is p frame loaded run.states run.answer run.runs }

pub each_chain_is_its_run : EachChainIsItsRun
each_chain_is_its_run p loaded frame states answer runs = chain_is p frame loaded states answer runs

-- all that a state's instruction needs
stands_inside : (p : List Packed) (frame : Frame) (u : State) (o : Outcome) (insn : Option Packed) → slice_get p u.place ≡ insn → option_and_then (λ w. step_of w u frame.bytes frame.whole) insn ≡ Some o → u.place < length p
stands_inside p frame u o None is e = cc
stands_inside p frame u o (Some w) is e = slice_get_within p u.place w is

module _ (p : List Packed) (frame : Frame) (loaded : IsLoaded p) where
  pub starts : slice_get (chain_of p frame) 0 ≡ Some (On start)
  starts = let run = chain_run p frame loaded in rw run.entries refl

  pub goes_on : (m : ℕ) (u : State) → slice_get (chain_of p frame) m ≡ Some (On u) → (o : Outcome) × (program_step p frame.bytes frame.whole u ≡ Some o) × (slice_get (chain_of p frame) (m + 1) ≡ Some o)
  goes_on m u e =
      let run = chain_run p frame loaded in
      let next = goes_on_in p frame start run.states run.answer m u run.runs (sym (ap (λ (os : List Outcome). slice_get os m) run.entries) ∙ e) in
      let one : m + 1 ≡ suc m = add-one m in
      (next.0, next.1, ap (λ (k : ℕ). slice_get (chain_of p frame) k) one ∙ ap (λ (os : List Outcome). slice_get os (suc m)) run.entries ∙ next.2)

  pub ends : (m b : ℕ) → slice_get (chain_of p frame) m ≡ Some (Done b) → last_of (chain_of p frame) ≡ m
  ends m b e =
      let run = chain_run p frame loaded in
      let at : length run.states + 1 ≡ m = ends_in p frame start run.states run.answer m b (sym (ap (λ (os : List Outcome). slice_get os m) run.entries) ∙ e) in
      let count : length (chain_of p frame) ≡ length run.states + 2 = ap length run.entries ∙ length_in p frame start run.states run.answer in
      omega arith

  pub short : last_of (chain_of p frame) ≤ length p
  short =
      let run = chain_run p frame loaded in
      let count : length (chain_of p frame) ≡ length run.states + 2 = ap length run.entries ∙ length_in p frame start run.states run.answer in
      omega (arith, run.bounded)

  pub not_last : (m : ℕ) (u : State) → slice_get (chain_of p frame) m ≡ Some (On u) → m < last_of (chain_of p frame)
  not_last m u e =
      let next = goes_on m u e in
      let within : m + 1 < length (chain_of p frame) = slice_get_within (chain_of p frame) (m + 1) next.0 next.2 in
      omega arith

  pub inside : (m : ℕ) (u : State) → slice_get (chain_of p frame) m ≡ Some (On u) → u.place < length p
  inside m u e = let next = goes_on m u e in stands_inside p frame u next.0 (slice_get p u.place) refl next.1
