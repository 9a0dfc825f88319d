-- A walk goes on by a step and back by a record.
use Rattle.std.specs.Prelude.{◌≡◌, ℕ, zero, suc, ◌+◌, ◌-◌, ◌<◌, ◌≤◌, List, [], ◌∷◌, ◌++◌, length, drop, Option, Some, None, is_some, slice_get, Bool, true, false, Result, Ok, Err, OnErr}
use Rattle.std.specs.List.{position_or_len}
use Rattle.std.proofs.Common.{refl, sym, ap, ◌∙◌, arith, length-append}
use Rattle.std.proofs.lemmas.Option.{slice_get_within}
use Rattle.afdx_frame.specs.Frame.{Frame}
use Rattle.bpf_isa.specs.declared.packed.Packed.{Packed}
use Rattle.bpf_isa.specs.declared.state.State.{State}
use Rattle.bpf_isa.specs.declared.state.Outcome.{Outcome}
use Rattle.bpf_isa.specs.declared.state.Outcome.TheVariants.{On, Done}
use Rattle.bpf_isa.specs.Machine.{start}
use Rattle.bpf_loader.specs.Faults.{IsLoaded}
use Rattle.bpf_machine.specs.Run.{program_step}
use Rattle.bpf_debugger.specs.Chain.{chain_of, last_of}
use Rattle.bpf_debugger.specs.Records.{Record, record_of, state_before}
use Rattle.bpf_debugger.specs.Following.{AreRecords, Follows}
use Rattle.bpf_debugger.specs.declared.walk.Walk.{Walk}
use Rattle.bpf_debugger.specs.Walking.{IsOn, position_of, stands_at, next_stop}
use Rattle.bpf_debugger.proofs.Chains.{starts, goes_on, ends, short, not_last}
use Rattle.bpf_debugger.proofs.Reverting.{step_reverts, record_stays}

records_push : (p : List Packed) (chain : List Outcome) (rs : List Record) (s : State) → AreRecords p chain rs → slice_get chain (length rs) ≡ Some (On s) → AreRecords p chain (rs ++ record_of p s ∷ [])
records_push p [] rs s h e = cc
records_push p (Done a ∷ chain) [] s h e = cc
records_push p (Done a ∷ chain) (r ∷ rs) s h e = absurd h
records_push p (On t ∷ chain) [] s h e = let same : t ≡ s = cc in (ap (record_of p) (sym same), tt)
records_push p (On t ∷ chain) (r ∷ rs) s h e = (h.0, records_push p chain rs s h.1 e)

-- the state whose record is the last
record LastRecord (p : List Packed) (chain : List Outcome) (rs : List Record) (r : Record) : Type 0 where
  others : AreRecords p chain rs
  state : State
  there : slice_get chain (length rs) ≡ Some (On state)
  is : r ≡ record_of p state

records_pop : (p : List Packed) (chain : List Outcome) (rs : List Record) (r : Record) → AreRecords p chain (rs ++ r ∷ []) → LastRecord p chain rs r
records_pop p [] [] r h = absurd h
records_pop p [] (q ∷ rs) r h = absurd h
records_pop p (Done a ∷ chain) [] r h = absurd h
records_pop p (Done a ∷ chain) (q ∷ rs) r h = absurd h
records_pop p (On t ∷ chain) [] r h = record { others = tt; state = t; there = refl; is = h.0 }
records_pop p (On t ∷ chain) (q ∷ rs) r h = let more = records_pop p chain rs r h.1 in record { others = (h.0, more.others); state = more.state; there = more.there; is = more.is }

length_push : (rs : List Record) (r : Record) → length (rs ++ r ∷ []) ≡ length rs + 1
length_push rs r = omega (arith, length-append rs (r ∷ []))

module _ (p : List Packed) (frame : Frame) where
  pub restarted : IsLoaded p → Follows p (chain_of p frame) [] start None
  restarted loaded = record { loaded = loaded; records_are = tt; entry = starts p frame loaded; state = starts p frame loaded; began = tt }

  -- the next entry is what the step gives
  pub next_entry : (rs : List Record) (s : State) (o : Outcome) → Follows p (chain_of p frame) rs s None → program_step p frame.bytes frame.whole s ≡ Some o → slice_get (chain_of p frame) (length rs + 1) ≡ Some o
  next_entry rs s o h e = let next = goes_on p frame h.loaded (length rs) s h.entry in next.2 ∙ sym next.1 ∙ e

  pub went_on : (rs : List Record) (s t : State) → Follows p (chain_of p frame) rs s None → program_step p frame.bytes frame.whole s ≡ Some (On t) → Follows p (chain_of p frame) (rs ++ record_of p s ∷ []) t None
  went_on rs s t h e =
      let there : slice_get (chain_of p frame) (length (rs ++ record_of p s ∷ [])) ≡ Some (On t) =
      ap (slice_get (chain_of p frame)) (length_push rs (record_of p s)) ∙ next_entry rs s (On t) h e in
      record { loaded = h.loaded; records_are = records_push p (chain_of p frame) rs s h.records_are h.entry; entry = there; state = there; began = tt }

  pub ended : (rs : List Record) (s : State) (a : ℕ) → Follows p (chain_of p frame) rs s None → program_step p frame.bytes frame.whole s ≡ Some (Done a) → Follows p (chain_of p frame) (rs ++ record_of p s ∷ []) s (Some a)
  ended rs s a h e =
      let count : length (rs ++ record_of p s ∷ []) ≡ length rs + 1 = length_push rs (record_of p s) in
      let before : length (rs ++ record_of p s ∷ []) - 1 ≡ length rs = omega arith in
      record {
        loaded = h.loaded;
        records_are = records_push p (chain_of p frame) rs s h.records_are h.entry;
        entry = ap (slice_get (chain_of p frame)) count ∙ next_entry rs s (Done a) h e;
        state = ap (slice_get (chain_of p frame)) before ∙ h.entry;
        began = omega arith;
      }

  back_by : (rs : List Record) (r : Record) (s : State) (answer : Option ℕ) → Follows p (chain_of p frame) (rs ++ r ∷ []) s answer → (last : LastRecord p (chain_of p frame) rs r) → state_before (record_of p last.state) s ≡ last.state
  back_by rs r s None h last =
      let next = goes_on p frame h.loaded (length rs) last.state last.there in
      let here : slice_get (chain_of p frame) (length rs + 1) ≡ Some (On s) = ap (slice_get (chain_of p frame)) (sym (length_push rs r)) ∙ h.entry in
      step_reverts p last.state s frame.bytes frame.whole (next.1 ∙ sym next.2 ∙ here)
  back_by rs r s (Some a) h last =
      let count : length (rs ++ r ∷ []) ≡ length rs + 1 = length_push rs r in
      let before : length (rs ++ r ∷ []) - 1 ≡ length rs = omega arith in
      let e : Some (On last.state) ≡ Some (On s) = sym last.there ∙ ap (slice_get (chain_of p frame)) (sym before) ∙ h.state in
      let same : last.state ≡ s = cc in
      ap (state_before (record_of p last.state)) (sym same) ∙ record_stays p last.state

  pub went_back : (rs : List Record) (r : Record) (s : State) (answer : Option ℕ) → Follows p (chain_of p frame) (rs ++ r ∷ []) s answer → Follows p (chain_of p frame) rs (state_before r s) None
  went_back rs r s answer h =
      let last = records_pop p (chain_of p frame) rs r h.records_are in
      let back : state_before r s ≡ last.state = ap (λ (q : Record). state_before q s) last.is ∙ back_by rs r s answer h last in
      let there : slice_get (chain_of p frame) (length rs) ≡ Some (On (state_before r s)) = last.there ∙ ap (λ (t : State). Some (On t)) (sym back) in
      record { loaded = h.loaded; records_are = last.others; entry = there; state = there; began = tt }

  -- ---- the last position

  at_last_by : (rs : List Record) (s : State) (answer : Option ℕ) → Follows p (chain_of p frame) rs s answer → is_some answer ≡ true → last_of (chain_of p frame) ≡ length rs
  at_last_by rs s None h e = cc
  at_last_by rs s (Some a) h e = ends p frame h.loaded (length rs) a h.entry

  before_last_by : (rs : List Record) (s : State) (answer : Option ℕ) → Follows p (chain_of p frame) rs s answer → answer ≡ None → length rs < last_of (chain_of p frame)
  before_last_by rs s None h e = not_last p frame h.loaded (length rs) s h.entry
  before_last_by rs s (Some a) h e = cc

  within_by : (rs : List Record) (s : State) (answer : Option ℕ) → Follows p (chain_of p frame) rs s answer → length rs ≤ last_of (chain_of p frame)
  within_by rs s None h = let lt : length rs < last_of (chain_of p frame) = not_last p frame h.loaded (length rs) s h.entry in omega arith
  within_by rs s (Some a) h = let e : last_of (chain_of p frame) ≡ length rs = ends p frame h.loaded (length rs) a h.entry in omega arith

  pub at_last : (walk : Walk) → IsOn p frame walk → is_some walk.answer ≡ true → last_of (chain_of p frame) ≡ position_of walk
  at_last walk h e = at_last_by walk.undos.items walk.state walk.answer h e

  pub before_last : (walk : Walk) → IsOn p frame walk → walk.answer ≡ None → position_of walk < last_of (chain_of p frame)
  before_last walk h e = before_last_by walk.undos.items walk.state walk.answer h e

  pub within : (walk : Walk) → IsOn p frame walk → position_of walk ≤ last_of (chain_of p frame)
  within walk h = within_by walk.undos.items walk.state walk.answer h

  pub room_for : (walk : Walk) → IsOn p frame walk → last_of (chain_of p frame) ≤ length p
  room_for walk h = short p frame h.loaded

-- a fact of what a refusal leaves
pub on_err : {T E : Type 0} (r : Result T E) (P : Type 0) → P → OnErr r P
on_err (Ok x) P h = tt
on_err (Err e) P h = h

-- ---- breakpoints

drop_next : (os : List Outcome) (m : ℕ) (o : Outcome) → slice_get os m ≡ Some o → drop m os ≡ o ∷ drop (suc m) os
drop_next [] m o e = cc
drop_next (x ∷ os) zero o e = let same : x ≡ o = cc in ap (λ (y : Outcome). y ∷ os) same
drop_next (x ∷ os) (suc m) o e = drop_next os m o e

module _ (breakpoints : List Bool) (chain : List Outcome) where
  -- the next entry stands at a breakpoint
  pub stops_next : (m : ℕ) (o : Outcome) → slice_get chain (m + 1) ≡ Some o → stands_at breakpoints o ≡ true → next_stop breakpoints chain m ≡ m + 1
  stops_next m o e h =
      let lt : m + 1 < length chain = slice_get_within chain (m + 1) o e in
      let rest : drop (m + 1) chain ≡ o ∷ drop (suc (m + 1)) chain = drop_next chain (m + 1) o e in
      let none : position_or_len (stands_at breakpoints) (drop (m + 1) chain) ≡ 0 = rw (rest, h) refl in
      omega arith

  -- it doesn't
  pub passes_next : (m : ℕ) (o : Outcome) → slice_get chain (m + 1) ≡ Some o → stands_at breakpoints o ≡ false → next_stop breakpoints chain (m + 1) ≡ next_stop breakpoints chain m
  passes_next m o e h =
      let lt : m + 1 < length chain = slice_get_within chain (m + 1) o e in
      let next : suc (m + 1) ≡ m + 1 + 1 = omega arith in
      let rest : drop (m + 1) chain ≡ o ∷ drop (m + 1 + 1) chain = drop_next chain (m + 1) o e ∙ ap (λ (n : ℕ). o ∷ drop n chain) next in
      let more : position_or_len (stands_at breakpoints) (drop (m + 1) chain) ≡ 1 + position_or_len (stands_at breakpoints) (drop (m + 1 + 1) chain) = rw (rest, h) refl in
      omega arith

  pub stays_last : (m : ℕ) → last_of chain ≡ m → next_stop breakpoints chain m ≡ m
  stays_last m e = omega arith

  pub stops_later : (m : ℕ) → m < last_of chain → m < next_stop breakpoints chain m
  stops_later m lt = omega arith
