-- The results of the commands, of a session's parts.
use Rattle.std.specs.Prelude.{◌≡◌, ℕ, zero, suc, ℤ, ◌+◌, ◌-◌, ◌<◌, Bool, true, not, List, [], ◌∷◌, length, count_by, fold, if◌then◌else◌, Option, Some, Ok, Err, slice_get, nat_lt, ⊤, MatchOption}
use Rattle.std.specs.Option.{option_map_or}
use Rattle.std.proofs.Common.{refl, sym, ap, ◌∙◌, subst, arith, inl, inr}
use Rattle.std.proofs.lemmas.Bool.{lt-ltb, cases_Bool}
use Rattle.afdx_frame.specs.Frame.{Frame}
use Rattle.bpf_isa.specs.declared.packed.Packed.{Packed}
use Rattle.bpf_debugger.specs.declared.walk.Walk.{Walk}
use Rattle.bpf_debugger.specs.declared.command.Command.TheVariants as command
use Rattle.bpf_debugger.specs.declared.reply.Reply.{Reply}
use Rattle.bpf_debugger.specs.declared.reply.Reply.TheVariants as reply
use Rattle.bpf_debugger.specs.declared.fault.DebugFault.TheVariants.{Memory}
use Rattle.bpf_debugger.specs.Chain.{chain_of}
use Rattle.bpf_debugger.specs.Following.{shown_of}
use Rattle.bpf_debugger.specs.Walking.{IsOn, position_of, moved_by, next_stop}
use Rattle.bpf_debugger.specs.Debugging.{chain_at, Shows, Gives}
use Rattle.bpf_debugger.specs.Standing.{IsOnFrame, session_state}

-- the elements that a test passes and the others are all, counted on from a and b
both_from : {X : Type 0} (test : X → Bool) (xs : List X) (a b : ℕ) → fold (λ n x. n + (if test x then 1 else 0)) a xs + fold (λ n x. n + (if not (test x) then 1 else 0)) b xs ≡ a + b + length xs
both_from test [] a b = omega arith
both_from test (x ∷ xs) a b =
    elim (cases_Bool (test x)) [
      | inl e ↦ rw e (omega (arith, both_from test xs (a + 1) (b + 0)))
      | inr e ↦ rw e (omega (arith, both_from test xs (a + 0) (b + 1)))
    ]

both : {X : Type 0} (test : X → Bool) (xs : List X) → count_by test xs + count_by (λ x. not (test x)) xs ≡ length xs
both test xs = omega (arith, both_from test xs 0 0)

pub count_others : {X : Type 0} (test : X → Bool) (xs : List X) → length xs - count_by test xs ≡ count_by (λ x. not (test x)) xs
count_others test xs = omega (arith, both test xs)

abbrev pub reply_at : Walk → Reply
reply_at walk = reply.At (position_of walk) (shown_of walk.state walk.answer)

module _ (p : List Packed) (frames : List Frame) (bps : List Bool) (n : ℕ) (frame : Frame) (there : slice_get frames n ≡ Some frame) where
  chain_there : (walk : Walk) (m : ℕ) → chain_at (session_state p frames bps (Some n) walk) (record { frame = n; m = m }) ≡ chain_of p frame
  chain_there walk m = ap (λ (o : Option Frame). option_map_or (λ f. chain_of p f) o []) there

  pub shows_at : (walk : Walk) → IsOn p frame walk → Shows (session_state p frames bps (Some n) walk) (reply_at walk)
  shows_at walk on = record {
    place = record { frame = n; m = position_of walk };
    selected = refl;
    shown = shown_of walk.state walk.answer;
    entry = rw there on.entry;
    says = refl;
  }

  pub gives_select : (selected : Option ℕ) (before walk : Walk) → n < length frames → IsOn p frame walk → position_of walk ≡ 0
      → Gives (session_state p frames bps selected before) (command.Select n) (Ok (reply_at walk)) (session_state p frames bps (Some n) walk)
  gives_select selected before walk lt on begins =
      let test : nat_lt n (length frames) ≡ true = lt-ltb n (length frames) lt in
      (rw test refl, ap (λ (m : ℕ). record { program = p; frames = frames; place = Some (record { frame = n; m = m }); breakpoints = bps }) begins, shows_at walk on)

  module _ (before after : Walk) where
    pub gives_step : (d : ℤ) → IsOn p frame after → position_of after ≡ moved_by d (chain_of p frame) (position_of before)
        → Gives (session_state p frames bps (Some n) before) (command.Step d) (Ok (reply_at after)) (session_state p frames bps (Some n) after)
    gives_step d on moved =
        let to : position_of after ≡ moved_by d (chain_at (session_state p frames bps (Some n) before) (record { frame = n; m = position_of before })) (position_of before) =
        moved ∙ ap (λ chain. moved_by d chain (position_of before)) (sym (chain_there before (position_of before))) in
        (refl, ap (λ (m : ℕ). record { program = p; frames = frames; place = Some (record { frame = n; m = m }); breakpoints = bps }) to, shows_at after on)

    pub refuses_step : (d : ℤ) → position_of after ≡ position_of before → position_of before < moved_by d (chain_of p frame) (position_of before)
        → Gives (session_state p frames bps (Some n) before) (command.Step d) (Err Memory) (session_state p frames bps (Some n) after)
    refuses_step d same farther =
        ((refl, rw there farther), ap (λ (m : ℕ). record { program = p; frames = frames; place = Some (record { frame = n; m = m }); breakpoints = bps }) same)

    pub gives_cont : IsOn p frame after → position_of after ≡ next_stop bps (chain_of p frame) (position_of before)
        → Gives (session_state p frames bps (Some n) before) command.Cont (Ok (reply_at after)) (session_state p frames bps (Some n) after)
    gives_cont on moved =
        let to : position_of after ≡ next_stop bps (chain_at (session_state p frames bps (Some n) before) (record { frame = n; m = position_of before })) (position_of before) =
        moved ∙ ap (λ chain. next_stop bps chain (position_of before)) (sym (chain_there before (position_of before))) in
        (refl, ap (λ (m : ℕ). record { program = p; frames = frames; place = Some (record { frame = n; m = m }); breakpoints = bps }) to, shows_at after on)

    pub refuses_cont : position_of after ≡ position_of before → position_of before < next_stop bps (chain_of p frame) (position_of before)
        → Gives (session_state p frames bps (Some n) before) command.Cont (Err Memory) (session_state p frames bps (Some n) after)
    refuses_cont same farther =
        ((refl, rw there farther), ap (λ (m : ℕ). record { program = p; frames = frames; place = Some (record { frame = n; m = m }); breakpoints = bps }) same)

-- the selected frame
pub frame_of : (p : List Packed) (frames : List Frame) (walk : Walk) (selected : Option ℕ) (n : ℕ) → selected ≡ Some n → MatchOption selected ⊤ (IsOnFrame p frames walk) → IsOnFrame p frames walk n
frame_of p frames walk selected n e h = subst (λ (o : Option ℕ). MatchOption o ⊤ (IsOnFrame p frames walk)) e h

pub some_at : {X : Type 0} (xs : List X) (n : ℕ) → n < length xs → (x : X) × (slice_get xs n ≡ Some x)
some_at [] n lt = absurd (omega arith)
some_at (x ∷ xs) zero lt = (x, refl)
some_at (x ∷ xs) (suc n) lt = some_at xs n (omega arith)
