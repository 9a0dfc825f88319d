-- The tally of lines and one more.
use Rattle.std.proofs.Common.{◌≡◌, ℕ, ◌+◌, ◌-◌, ◌^◌, ◌<◌, ◌==◌, Bool, true, false, cond, List, [], ◌∷◌, ◌++◌, length, min, count_by, slice_index, slice_set, is_some, refl, sym, ap, ◌∙◌, inl, inr, lit<, arith}
use Rattle.std.proofs.lemmas.Bool.{cases_Bool, eqb-true, eqb-false}
use Rattle.std.proofs.lemmas.List.Sums.{sum_by-append}
use Rattle.std.proofs.lemmas.List.{get_or-set_same, get_or-set_other}
use Rattle.transit_run.specs.Counts.{IsTallyOf, capped, is_before, has_come_out, has_fate, has_origin, with_before, with_after}
use Rattle.transit_run.specs.Outcome.{fate_place, origin_place}
use Rattle.transit_run.specs.declared.line.Line.{Line}
use Rattle.transit_run.specs.declared.line.Line.TheVariants.{Before, After}
use Rattle.transit_run.specs.declared.line.BeforeLine.{BeforeLine}
use Rattle.transit_run.specs.declared.line.AfterLine.{AfterLine}
use Rattle.transit_run.specs.declared.outcome.Fate.{Fate}
use Rattle.transit_run.specs.declared.outcome.Fate.TheVariants as fate
use Rattle.transit_run.specs.declared.outcome.Origin.{Origin}
use Rattle.transit_run.specs.declared.outcome.Origin.TheVariants as origin
use Rattle.transit_run.specs.declared.tally.Tally.{Tally}

count_push : {X : Type 0} (p : X → Bool) (xs : List X) (x : X) → count_by p (xs ++ x ∷ []) ≡ count_by p xs + cond (p x) 1 0
count_push {X} p xs x =
    let last : count_by p (x ∷ []) ≡ cond (p x) 1 0 = omega arith in
    sum_by-append (λ (y : X). cond (p y) 1 0) xs (x ∷ []) ∙ ap (λ (n : ℕ). count_by p xs + n) last

capped_more : (n : ℕ) → capped (capped n + 1) ≡ capped (n + 1)
capped_more n = omega arith

pub counted_yes : {X : Type 0} (p : X → Bool) (xs : List X) (x : X) (n : ℕ) → n ≡ capped (count_by p xs) → p x ≡ true →
    capped (n + 1) ≡ capped (count_by p (xs ++ x ∷ []))
counted_yes p xs x n e t =
    ap (λ (k : ℕ). capped (k + 1)) e ∙ capped_more (count_by p xs)
    ∙ ap capped (sym (count_push p xs x ∙ ap (λ (b : Bool). count_by p xs + cond b 1 0) t))

pub counted_no : {X : Type 0} (p : X → Bool) (xs : List X) (x : X) (n : ℕ) → n ≡ capped (count_by p xs) → p x ≡ false →
    n ≡ capped (count_by p (xs ++ x ∷ []))
counted_no p xs x n e f =
    let none : count_by p xs + 0 ≡ count_by p xs = omega arith in
    e ∙ ap capped (sym (count_push p xs x ∙ ap (λ (b : Bool). count_by p xs + cond b 1 0) f ∙ none))

pub counted_if : {X : Type 0} (p : X → Bool) (xs : List X) (x : X) (n : ℕ) (b : Bool) → n ≡ capped (count_by p xs) → p x ≡ b →
    cond b (capped (n + 1)) n ≡ capped (count_by p (xs ++ x ∷ []))
counted_if p xs x n true e t = counted_yes p xs x n e t
counted_if p xs x n false e f = counted_no p xs x n e f

-- the count at some place, where that at the line's place goes up
counted_at : {X : Type 0} (p : X → Bool) (xs : List X) (x : X) (counts : List ℕ) (at place : ℕ) → at < length counts →
    slice_index counts place ≡ capped (count_by p xs) → p x ≡ (at == place) →
    slice_index (slice_set counts at (capped (slice_index counts at + 1))) place ≡ capped (count_by p (xs ++ x ∷ []))
counted_at p xs x counts at place h e t =
    let more : ℕ = capped (slice_index counts at + 1) in
    elim (cases_Bool (at == place)) [
      | inl is_so ↦
          let same : at ≡ place = eqb-true at place is_so in
          ap (λ (k : ℕ). slice_index (slice_set counts at more) k) (sym same) ∙ get_or-set_same counts at more 0 h
          ∙ counted_yes p xs x (slice_index counts at) (ap (λ (k : ℕ). slice_index counts k) same ∙ e) (t ∙ is_so)
      | inr is_not ↦
          get_or-set_other counts at place more 0 (λ q. eqb-false at place is_not (sym q))
          ∙ counted_no p xs x (slice_index counts place) e (t ∙ is_not)
    ]

fate_small : (it : Fate) → fate_place it < 11
fate_small fate.Cut = lit< tt
fate_small fate.Leak = lit< tt
fate_small fate.Lax = lit< tt
fate_small fate.Overtaken = lit< tt
fate_small fate.Slow = lit< tt
fate_small fate.Passed = lit< tt
fate_small fate.Changed = lit< tt
fate_small fate.Open = lit< tt
fate_small fate.Unrouted = lit< tt
fate_small fate.Refused = lit< tt
fate_small fate.Dropped = lit< tt

origin_small : (it : Origin) → origin_place it < 5
origin_small origin.Cut = lit< tt
origin_small origin.Twice = lit< tt
origin_small origin.Open = lit< tt
origin_small origin.Elsewhere = lit< tt
origin_small origin.New = lit< tt

pub tally_before : (tally : Tally) (lines : List Line) (line : BeforeLine) → length tally.fates ≡ 11 → IsTallyOf tally lines →
    IsTallyOf (with_before tally line) (lines ++ Before line ∷ [])
tally_before tally lines line room t = record {
  before = counted_yes is_before lines (Before line) tally.before t.before refl;
  after = counted_if has_come_out lines (Before line) tally.after (is_some line.partner) t.after refl;
  fates = λ it. counted_at (has_fate it) lines (Before line) tally.fates (fate_place line.fate) (fate_place it)
      (omega (arith, room, fate_small line.fate)) (t.fates it) refl;
  origins = λ it. counted_no (has_origin it) lines (Before line) (slice_index tally.origins (origin_place it)) (t.origins it) refl;
}

pub tally_after : (tally : Tally) (lines : List Line) (line : AfterLine) → length tally.origins ≡ 5 → IsTallyOf tally lines →
    IsTallyOf (with_after tally line) (lines ++ After line ∷ [])
tally_after tally lines line room t = record {
  before = counted_no is_before lines (After line) tally.before t.before refl;
  after = counted_yes has_come_out lines (After line) tally.after t.after refl;
  fates = λ it. counted_no (has_fate it) lines (After line) (slice_index tally.fates (fate_place it)) (t.fates it) refl;
  origins = λ it. counted_at (has_origin it) lines (After line) tally.origins (origin_place line.origin) (origin_place it)
      (omega (arith, room, origin_small line.origin)) (t.origins it) refl;
}
