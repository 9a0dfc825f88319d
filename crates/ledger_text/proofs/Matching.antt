-- Which places of a name a pattern matches from.
use Rattle.std.proofs.Common.{◌≡◌, ◌≢◌, ◌∙◌, ℕ, zero, suc, ◌+◌, ◌-◌, ◌<◌, ◌≤◌, ◌==◌, ◌&&◌, ◌||◌, ◌⊎◌, inl, inr, Bool, true, false, cond, List, [], ◌∷◌, ◌++◌, length, drop, get_or, refl, ap, sym, subst, arith, length-drop, drop-cons, add-one, ◌↔◌}
use Rattle.std.proofs.Common.{set, replicate, get_or-set_same, get_or-set_other}
use Rattle.std.proofs.lemmas.List.{length-set}
use Rattle.ledger_text.proofs.Tables.{all_false}
use Rattle.std.proofs.lemmas.Bool.Decides.{leb_tells, eqb_tells}
use Rattle.ledger_text.specs.Pattern.{first_text, next_texts, filled, IsMatch}

-- from each place, the pattern matches the rest of the name just where the table says so
abbrev pub Meets : List ℕ → List ℕ → List Bool → Type 0
Meets pattern name from = (i : ℕ) → i ≤ length name → (get_or from i false ≡ true) ↔ IsMatch pattern (drop i name)

empty_list : (xs : List ℕ) → length xs ≡ 0 → xs ≡ []
empty_list [] e = refl
empty_list (x ∷ xs) e = absurd (omega arith)

rest : (name : List ℕ) (i : ℕ) → i < length name → drop i name ≡ get_or name i 0 ∷ drop (i + 1) name
rest name i h = rw (add-one, drop-cons name i 0) refl

pub meets_end : (name : List ℕ) (from : List Bool) → get_or from (length name) false ≡ true → ((i : ℕ) → i < length name → get_or from i false ≡ false) → Meets [] name from
meets_end name from last others i b = elim (leb_tells (length name) i) [
  | inl h ↦
      let same : length name ≡ i = omega (arith, h.1) in
      let none : drop i name ≡ [] = empty_list (drop i name) (omega (arith, length-drop i name)) in
      (λ t. ([], sym none), λ m. subst (λ (n : ℕ). get_or from n false ≡ true) same last)
  | inr h ↦
      let f = others i h.1 in
      (λ t. absurd (cc), λ m. absurd (omega (arith, ap length m.1, length-drop i name, h.1)))
]

filled_letter : (c : ℕ) (p : List ℕ) (texts : List (List ℕ)) → c ≢ 42 → filled (c ∷ p) texts ≡ c ∷ filled p texts
filled_letter c p texts ne = elim (eqb_tells c 42) [
  | inl e ↦ absurd (ne e.1)
  | inr e ↦ ap (λ (b : Bool). cond b (first_text texts ++ filled p (next_texts texts)) (c ∷ filled p texts)) e.0
]

and_parts : (a b : Bool) → a && b ≡ true → (a ≡ true) × (b ≡ true)
and_parts true b e = (refl, e)
and_parts false b e = absurd (cc)

or_parts : (a b : Bool) → a || b ≡ true → (a ≡ true) ⊎ (b ≡ true)
or_parts true b e = inl refl
or_parts false b e = inr e

or_second : (a b : Bool) → b ≡ true → a || b ≡ true
or_second true b e = refl
or_second false b e = e

both : (a b : Bool) → a ≡ true → b ≡ true → a && b ≡ true
both true b e f = f
both false b e f = absurd (cc)

equal_test : (a b : ℕ) → (a == b) ≡ true → a ≡ b
equal_test a b t = elim (eqb_tells a b) [ inl e ↦ e.1 | inr e ↦ absurd (let f = e.0 in cc) ]

test_equal : (a b : ℕ) → a ≡ b → (a == b) ≡ true
test_equal a b t = elim (eqb_tells a b) [ inl e ↦ e.0 | inr e ↦ absurd (e.1 t) ]

pub meets_letter : (c : ℕ) (p name : List ℕ) (old new : List Bool) → c ≢ 42 → Meets p name old → get_or new (length name) false ≡ false
    → ((i : ℕ) → i < length name → get_or new i false ≡ ((get_or name i 0 == c) && get_or old (i + 1) false)) → Meets (c ∷ p) name new
meets_letter c p name old new ne meets last others i b = elim (leb_tells (length name) i) [
  | inl h ↦
      let same : length name ≡ i = omega (arith, h.1) in
      let f : get_or new i false ≡ false = subst (λ (n : ℕ). get_or new n false ≡ false) same last in
      (λ t. absurd (cc), λ m. absurd (omega (arith, ap length (sym (filled_letter c p m.0 ne) ∙ m.1), length-drop i name)))
  | inr h ↦
      let is = others i h.1 in
      let later = meets (i + 1) (omega (arith, h.1)) in (
        λ t.
            let parts = and_parts (get_or name i 0 == c) (get_or old (i + 1) false) (sym is ∙ t) in
            let here : get_or name i 0 ≡ c = equal_test (get_or name i 0) c parts.0 in
            let m = later.0 parts.1 in
            (m.0, filled_letter c p m.0 ne ∙ (ap (λ (x : ℕ). x ∷ filled p m.0) (sym here) ∙ (ap (λ (xs : List ℕ). get_or name i 0 ∷ xs) m.1 ∙ sym (rest name i h.1)))),
        λ m.
            let e : c ∷ filled p m.0 ≡ get_or name i 0 ∷ drop (i + 1) name = sym (filled_letter c p m.0 ne) ∙ (m.1 ∙ rest name i h.1) in
            let here : get_or name i 0 ≡ c = cc in
            let more : filled p m.0 ≡ drop (i + 1) name = cc in
            is ∙ both (get_or name i 0 == c) (get_or old (i + 1) false) (test_equal (get_or name i 0) c here) (later.1 (m.0, more)),
      )
]

star_cases : (p : List ℕ) (texts : List (List ℕ)) (m : List ℕ) → first_text texts ++ filled p (next_texts texts) ≡ m
    → IsMatch p m ⊎ ((x : ℕ) × (xs : List ℕ) × (x ∷ (xs ++ filled p (next_texts texts)) ≡ m))
star_cases p [] m e = inl ([], e)
star_cases p ([] ∷ ts) m e = inl (ts, e)
star_cases p ((x ∷ xs) ∷ ts) m e = inr (x, xs, e)

star_from : (p name : List ℕ) (old new : List Bool) → Meets p name old → get_or new (length name) false ≡ get_or old (length name) false
    → ((i : ℕ) → i < length name → get_or new i false ≡ (get_or old i false || get_or new (i + 1) false))
    → (k i : ℕ) → i + k ≡ length name → (get_or new i false ≡ true) ↔ IsMatch (42 ∷ p) (drop i name)
star_from p name old new meets last others zero i e =
    let same : length name ≡ i = omega arith in
    let here : get_or new i false ≡ get_or old i false = subst (λ (n : ℕ). get_or new n false ≡ get_or old n false) same last in
    let at = meets i (omega arith) in (
      λ t. let m = at.0 (sym here ∙ t) in ([] ∷ m.0, m.1),
      λ m. elim (star_cases p m.0 (drop i name) m.1) [
        | inl n ↦ here ∙ at.1 n
        | inr x ↦ absurd (omega (arith, ap length x.2, length-drop i name))
      ],
    )
star_from p name old new meets last others (suc k) i e =
    let lt : i < length name = omega arith in
    let is = others i lt in
    let at = meets i (omega arith) in
    let later = star_from p name old new meets last others k (i + 1) (omega arith) in
    let next = rest name i lt in (
      λ t. elim (or_parts (get_or old i false) (get_or new (i + 1) false) (sym is ∙ t)) [
        | inl o ↦ let m = at.0 o in ([] ∷ m.0, m.1)
        | inr o ↦ let m = later.0 o in ((get_or name i 0 ∷ first_text m.0) ∷ next_texts m.0, ap (λ (xs : List ℕ). get_or name i 0 ∷ xs) m.1 ∙ sym next)
      ],
      λ m. elim (star_cases p m.0 (drop i name) m.1) [
        | inl n ↦ is ∙ ap (λ (b : Bool). b || get_or new (i + 1) false) (at.1 n)
        | inr x ↦
            let f : x.0 ∷ (x.1 ++ filled p (next_texts m.0)) ≡ get_or name i 0 ∷ drop (i + 1) name = x.2 ∙ next in
            let g : x.1 ++ filled p (next_texts m.0) ≡ drop (i + 1) name = cc in
            is ∙ or_second (get_or old i false) (get_or new (i + 1) false) (later.1 (x.1 ∷ next_texts m.0, g))
      ],
    )

pub meets_star : (p name : List ℕ) (old new : List Bool) → Meets p name old → get_or new (length name) false ≡ get_or old (length name) false
    → ((i : ℕ) → i < length name → get_or new i false ≡ (get_or old i false || get_or new (i + 1) false)) → Meets (42 ∷ p) name new
meets_star p name old new meets last others i b = star_from p name old new meets last others (length name - i) i (omega arith)

pub begins : (zeros : List Bool) (pattern name : List ℕ) → zeros ≡ replicate 33 false → length name ≤ 32
    → (length (set zeros (length name) true) ≡ 33) × Meets (drop (length pattern) pattern) name (set zeros (length name) true)
begins zeros pattern name e h =
    let len : length zeros ≡ 33 = ap length e in
    let none : drop (length pattern) pattern ≡ [] = empty_list (drop (length pattern) pattern) (omega (arith, length-drop (length pattern) pattern)) in
    let lt : length name < length zeros = omega arith in (
      omega (arith, length-set {A = Bool}),
      subst (λ (p : List ℕ). Meets p name (set zeros (length name) true)) (sym none)
          (meets_end name (set zeros (length name) true) (rw get_or-set_same refl)
          (λ i b. let ne : i ≢ length name = omega arith in rw get_or-set_other (all_false zeros 33 i e))),
    )

step : (pattern : List ℕ) (at : ℕ) → 0 < at → at ≤ length pattern → drop (at - 1) pattern ≡ get_or pattern (at - 1) 0 ∷ drop at pattern
step pattern at some b =
    let same : at - 1 + 1 ≡ at = omega arith in
    subst (λ (k : ℕ). drop (at - 1) pattern ≡ get_or pattern (at - 1) 0 ∷ drop k pattern) same (rest pattern (at - 1) (omega arith))

pub star_step : (pattern name : List ℕ) (at : ℕ) (old new : List Bool) → 0 < at → at ≤ length pattern → get_or pattern (at - 1) 0 ≡ 42 → Meets (drop at pattern) name old
    → get_or new (length name) false ≡ get_or old (length name) false
    → ((i : ℕ) → i < length name → get_or new i false ≡ (get_or old i false || get_or new (i + 1) false)) → Meets (drop (at - 1) pattern) name new
star_step pattern name at old new some b star meets last others =
    let e : drop (at - 1) pattern ≡ 42 ∷ drop at pattern = step pattern at some b ∙ ap (λ (c : ℕ). c ∷ drop at pattern) star in
    subst (λ (p : List ℕ). Meets p name new) (sym e) (meets_star (drop at pattern) name old new meets last others)

pub letter_step : (pattern name : List ℕ) (at : ℕ) (old new : List Bool) → 0 < at → at ≤ length pattern → get_or pattern (at - 1) 0 ≢ 42 → Meets (drop at pattern) name old
    → get_or new (length name) false ≡ false
    → ((i : ℕ) → i < length name → get_or new i false ≡ ((get_or name i 0 == get_or pattern (at - 1) 0) && get_or old (i + 1) false)) → Meets (drop (at - 1) pattern) name new
letter_step pattern name at old new some b ne meets last others =
    subst (λ (p : List ℕ). Meets p name new) (sym (step pattern at some b))
    (meets_letter (get_or pattern (at - 1) 0) (drop at pattern) name old new ne meets last others)
